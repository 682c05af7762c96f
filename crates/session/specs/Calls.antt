-- The commands of the camera calls: their codes and parameters.
-- Assumes nothing.
use Rattle.std.specs.Prelude.{ℕ, List, [], ◌∷◌, length, slice_index}
use Rattle.wire.specs.declared.container.Command.{Command}

-- the parameters that there are, and 0 for each other; a count over five is refused, so that no more than five are meant
abbrev pub command_of : ℕ → List ℕ → Command
command_of code ps = record { code = code; params = slice_index ps 0 ∷ slice_index ps 1 ∷ slice_index ps 2 ∷ slice_index ps 3 ∷ slice_index ps 4 ∷ []; count = length ps }

-- for a handle: all objects at the root, and all objects. No filter is 0
abbrev pub roots : ℕ
roots = 0xFFFFFFFF

abbrev pub everywhere : ℕ
everywhere = 0

abbrev pub get_object_info : ℕ → Command
get_object_info handle = command_of 0x1008 (handle ∷ [])

abbrev pub get_object : ℕ → Command
get_object handle = command_of 0x1009 (handle ∷ [])

abbrev pub get_object_handles : ℕ → ℕ → ℕ → Command
get_object_handles storage filter handle = command_of 0x1007 (storage ∷ filter ∷ handle ∷ [])

abbrev pub get_num_objects : ℕ → ℕ → ℕ → Command
get_num_objects storage filter handle = command_of 0x1006 (storage ∷ filter ∷ handle ∷ [])

abbrev pub get_storage_info : ℕ → Command
get_storage_info storage = command_of 0x1005 (storage ∷ [])

abbrev pub get_device_info : Command
get_device_info = command_of 0x1001 (0 ∷ 0 ∷ 0 ∷ [])

abbrev pub open_session : Command
open_session = command_of 0x1002 (3 ∷ 0 ∷ 0 ∷ [])

abbrev pub get_storage_ids : Command
get_storage_ids = command_of 0x1004 []

abbrev pub close_session : Command
close_session = command_of 0x1003 []
