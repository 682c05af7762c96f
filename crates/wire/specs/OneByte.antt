-- The two layouts of a description beside each other: an answer by the book, as the crate's layout has it with a byte more behind the fifth.
-- Assumes nothing.
use Rattle.std.specs.Prelude.{List, ◌∷◌, ◌++◌, ℕ, suc, take, drop}
use Rattle.std.proofs.Math.Option.{some}
use Rattle.layout.specs.Answer.{Answer, got, refused, Told, pick}
use Rattle.wire.specs.Description.{Form, PropInfo}
use Rattle.wire.specs.Description as form
use Rattle.wire.specs.declared.property.Slot.{Slot}

-- the bytes with one more behind the fifth
abbrev pub with_byte : ℕ → List ℕ → List ℕ
with_byte b s = take 5 s ++ b ∷ drop 5 s

-- each place is one more; a refusal that has none keeps none
abbrev pub told_on : Told → Told
told_on t = record { no = t.no; placed = t.placed; at = pick t.placed (suc t.at) 0 }

abbrev pub slot_on : Slot → Slot
slot_on p = record { start = suc p.start; len = p.len }

abbrev pub form_on : Form → Form
form_on form.absent = form.absent
form_on (form.range a b c) = form.range (slot_on a) (slot_on b) (slot_on c)
form_on (form.list p n) = form.list (slot_on p) n

abbrev pub info_on : ℕ → PropInfo → PropInfo
info_on b x = record {
  property_code = x.property_code;
  data_type = x.data_type;
  get_set = x.get_set;
  is_enable = some b;
  factory_default = slot_on x.factory_default;
  current = slot_on x.current;
  form = form_on x.form;
}

abbrev pub answer_on : ℕ → Answer PropInfo → Answer PropInfo
answer_on b (got x n) = got (info_on b x) (suc n)
answer_on b (refused t) = refused (told_on t)
