-- A value's reader looks at the value's own bytes alone: one line for each way that it is made.
-- Assumes nothing.
use mathlib.Core.List.{[]}
use Prim.Native.Nat.{ℕ, zero, suc, ◌*◌}
use lib.ListN.{length}
use Rattle.layout.specs.Answer.{bad_text}
use Rattle.layout.specs.Bytes.{bytes, number, cells}
use Rattle.layout.specs.Codec.{numbered, spared, celled}
use Rattle.layout.proofs.laws.Local.{Local, nothing_local, field_local, and_local, leading_local, only_local, through_local, as_field_local}
use Rattle.wire.specs.Layout.{width, paired, text_count, Shape, one, many, string, undef, shape}
use Rattle.wire.specs.Codecs.{units, text, array, shaped, value}

numbered_local : (k : ℕ) → Local (numbered k)
numbered_local k = field_local k number (bytes k)

celled_local : (k n : ℕ) → Local (celled k n)
celled_local k n = field_local (n * k) (cells k n) _

spared_local : (k : ℕ) → Local (spared k)
spared_local k = leading_local (numbered_local k) _ λ _. nothing_local tt

units_local : (n : ℕ) → Local (units n)
units_local zero = nothing_local []
units_local (suc n) = only_local bad_text paired (through_local _ _ (and_local (celled_local 2 n) λ _. spared_local 2))

text_local : Local text
text_local = as_field_local (leading_local (numbered_local 1) text_count units_local)

array_local : (w : ℕ) → Local (array w)
array_local w = as_field_local (leading_local (numbered_local 4) length λ n. celled_local w n)

shaped_local : (x : Shape) → Local (shaped x)
shaped_local (one k) = through_local _ _ (numbered_local (width k))
shaped_local (many k) = through_local _ _ (array_local (width k))
shaped_local string = through_local _ _ text_local
shaped_local undef = nothing_local _

pub value_local : (t : ℕ) → Local (value t)
value_local t = shaped_local (shape t)
