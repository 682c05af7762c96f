-- `wire::write::tidy_text_at`: the string was read, so its tidy spelling is put. Assumes nothing.
use Rattle.layout.proofs.laws.Tidied.{never}
use Rattle.wire.specs.Tidy.{text_word}
use Rattle.wire.proofs.Spelled.{text_stood, word_got, word_refused}
use Rattle.wire.proofs.write.tidy_text_at.Goals as goal

pub returns-in_default : goal.returns-in_default
returns-in_default c =
    let a = c.args in
    never (text_word a.src.now a.at) _ (word_refused a.src.now a.at _ c.in_default.ensures) c.requires.at_value

pub put_text-requires-clause-count_in_bounds : goal.put_text-requires-clause-count_in_bounds
put_text-requires-clause-count_in_bounds c = (text_stood _ _ _ _ c.in-Ok.ensures).fits

pub put_text-requires-clause-src_in_bounds : goal.put_text-requires-clause-src_in_bounds
put_text-requires-clause-src_in_bounds c = let a = c.args in rw (word_got a.src.now a.at _ _ c.in-Ok.ensures) at c.requires.at_in_bounds

pub returns : goal.returns
returns c = let a = c.args in rw (word_got a.src.now a.at _ _ c.in-Ok.ensures) c.put_text.ensures
