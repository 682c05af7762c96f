-- `panel::allowed`: each form by its own test. Assumes nothing.
use Rattle.std.proofs.Common.{refl, ap, ◌∙◌, rules}
use Rattle.layout.proofs.laws.Numbers.{bytes_of}
use Rattle.wire.specs.Property.{says_form, info_from}
use Rattle.wire.specs.Says.{located}
use Rattle.panel.proofs.Weighing.{range_allows, list_gives, list_allows, none_allows}
use Rattle.panel.proofs.allowed.Goals as goal

pub is_member-requires : goal.is_member-requires
is_member-requires c =
    let s = c in
    let k = s in
    let a = k.args in
    let d = bytes_of a.description.now (λ i. (s.shared_slice_known-1.given i).fits) in
    let g = bytes_of a.chosen.now (λ i. (s.shared_slice_known-2-1.given i).fits) in
    list_gives a.description.now a.chosen.now d g (info_from a.x) k.requires.0 (located a.v) k.requires.1 _ _ (ap says_form c.in-List.is) a.description refl

pub returns-in-Range : goal.returns-in-Range
returns-in-Range c =
    let m = c in
    let s = m in
    let k = s in
    let a = k.args in
    let d = bytes_of a.description.now (λ i. (s.shared_slice_known-1.given i).fits) in
    let g = bytes_of a.chosen.now (λ i. (s.shared_slice_known-2-1.given i).fits) in
    c.in_range.ensures
    ∙ rw (c.whole_of.ensures, c.whole_at-in-Range-2.ensures, c.whole_at-in-Range.ensures, c.whole_at.ensures)
    (range_allows a.description.now a.chosen.now d g (info_from a.x) k.requires.0 (located a.v) k.requires.1 _ _ _ (ap says_form m.in-Range.is))

pub returns-in-List : goal.returns-in-List
returns-in-List c =
    let s = c in
    let k = s in
    let a = k.args in
    let d = bytes_of a.description.now (λ i. (s.shared_slice_known-1.given i).fits) in
    let g = bytes_of a.chosen.now (λ i. (s.shared_slice_known-2-1.given i).fits) in
    list_allows a.description.now a.chosen.now d g (info_from a.x) k.requires.0 (located a.v) k.requires.1 _ _ (ap says_form c.in-List.is) a.description refl c.is_member.result c.is_member.ensures

pub returns-in-Absent : goal.returns-in-Absent
returns-in-Absent c =
    let s = c in
    let k = s in
    let a = k.args in
    let d = bytes_of a.description.now (λ i. (s.shared_slice_known-1.given i).fits) in
    let g = bytes_of a.chosen.now (λ i. (s.shared_slice_known-2-1.given i).fits) in
    none_allows a.description.now a.chosen.now d g (info_from a.x) k.requires.0 (located a.v) k.requires.1 (ap says_form c.in-Absent.is)
