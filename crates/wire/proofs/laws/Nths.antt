-- The values of a description's list, against the reading's own: the k-th that `nth` answers is the reading's k-th, and steps give all of them, then the end.
-- Assumes nothing.
use mathlib.Core.Path.{◌≡◌, refl, ap, sym, ◌∙◌, subst}
use mathlib.Core.Bool.{Bool}
use mathlib.Core.List.{List, [], ◌∷◌}
use Prim.Native.Nat.{ℕ, zero, suc, ◌+◌, ◌-◌, ◌≤◌, ◌<◌}
use native.Mathlib.Omega.{arith}
use borrow.Author.Tests.{ne_eqb, lt-ltb, le-ltb}
use lib.Dec.{eqb}
use denote.Ref.{Bor}
use lib.ListN.{length, take, get_or}
use Rattle.layout.specs.Answer.{Told, Answer, got, refused, after, means}
use Rattle.layout.specs.Bytes.{Bytes}
use Rattle.layout.specs.Codec.{repeated}
use Rattle.layout.specs.Grammar.{loose}
use Rattle.layout.proofs.laws.Make.{repeat_format, repeat_length}
use Rattle.layout.proofs.laws.Reading.{pick_alike}
use Rattle.layout.proofs.laws.Numbers.{zero_one}
use Rattle.wire.specs.declared.list.Step.{Step}
use Rattle.std.specs.declared.option.Option.{Option}
use Rattle.wire.specs.declared.list.Values.{Values}
use Rattle.wire.specs.Description.{PropInfo}
use Rattle.wire.specs.declared.property.Slot.{Slot}
use Rattle.wire.specs.Description as form
use Rattle.wire.specs.Layout.{Val, nil, shape, Value, list}
use Rattle.wire.specs.Codecs.{value}
use Rattle.wire.specs.Places.{Located}
use Rattle.wire.specs.Property.{between, values_at, property_at, values_in, form_in, property_in}
use Rattle.wire.specs.List.{value_slot, nth_value, nth_in, nth_at, place_from, place_of, list_at, next, end, step_at, says_step, Nexts}
use Rattle.wire.specs.Worded.{WordedValue, WordedForm, a_list, Nth, Nths, Yields, ended, yields, values_of}
use Rattle.wire.proofs.Described.{located_is}
use Rattle.wire.proofs.laws.Formats.{value_format}
use Rattle.wire.proofs.Held.{worded, read_back, held}
use Rattle.wire.proofs.Worded.{value_worded}

-- what reading n values finds, the first of them and the rest
past : (t n : ℕ) (s : List ℕ) (at : ℕ) (vs : List Val) (m : ℕ) → (repeated (suc n) (value t)).read s at ≡ got vs m
    → (v : Val) × (q : ℕ) × (ws : List Val) × ((value t).read s at ≡ got v q) × ((repeated n (value t)).read s q ≡ got ws m) × (vs ≡ v ∷ ws)
unfolding means after
past t n s at vs m e = first ((value t).read s at) refl e
  where
    rest : (v : Val) (q : ℕ) (x : Answer (List Val)) → (repeated n (value t)).read s q ≡ x → (value t).read s at ≡ got v q
        → means (λ (y : Val × List Val). y.0 ∷ y.1) (means (λ b. (v, b)) x) ≡ got vs m
        → (v : Val) × (q : ℕ) × (ws : List Val) × ((value t).read s at ≡ got v q) × ((repeated n (value t)).read s q ≡ got ws m) × (vs ≡ v ∷ ws)
    rest v q (got ws k) f g e = let h : k ≡ m = cc in (v, q, ws, g, f ∙ ap (got ws) h, cc)
    rest v q (refused u) f g e = zero_one (cc)

    first : (x : Answer Val) → (value t).read s at ≡ x → means (λ (y : Val × List Val). y.0 ∷ y.1) (after x λ a q. means (λ b. (a, b)) ((repeated n (value t)).read s q)) ≡ got vs m
        → (v : Val) × (q : ℕ) × (ws : List Val) × ((value t).read s at ≡ got v q) × ((repeated n (value t)).read s q ≡ got ws m) × (vs ≡ v ∷ ws)
    first (got v q) f e = rest v q ((repeated n (value t)).read s q) refl f e
    first (refused u) f e = zero_one (cc)

-- where n values are read, the k before one of them are, and then that one; it ends where they end or earlier
split_at : (t : ℕ) (s : List ℕ) → Bytes s → (k n : ℕ) → k < n → (at : ℕ) → at ≤ length s → (vs : List Val) (m : ℕ) → (repeated n (value t)).read s at ≡ got vs m
    → (q : ℕ) × (e : ℕ) × ((repeated k (value t)).read s at ≡ got (take k vs) q) × ((value t).read s q ≡ got (get_or vs k nil) e) × (e ≤ m)
unfolding means after
split_at t s h k zero lt at w vs m r = let z : ⊥ = omega arith in absurd z
split_at t s h zero (suc n) lt at w vs m r =
    let p = past t n s at vs m r in
    let a = worded (value_format t) s h at w p.0 p.1 p.3 in
    let b = worded (repeat_format n (value_format t)) s h p.1 a.2 p.2 m p.4 in
    (at, p.1, refl, p.3 ∙ ap (λ xs. got (get_or xs 0 nil) p.1) (sym p.5), b.1)
split_at t s h (suc k) (suc n) lt at w vs m r =
    let p = past t n s at vs m r in
    let a = worded (value_format t) s h at w p.0 p.1 p.3 in
    let i = split_at t s h k n (omega arith) p.1 a.2 p.2 m p.4 in
    let front : (repeated (suc k) (value t)).read s at ≡ got (take (suc k) (p.0 ∷ p.2)) i.0 = rw (p.3, i.2) in
    (i.0, i.1, front ∙ ap (λ xs. got (take (suc k) xs) i.0) (sym p.5), i.3 ∙ ap (λ xs. got (get_or xs (suc k) nil) i.1) (sym p.5), i.4)

-- the k-th of n values
nth_read : (t : ℕ) (s : List ℕ) → Bytes s → (k n at : ℕ) → k < n → at ≤ length s → (vs : List Val) (m : ℕ) → (repeated n (value t)).read s at ≡ got vs m
    → (l : Located) × (p : Slot) × (e : ℕ) × (nth_value t k s at ≡ got (l, p) e) × Nth t s (between at m) vs k l p e
unfolding nth_value values_at value_slot after
nth_read t s h k n at lt w vs m r =
    let i = split_at t s h k n lt at w vs m r in
    let a = worded (repeat_format k (value_format t)) s h at w (take k vs) i.0 i.2 in
    let b = worded (value_format t) s h i.0 a.2 (get_or vs k nil) i.1 i.3 in
    let l = located_is t s i.0 (get_or vs k nil) i.1 i.3 in
    let stop : i.1 ≤ m = i.4 in (
      l.0,
      between i.0 i.1,
      i.1,
      rw (i.2, l.1),
      record {
        bytes = b.0;
        is = subst (WordedValue s i.0 i.1 (shape t) l.0) l.2 (value_worded s h (shape t) i.0 a.2 l.0 i.1 l.1);
        gap = i.0 - at;
        from = omega (arith, a.1);
        before = a.0;
        till = omega (arith, a.1, b.1, i.4);
        after = omega (arith, b.1);
      },
    )

-- steps over n values
module _ (t : ℕ) (s : List ℕ) (h : Bytes s) where
  steps_read : (n : ℕ) (l : Values) → l.src.now ≡ s → l.ty ≡ t → l.left ≡ n → l.refusal ≡ 0 → l.at ≤ length s → (vs : List Val) (m : ℕ) → (repeated n (value t)).read s l.at ≡ got vs m → Yields t s l vs
  unfolding step_at
  steps_read zero l of ty left fine w vs m r = let f : [] ≡ vs = cc in rw (← f) (ended {l = l} λ a promised. promised ∙ rw (left, fine))
  steps_read (suc n) l of ty left fine w vs m r =
      let p = past t n s l.at vs m r in
      let a = worded (value_format t) s h l.at w p.0 p.1 p.3 in
      let x = located_is t s l.at p.0 p.1 p.3 in
      let less : suc n - 1 ≡ n = omega arith in
      let far : p.1 ≡ l.at + (p.1 - l.at) = omega (arith, a.1) in
      let here : step_at l.src.now l.ty l.at l.left l.refusal ≡ next x.0 p.1 n = rw (of, ty, left, fine, ne_eqb (suc n) 0 (λ z. omega arith), x.1, less) in
      let is : WordedValue s l.at p.1 (shape t) x.0 p.0 = subst (WordedValue s l.at p.1 (shape t) x.0) x.2 (value_worded s h (shape t) l.at w x.0 p.1 x.1) in
      rw p.5
      (yields {l = l} {len = p.1 - l.at} {rest = n} a.0
      (λ q promised. (x.0, promised ∙ here ∙ ap (λ e. next x.0 e n) far, subst (λ e. WordedValue s l.at e (shape t) x.0 p.0) far is))
      λ k moved.
      let at : k.at ≡ p.1 = moved.2 ∙ sym far in
      steps_read n k (ap (λ x. x.now) moved.0 ∙ of) (moved.1 ∙ ty) moved.3 (moved.4 ∙ fine) (omega (arith, at, a.2)) p.2 m (ap (λ e. (repeated n (value t)).read s e) at ∙ p.4))

-- ── of a description ──

module _ (there : Bool) (s : List ℕ) (h : Bytes s) (x : PropInfo) (n : ℕ) (read : property_at there s 0 ≡ got x n) where
  abbrev pub its : List Val
  its = values_of (property_in s x).form

  -- its list, if it has one
  listed : (all : Slot) (count : ℕ) → x.form ≡ form.list all count
      → ((repeated count (value x.data_type)).read s all.start ≡ got its (all.start + all.len)) × (all.start ≤ length s) × (count ≡ length its)
  listed all count e = go (subst (λ f. WordedForm x.data_type s f (form_in x.data_type s f)) e (held s h there x n read).form)
    where
      go : WordedForm x.data_type s (form.list all count) (list (values_in x.data_type s all count))
          → ((repeated count (value x.data_type)).read s all.start ≡ got its (all.start + all.len)) × (all.start ≤ length s) × (count ≡ length its)
      go (a_list w) =
          let same : its ≡ values_in x.data_type s all count = rw e in
          let size = repeat_length (Value x.data_type) loose count _ _ w.reads in
          (rw same (read_back (repeat_format count (value_format x.data_type)) w), omega (arith, w.within), rw same (sym size))

  pub nths : (k : ℕ) → Nths x.data_type s x.form its k (nth_at there k s)
  unfolding nth_at nth_in after
  nths k = go x.form refl
    where
      go : (f : form.Form) → x.form ≡ f → Nths x.data_type s x.form its k (nth_at there k s)
      go (form.list all count) e =
          let r = listed all count e in
          let same : between all.start (all.start + all.len) ≡ all = ap (λ m. record { start = all.start; len = m }) (omega arith) in
          record {
            found = λ lt.
                let a = nth_read x.data_type s h k count all.start (omega (arith, r.2)) r.1 its (all.start + all.len) r.0 in
                let at-k : nth_at there k s ≡ nth_value x.data_type k s all.start = rw (read, e, lt-ltb k count (omega (arith, r.2))) in
                (all, a.0, a.1, a.2, e ∙ ap (form.list all) r.2, at-k ∙ a.3, rw same at a.4);
            past = λ le. rw (read, e, le-ltb k count (omega (arith, r.2)));
          }
      go (form.range a b c) e = record {
        found = λ lt. let none : its ≡ [] = rw e in let z : ⊥ = omega (arith, ap length none) in absurd z;
        past = λ le. rw (read, e);
      }
      go form.absent e = record {
        found = λ lt. let none : its ≡ [] = rw e in let z : ⊥ = omega (arith, ap length none) in absurd z;
        past = λ le. rw (read, e);
      }

  pub steps : (src : Bor (List ℕ)) → src.now ≡ s → (l : Values) → l ≡ list_at src (place_of there s) → Yields x.data_type s l its
  steps src of l is = rw is (go x.form refl)
    where
      empty : place_of there s ≡ record { ty = x.data_type; at = 0; left = 0; refusal = 0 } → its ≡ [] → Yields x.data_type s (list_at src (place_of there s)) its
      empty q none = rw (none, q) (steps_read x.data_type s h 0 (list_at src (record { ty = x.data_type; at = 0; left = 0; refusal = 0 })) of refl refl refl (omega arith) [] 0 refl)

      go : (f : form.Form) → x.form ≡ f → Yields x.data_type s (list_at src (place_of there s)) its
      go (form.list all count) e =
          let r = listed all count e in
          let q : place_of there s ≡ record { ty = x.data_type; at = all.start; left = count; refusal = 0 } = ap place_from read ∙ rw e in
          rw q (steps_read x.data_type s h count (list_at src (record { ty = x.data_type; at = all.start; left = count; refusal = 0 })) of refl refl refl r.1 its (all.start + all.len) r.0)
      go (form.range a b c) e = empty (ap place_from read ∙ rw e) (rw e)
      go form.absent e = empty (ap place_from read ∙ rw e) (rw e)

-- a refused description has no value
module _ (there : Bool) (s : List ℕ) (t : Told) (read : property_at there s 0 ≡ refused t) where
  pub nth_none : (k : ℕ) → nth_at there k s ≡ refused t
  unfolding nth_at after
  nth_none k = rw read

  pub steps_none : (src : Bor (List ℕ)) (l : Values) → l ≡ list_at src (place_of there s) → (r : Option Step) → Nexts l r → says_step r ≡ end
  unfolding step_at
  steps_none src l is r promised = promised ∙ rw (is, ap place_from read) (pick_alike (eqb t.no 0) end)
