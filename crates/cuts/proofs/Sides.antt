-- The cuts on both sides of a place, by what the passes find. Assumes nothing.
use mathlib.Core.Path.{◌≡◌, refl, sym, ap, ◌∙◌}
use mathlib.Core.Bool.{Bool, true, false, not, ◌&&◌, cond}
use mathlib.Core.List.{List, [], ◌∷◌, ◌++◌}
use Prim.Native.Nat.{◌≤◌, ◌<◌}
use native.Mathlib.Omega.{arith}
use lib.ListN.{length}
use lib.Ieee.{Float, lt}
use Rattle.float.specs.Numbers.{◌⊕◌, ◌⊖◌, ◌⊗◌, 0f, 1e-9}
use Rattle.float.specs.Order.{before}
use Rattle.shape.specs.declared.Range.{Range}
use Rattle.shape.specs.declared.Shape.{Shape}
use Rattle.shape.specs.Measures.{range, is_full}
use Rattle.sketch.specs.Lists.{keep}
use Rattle.cuts.specs.declared.Cut.{Cut}
use Rattle.cuts.specs.declared.Side.{Side}
use Rattle.cuts.specs.declared.Side.TheVariants.{Before, After, NotPast, Past, Any}
use Rattle.cuts.specs.Lists.{first_or, last_or}
use Rattle.cuts.specs.Nearest.{Fit, wanted, end_of, sorted, nearest, or_else, or_of_all}
use Rattle.cuts.specs.Bracket.{within, interior, insert_cut, sort_cuts, in_order, last_one, first_one, beside, around, bracket}
use Rattle.sketch.proofs.Lists.{keep_twice, keep_same}
use Rattle.cuts.proofs.Sorting.{keep_sort, sort_length}
use Rattle.cuts.proofs.Passes.{fit_keep}

-- to filter what is in order is to sort what passes both tests
ordered : (sh : Shape) (p : Cut → Bool) (l : List Cut) → Fit l → keep p (in_order sh l) ≡ sorted (λ k. interior sh k && p k) l
unfolding in_order
ordered sh p l f = keep_sort p [] (keep (interior sh) l) (fit_keep (interior sh) l f) tt ∙ ap (sort_cuts []) (keep_twice p (interior sh) l)

-- ---- of two lists, the first that holds something
last_or_lem : (z : Cut) (l : List Cut) → or_else (last_one l) (z ∷ []) ≡ last_or z l ∷ []
unfolding or_else last_one last_or
last_or_lem z [] = refl
last_or_lem z (k ∷ l) = refl

first_or_lem : (z : Cut) (l : List Cut) → or_else (first_one l) (z ∷ []) ≡ first_or z l ∷ []
unfolding or_else first_one first_or
first_or_lem z [] = refl
first_or_lem z (k ∷ l) = refl

-- ---- two cuts at least, around a place
around_two : (tq : Float) (c : List Cut) (b a : Cut) → 2 ≤ length c
    → b ∷ [] ≡ or_else (last_one (keep (λ i. not (lt tq i.t)) c)) (last_one c) → a ∷ [] ≡ or_else (first_one (keep (λ i. lt tq i.t) c)) (first_one c)
    → cond (before a.t b.t) (a ∷ b ∷ []) (b ∷ a ∷ []) ≡ around tq c
unfolding around sort_cuts insert_cut last_one first_one last_or
around_two tq [] b a h eb ea = absurd (omega arith)
around_two tq (k ∷ []) b a h eb ea = absurd (omega arith)
around_two tq (k ∷ j ∷ l) b a h eb ea =
    let c : List Cut = k ∷ j ∷ l in
    let u : b ≡ last_or (last_or j l) (keep (λ i. not (lt tq i.t)) c) = cc (eb ∙ last_or_lem (last_or j l) (keep (λ i. not (lt tq i.t)) c)) in
    let v : a ≡ first_or k (keep (λ i. lt tq i.t) c) = cc (ea ∙ first_or_lem k (keep (λ i. lt tq i.t) c)) in
    rw (u, v)

around_less : (tq : Float) (c : List Cut) → length c < 2 → [] ≡ around tq c
unfolding around
around_less tq [] h = refl
around_less tq (k ∷ []) h = refl
around_less tq (k ∷ j ∷ l) h = absurd (omega arith)

module _ (last : Bool) (side : Side) (tq : Float) (cuts : List Cut) where
  pub or_there : {k : Cut} → k ∷ [] ≡ nearest last (wanted side 0f 0f tq) cuts → k ∷ [] ≡ or_of_all last side tq cuts
  unfolding or_of_all or_else
  or_there e = rw (← e)

  pub or_all : {l : List Cut} → [] ≡ nearest last (wanted side 0f 0f tq) cuts → l ≡ nearest last (wanted Any 0f 0f tq) cuts → l ≡ or_of_all last side tq cuts
  unfolding or_of_all or_else
  or_all e f = rw (← e) f

-- ---- what there is of a list that holds something
none_at_end : (last : Bool) (l : List Cut) → end_of last l ≡ [] → length l ≡ 0
unfolding end_of last_one first_one
none_at_end true [] e = refl
none_at_end false [] e = refl
none_at_end true (k ∷ l) e = absurd (cc)
none_at_end false (k ∷ l) e = absurd (cc)

none_of_else : (l m : List Cut) → or_else l m ≡ [] → m ≡ []
unfolding or_else
none_of_else [] m e = e
none_of_else (k ∷ l) m e = absurd (cc)

-- ---- of all cuts
module _ (cuts : List Cut) (sh : Shape) (tq : Float) (full : is_full sh ≡ true) where
  all_in_order : in_order sh cuts ≡ sorted (λ k. true) cuts
  unfolding in_order interior
  all_in_order = ap (sort_cuts []) (keep_same (interior sh) (λ k. true) cuts (λ k. rw full))

  cuts_length : length (in_order sh cuts) ≡ length cuts
  cuts_length =
      let o = ap length all_in_order in
      let s = sort_length [] (keep (λ k. true) cuts) in
      let e = ap length (keep_all cuts) in
      omega arith
    where
      keep_all : (l : List Cut) → keep (λ k. true) l ≡ l
      keep_all [] = refl
      keep_all (k ∷ l) = ap (λ (m : List Cut). k ∷ m) (keep_all l)

  pub around_few : length cuts < 2 → [] ≡ around tq (in_order sh cuts)
  around_few h = let e = cuts_length in around_less tq (in_order sh cuts) (omega arith)

module _ (cuts : List Cut) (fit : Fit cuts) where
  -- what is found by a test that the definition makes in two steps
  found_in : (sh : Shape) (last : Bool) (p : Float → Bool) (q : Cut → Bool) → ((k : Cut) → p k.t ≡ (interior sh k && q k)) → nearest last p cuts ≡ end_of last (keep q (in_order sh cuts))
  found_in sh last p q h = ap (λ (l : List Cut). end_of last (sort_cuts [] l)) (keep_same (λ k. p k.t) (λ k. interior sh k && q k) cuts h) ∙ ap (end_of last) (sym (ordered sh q cuts fit))

  -- ---- with ends
  module _ (sh : Shape) (tq : Float) (r : Range) (ends : is_full sh ≡ false) (er : r ≡ range sh) where
    abbrev low : Float
    low = r.start ⊕ 1e-9 ⊗ (r.end ⊖ r.start)

    abbrev high : Float
    high = r.end ⊖ 1e-9 ⊗ (r.end ⊖ r.start)

    before_is : (k : Cut) → wanted Before low high tq k.t ≡ (interior sh k && lt k.t tq)
    unfolding wanted interior within
    before_is k = rw (ends, er)

    after_is : (k : Cut) → wanted After low high tq k.t ≡ (interior sh k && lt tq k.t)
    unfolding wanted interior within
    after_is k = rw (ends, er)

    pub beside_law : (l m : List Cut) → l ≡ nearest true (wanted Before low high tq) cuts → m ≡ nearest false (wanted After low high tq) cuts → l ++ m ≡ beside tq (in_order sh cuts)
    unfolding beside end_of
    beside_law l m el em =
        let u = el ∙ found_in sh true (wanted Before low high tq) (λ k. lt k.t tq) before_is in
        let v = em ∙ found_in sh false (wanted After low high tq) (λ k. lt tq k.t) after_is in
        rw (u, v)

  -- ---- full
  module _ (sh : Shape) (tq : Float) (full : is_full sh ≡ true) where
    found_all : (last : Bool) → nearest last (wanted Any 0f 0f tq) cuts ≡ end_of last (in_order sh cuts)
    unfolding wanted
    found_all last = ap (end_of last) (sym (all_in_order cuts sh tq full))

    found_side : (last : Bool) (side : Side) → nearest last (wanted side 0f 0f tq) cuts ≡ end_of last (keep (λ k. wanted side 0f 0f tq k.t) (in_order sh cuts))
    unfolding interior
    found_side last side = found_in sh last (wanted side 0f 0f tq) (λ k. wanted side 0f 0f tq k.t) (λ k. rw full)

    found_or : (last : Bool) (side : Side) → or_of_all last side tq cuts ≡ or_else (end_of last (keep (λ k. wanted side 0f 0f tq k.t) (in_order sh cuts))) (end_of last (in_order sh cuts))
    unfolding or_of_all
    found_or last side = rw (found_side last side, found_all last)

    -- of two cuts or more one is found
    pub one_there : (last : Bool) (side : Side) → 2 ≤ length cuts → [] ≡ or_of_all last side tq cuts → ⊥
    one_there last side h e =
        let n = none_at_end last (in_order sh cuts) (none_of_else _ _ (sym (found_or last side) ∙ sym e)) in
        let l = cuts_length cuts sh tq full in
        omega arith

    module _ (b a : Cut) (t : Bool) (h : 2 ≤ length cuts) (eb : b ∷ [] ≡ or_of_all true NotPast tq cuts) (ea : a ∷ [] ≡ or_of_all false Past tq cuts) (et : t ≡ before a.t b.t) where
      around_both : cond t (a ∷ b ∷ []) (b ∷ a ∷ []) ≡ around tq (in_order sh cuts)
      unfolding end_of wanted
      around_both =
          let e = cuts_length cuts sh tq full in
          rw et (around_two tq (in_order sh cuts) b a (omega arith) (eb ∙ found_or true NotPast) (ea ∙ found_or false Past))

      pub around_turned : t ≡ true → a ∷ b ∷ [] ≡ around tq (in_order sh cuts)
      around_turned e = rw e at around_both

      pub around_straight : t ≡ false → b ∷ a ∷ [] ≡ around tq (in_order sh cuts)
      around_straight e = rw e at around_both

-- ---- which of the two
module _ (sh : Shape) (tq : Float) (found cuts l : List Cut) (e : found ≡ cuts) where
  pub is_around : is_full sh ≡ true → l ≡ around tq (in_order sh found) → l ≡ bracket sh tq cuts
  unfolding bracket
  is_around h f = f ∙ rw (h, e)

  pub is_beside : is_full sh ≡ false → l ≡ beside tq (in_order sh found) → l ≡ bracket sh tq cuts
  unfolding bracket
  is_beside h f = f ∙ rw (h, e)
