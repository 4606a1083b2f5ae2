-- The search among the cuts found before, and one cut more. Assumes nothing.
use mathlib.Core.Path.{◌≡◌, refl, sym, ap, ◌∙◌}
use mathlib.Core.Bool.{Bool, true, false, ◌||◌}
use mathlib.Core.List.{List, [], ◌∷◌, ◌++◌}
use Prim.Native.Nat.{ℕ, suc, ◌+◌, ◌≤◌, ◌<◌}
use native.Mathlib.Numerals.{add-one}
use lib.ListN.{length, drop, get_or, drop_of_length-le}
use lib.Seq.{drop-cons}
use lib.Ieee.{Float, lt}
use Rattle.float.specs.Numbers.{1e-6}
use Rattle.float.specs.Thresholds.{least_of, at_1e-6}
use Rattle.float.proofs.Lengths.{exact_1e-6}
use Rattle.geom.specs.Plane.{◌-ᵥ◌, dot, distance}
use Rattle.geom.specs.declared.Vec2.{Vec2}
use Rattle.geom.proofs.Distances.{distance_below}
use Rattle.shape.specs.declared.Shape.{Shape}
use Rattle.shape.specs.Measures.{param}
use Rattle.cuts.specs.declared.Cut.{Cut}
use Rattle.cuts.specs.declared.Cutter.{Cutter}
use Rattle.cuts.specs.Lists.{any}
use Rattle.cuts.specs.Bounded.{on_bounded}
use Rattle.cuts.specs.Cuts.{mk_cut, found_near, cuts_here, cut_step}
use Rattle.cuts.proofs.Ends.{and_false}
use Rattle.cuts.proofs.Rows.{or_true}

-- ---- the search among the cuts

module _ (found : List Cut) (q : Vec2) where
  -- what is found is found from i on
  abbrev pub FoundFrom : ℕ → Type 0
  FoundFrom i = found_near (drop i found) q ≡ found_near found q

  pub found_start : FoundFrom 0
  found_start = refl

  pub found_end : (i : ℕ) → length found ≤ i → FoundFrom i → false ≡ found_near found q
  unfolding found_near any
  found_end i h w = ap (λ l. found_near l q) (sym (drop_of_length-le found {i = i} h)) ∙ w

  module _ (i : ℕ) (w : FoundFrom i) (h : i < length found) (k z : Cut) (e : k ≡ get_or found i z) (d : Float) (ed : d ≡ dot (k.at -ᵥ q) (k.at -ᵥ q)) where
    by_square : lt (distance k.at q) 1e-6 ≡ lt d (least_of at_1e-6)
    by_square = distance_below at_1e-6 exact_1e-6 k.at q ∙ ap (λ (s : Float). lt s (least_of at_1e-6)) (sym ed)

    next : (b : Bool) → lt d (least_of at_1e-6) ≡ b → found_near found q ≡ (b || found_near (drop (i + 1) found) q)
    unfolding found_near any
    next b g =
        sym w
        ∙ ap (λ l. found_near l q) (drop-cons found i z h)
        ∙ ap (λ (c : Cut). lt (distance c.at q) 1e-6 || found_near (drop (suc i) found) q) (sym e)
        ∙ ap (λ (x : Bool). x || found_near (drop (suc i) found) q) (by_square ∙ g)
        ∙ ap (λ (j : ℕ). b || found_near (drop j found) q) (sym (add-one i))

    pub found_here : lt d (least_of at_1e-6) ≡ true → true ≡ found_near found q
    found_here g = sym (next true g)

    pub found_later : lt d (least_of at_1e-6) ≡ false → FoundFrom (i + 1)
    found_later g = sym (next false g)

-- ---- one point
module _ (sh : Shape) (o : Cutter) (q : Vec2) (found : List Cut) where
  pub step_off : on_bounded sh q ≡ false → found ≡ cut_step sh o found q
  unfolding cut_step cuts_here
  step_off e = rw (e, and_false (o.infinite || on_bounded o.shape q))

  pub step_past : o.infinite ≡ false → on_bounded o.shape q ≡ false → found ≡ cut_step sh o found q
  unfolding cut_step cuts_here
  step_past e h = rw (e, h)

  pub step_again : found_near found q ≡ true → found ≡ cut_step sh o found q
  unfolding cut_step cuts_here
  step_again e = rw (e, and_false (on_bounded sh q), and_false (o.infinite || on_bounded o.shape q))

  -- an endless line meets it anywhere, another only between its ends
  pub met_anywhere : o.infinite ≡ true → (o.infinite || on_bounded o.shape q) ≡ true
  met_anywhere e = rw e

  pub met_between : on_bounded o.shape q ≡ true → (o.infinite || on_bounded o.shape q) ≡ true
  met_between e = rw e (or_true o.infinite)

  pub step_cuts : (t : Float) → t ≡ param sh q → on_bounded sh q ≡ true → (o.infinite || on_bounded o.shape q) ≡ true → found_near found q ≡ false → found ++ mk_cut t q o.id ∷ [] ≡ cut_step sh o found q
  unfolding cut_step cuts_here
  step_cuts t et h e k = rw (et, e, h, k)
