-- The cuts of one other curve, and of all. Assumes nothing.
use mathlib.Core.Path.{◌≡◌, refl, sym, ap, ◌∙◌}
use mathlib.Core.List.{List, [], ◌∷◌, ◌++◌}
use Prim.Native.Nat.{ℕ, zero, suc, ◌+◌, ◌-◌, ◌≤◌, ◌<◌}
use native.Mathlib.Numerals.{add-one}
use native.Mathlib.Omega.{arith}
use borrow.Author.Tests.{eq-eqb, ne_eqb}
use lib.ListN.{length, take, get_or, length-append, get_or-append}
use lib.Seq.{take-suc, take_all, get_or-append-add}
use Rattle.geom.specs.Plane.{origin}
use Rattle.geom.specs.declared.Vec2.{Vec2}
use Rattle.shape.specs.declared.Shape.{Shape}
use Rattle.shape.specs.declared.Crossings.{Crossings}
use Rattle.shape.specs.declared.Crossings.TheVariants.{Zero, One, Two}
use Rattle.shape.specs.Intersections.{points, crossings}
use Rattle.cuts.specs.declared.Cut.{Cut}
use Rattle.cuts.specs.declared.Cutter.{Cutter}
use Rattle.cuts.specs.Crossings.{crossing_at}
use Rattle.cuts.specs.Cuts.{cut_step, cuts_on, cuts_by, cuts_among, end_points}

-- ---- one other curve
on_append : (sh : Shape) (o : Cutter) (found : List Cut) (ps qs : List Vec2) → cuts_on sh o found (ps ++ qs) ≡ cuts_on sh o (cuts_on sh o found ps) qs
unfolding cuts_on
on_append sh o found [] qs = refl
on_append sh o found (p ∷ ps) qs = on_append sh o (cut_step sh o found p) ps qs

point_at_lem : (c : Crossings) (k : ℕ) (d : Vec2) → k < length (points c) → crossing_at c k ≡ get_or (points c) k d
unfolding crossing_at
point_at_lem Zero k d h = absurd (omega arith)
point_at_lem (One p) zero d h = refl
point_at_lem (One p) (suc k) d h = absurd (omega arith)
point_at_lem (Two p q) zero d h = refl
point_at_lem (Two p q) (suc zero) d h = refl
point_at_lem (Two p q) (suc (suc k)) d h = absurd (omega arith)

pub second_of_two : (c : Crossings) (p q : Vec2) (k : ℕ) → c ≡ Two p q → (k ≡ 0 → ⊥) → q ≡ crossing_at c k
unfolding crossing_at
second_of_two c p q k e h = rw (e, ne_eqb k 0 h)

pub first_of_two : (c : Crossings) (p q : Vec2) (k : ℕ) → c ≡ Two p q → k ≡ 0 → p ≡ crossing_at c k
unfolding crossing_at
first_of_two c p q k e h = rw (e, eq-eqb k 0 h)

pub few : (c : Crossings) → length (points c) ≤ 2
few Zero = omega arith
few (One p) = omega arith
few (Two p q) = omega arith

-- the points of w, then those of v
module _ (w v : Crossings) where
  pub from_first : (k m : ℕ) (q : Vec2) → m ≡ length (points w) → k < m → q ≡ crossing_at w k → q ≡ get_or (points w ++ points v) k origin
  from_first k m q em h e =
      let l : k < length (points w) = omega arith in
      e ∙ point_at_lem w k origin l ∙ sym (get_or-append (points w) (points v) origin k l)

  pub from_second : (k m : ℕ) (q : Vec2) → m ≡ length (points w) → m ≤ k → k < length (points w) + length (points v) → q ≡ crossing_at v (k - m) → q ≡ get_or (points w ++ points v) k origin
  from_second k m q em h l e =
      let i : k - m < length (points v) = omega arith in
      let f : length (points w) + (k - m) ≡ k = omega arith in
      e ∙ point_at_lem v (k - m) origin i ∙ sym (get_or-append-add (points w) (points v) (k - m) origin) ∙ ap (λ (j : ℕ). get_or (points w ++ points v) j origin) f

module _ (sh : Shape) (o : Cutter) (found : List Cut) (w v : Crossings) where
  abbrev stops : List Vec2
  stops = points w ++ points v

  pub stops_start : found ≡ cuts_on sh o found (take 0 stops)
  unfolding cuts_on
  stops_start = refl

  pub stops_step : (k : ℕ) (q : Vec2) (now after : List Cut) → k < length (points w) + length (points v) → q ≡ get_or stops k origin
      → now ≡ cuts_on sh o found (take k stops) → after ≡ cut_step sh o now q → after ≡ cuts_on sh o found (take (k + 1) stops)
  unfolding cuts_on
  stops_step k q now after h eq e f =
      let l : k < length stops = simp length-append (omega arith) in
      f ∙ rw (e, eq, add-one, take-suc stops k origin l) (sym (on_append sh o found (take k stops) (get_or stops k origin ∷ [])))

  pub stops_end : (k : ℕ) (now : List Cut) → length (points w) + length (points v) ≤ k → w ≡ crossings sh o.shape → points v ≡ end_points o.shape
      → now ≡ cuts_on sh o found (take k stops) → now ≡ cuts_by sh o found
  unfolding cuts_by
  stops_end k now h ew ev e =
      let l : length stops ≤ k = simp length-append (omega arith) in
      e ∙ rw (take_all k stops l, ev, ew)

-- ---- all
pub among_append : (sh : Shape) (os ps : List Cutter) (found : List Cut) → cuts_among sh (os ++ ps) found ≡ cuts_among sh ps (cuts_among sh os found)
unfolding cuts_among
among_append sh [] ps found = refl
among_append sh (o ∷ os) ps found = among_append sh os ps (cuts_by sh o found)
