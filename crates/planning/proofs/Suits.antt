-- The plan of any trim or split suits its curve. Assumes nothing.
use mathlib.Core.Path.{◌≡◌, refl, sym, ap, ◌∙◌, subst}
use mathlib.Core.Bool.{Bool, true, false, not, ◌&&◌, ◌||◌, cond}
use mathlib.Core.List.{List, [], ◌∷◌, ◌++◌}
use mathlib.Core.Option.{Option, some, none}
use Prim.Native.Nat.{ℕ, suc}
use native.Mathlib.Omega.{arith}
use lib.ListN.{length}
use lib.Ieee.{Float, lt}
use borrow.Author.Tests.{ne_eqb, not-true}
use Rattle.float.specs.Order.{before}
use Rattle.geom.specs.declared.Vec2.{Vec2}
use Rattle.shape.specs.declared.Shape.{Shape}
use Rattle.shape.specs.declared.Shape.TheVariants as S
use Rattle.shape.specs.Measures.{circle, is_full, point}
use Rattle.shape.proofs.Opened.{opened}
use Rattle.sketch.specs.declared.Curve.{Curve}
use Rattle.sketch.specs.declared.CurveKind.{CurveKind}
use Rattle.sketch.specs.declared.CurveKind.TheVariants.{Line, Arc, Circle, Bezier, Conic}
use Rattle.sketch.specs.Lists.{keep}
use Rattle.sketch.specs.Drawing.{Drawing}
use Rattle.sketch.specs.Facts.{Every}
use Rattle.sketch.proofs.Bools.{or_right_false}
use Rattle.sketch_geometry.specs.Geometry.{position_of, shape_of}
use Rattle.cuts.specs.declared.Cut.{Cut}
use Rattle.cuts.specs.Lists.{last_or, first_or}
use Rattle.cuts.specs.Bracket.{insert_cut, sort_cuts, in_order, last_one, first_one, beside, around, bracket}
use Rattle.edit_plan.specs.declared.Plan.{Plan}
use Rattle.edit_plan.specs.declared.Plan.TheVariants as P
use Rattle.edit_plan.specs.Suited.{suits, suits_open, suits_closed, Pinned, Suited}
use Rattle.edit_plan.specs.Changes.{is_circle}
use Rattle.refusal.specs.Refusals.{Refused, Accepted}
use Rattle.planning.specs.Planning.{PlanResult, guard_plan, cuts_of, param_of_pick, first_goes, trim_at, trim_plan, split_full, at_end, split_plan, is_full_arc, no_freeform, trim_curve, split_curve}
use Rattle.planning.proofs.Others.{By, is_other, last_every, kept_are, bracket_by_others, pin_held}

-- a plan accepted behind a guard passed its test
pub guard_plan_accepted : (b : Bool) (n : ℕ) (o : PlanResult) (plan : Plan) → guard_plan b n o ≡ Accepted plan → (b ≡ true) × (o ≡ Accepted plan)
unfolding guard_plan
guard_plan_accepted true n o plan h = (refl, h)
guard_plan_accepted false n o plan h = let z : ◌≡◌ {A = ℕ} 0 1 = cc in absurd (omega arith)

-- ---- how many cuts, and where

-- of two cuts beside tq the first lies before it
beside_two : (tq : Float) (l : List Cut) (k j : Cut) (r : List Cut) → beside tq l ≡ k ∷ j ∷ r → lt k.t tq ≡ true
unfolding beside last_one first_one
beside_two tq l k j r e = go (keep below l) (kept_are below l) e
  where
    below : Cut → Bool
    below i = lt i.t tq

    few : (m : List Cut) → first_one m ≡ k ∷ j ∷ r → lt k.t tq ≡ true
    few [] h = let z : ◌≡◌ {A = ℕ} 0 1 = cc in absurd (omega arith)
    few (x ∷ m) h = let z : ◌≡◌ {A = ℕ} 0 1 = cc in absurd (omega arith)

    go : (m : List Cut) → Every below m → last_one m ++ first_one (keep (λ i. lt tq i.t) l) ≡ k ∷ j ∷ r → lt k.t tq ≡ true
    go [] h q = few (keep (λ i. lt tq i.t) l) q
    go (x ∷ m) h q = let u : last_or x m ≡ k = cc in ap below (sym u) ∙ last_every below x m h.0 h.1

-- around a full curve there are none or two
data NoneOrTwo : List Cut → Type 0 where
  none_there : NoneOrTwo []
  two_there : (k j : Cut) → NoneOrTwo (k ∷ j ∷ [])

around_two : (tq : Float) (l : List Cut) → NoneOrTwo (around tq l)
unfolding around sort_cuts insert_cut
around_two tq [] = none_there
around_two tq (k ∷ []) = none_there
around_two tq (k ∷ j ∷ l) = two (last_or (last_or j l) (keep (λ i. not (lt tq i.t)) (k ∷ j ∷ l))) (first_or k (keep (λ i. lt tq i.t) (k ∷ j ∷ l)))
  where
    put : (b : Bool) (x y : Cut) → NoneOrTwo (cond b (y ∷ x ∷ []) (x ∷ y ∷ []))
    put true x y = two_there y x
    put false x y = two_there x y

    two : (x y : Cut) → NoneOrTwo (sort_cuts [] (x ∷ y ∷ []))
    two x y = put (before y.t x.t) x y

-- ---- trim

module _ (d : Drawing) (sh : Shape) (tq : Float) where
  -- of two cuts beside tq the middle piece goes
  middle_goes : (k j : Cut) (r : List Cut) → is_full sh ≡ false → lt k.t tq ≡ true → first_goes sh tq (k ∷ j ∷ r) ≡ false
  unfolding first_goes
  middle_goes k j r f h = rw (f, h) (ne_eqb (suc (length (keep (λ i. lt i.t tq) (j ∷ r)))) 0 (λ e. omega arith))

  open_suits : (l : List Cut) → is_full sh ≡ false → (cuts : List Cut) → beside tq l ≡ cuts → suits_open (trim_at d sh (first_goes sh tq cuts) cuts) ≡ true
  unfolding trim_at suits_open
  open_suits l f [] e = refl
  open_suits l f (k ∷ []) e = refl
  open_suits l f (k ∷ j ∷ r) e = rw (middle_goes k j r f (beside_two tq l k j r e))

  closed_suits : (cuts : List Cut) → NoneOrTwo cuts → suits_closed (trim_at d sh (first_goes sh tq cuts) cuts) ≡ true
  unfolding trim_at suits_closed
  closed_suits _ none_there = refl
  closed_suits _ (two_there k j) = refl

module _ (d : Drawing) (p : Vec2) where
  trim_open : (t : ℕ) (sh : Shape) → is_full sh ≡ false → suits_open (trim_plan d t sh p) ≡ true
  unfolding trim_plan bracket
  trim_open t sh f = rw f (open_suits d sh (param_of_pick sh p) (in_order sh (cuts_of d t sh)) f (beside (param_of_pick sh p) (in_order sh (cuts_of d t sh))) refl)

  trim_closed : (t : ℕ) (sh : Shape) → is_full sh ≡ true → suits_closed (trim_plan d t sh p) ≡ true
  unfolding trim_plan bracket
  trim_closed t sh f = rw f (closed_suits d sh (param_of_pick sh p) (around (param_of_pick sh p) (in_order sh (cuts_of d t sh))) (around_two (param_of_pick sh p) (in_order sh (cuts_of d t sh))))

-- a circle goes all the way round
pub circle_full : (c : Vec2) (r : Float) → is_full (circle c r) ≡ true
unfolding opened
circle_full c r = refl

-- a curve's shape is full where it is a circle, or it is a full arc
module _ (d : Drawing) (p : Vec2) (c : Curve) where
  trim_kind : (k : CurveKind) (sh : Shape) → shape_of d.points k ≡ some sh → is_full sh && not (is_circle k) ≡ false → suits k (trim_plan d c.id sh p) ≡ true
  unfolding shape_of is_circle suits is_full
  trim_kind (Line a b) sh e h = let q : S.Line (position_of d.points a) (position_of d.points b) ≡ sh = cc in trim_open d p c.id sh (ap is_full (sym q))
  trim_kind (Arc o a b) sh e h = trim_open d p c.id sh (no (is_full sh) h)
    where
      no : (x : Bool) → x && true ≡ false → x ≡ false
      no true z = z
      no false z = refl
  trim_kind (Circle o r) sh e h = let q : circle (position_of d.points o) r ≡ sh = cc in trim_closed d p c.id sh (ap is_full (sym q) ∙ circle_full (position_of d.points o) r)
  trim_kind (Bezier n) sh e h = let z : ◌≡◌ {A = ℕ} 0 1 = cc in absurd (omega arith)
  trim_kind (Conic a m b rho) sh e h = let z : ◌≡◌ {A = ℕ} 0 1 = cc in absurd (omega arith)

  pins_at : (sh : Shape) (first : Bool) (cuts : List Cut) → Every (By (is_other c.id d.curves)) cuts → Pinned d c.id (trim_at d sh first cuts)
  unfolding trim_at
  pins_at sh first [] h = tt
  pins_at sh first (k ∷ []) h = pin_held d c.id k.by (point sh k.t) h.0
  pins_at sh first (k ∷ j ∷ l) h = (pin_held d c.id k.by (point sh k.t) h.0, pin_held d c.id j.by (point sh j.t) h.1.0)

  pub trim_suited : (sh : Shape) → shape_of d.points c.kind ≡ some sh → is_full_arc c sh ≡ false → Suited d c (trim_plan d c.id sh p)
  unfolding trim_plan is_full_arc
  trim_suited sh e h =
      record {
        kind = trim_kind c.kind sh e h;
        pins = pins_at sh (first_goes sh (param_of_pick sh p) (bracket sh (param_of_pick sh p) (cuts_of d c.id sh))) (bracket sh (param_of_pick sh p) (cuts_of d c.id sh)) (bracket_by_others d c.id sh (param_of_pick sh p));
      }

  -- ---- split

  split_open : (sh : Shape) (plan : Plan) → is_full sh ≡ false → split_plan d c.id sh p ≡ Accepted plan → (suits_open plan ≡ true) × Pinned d c.id plan
  unfolding split_plan suits_open
  split_open sh plan f h = go (at_end sh (param_of_pick sh p)) (sym (rw f) ∙ h)
    where
      go : (b : Bool) → cond b (Refused 12) (Accepted (P.Divide (point sh (param_of_pick sh p)))) ≡ Accepted plan → (suits_open plan ≡ true) × Pinned d c.id plan
      go true e = let z : ◌≡◌ {A = ℕ} 0 1 = cc in absurd (omega arith)
      go false e = let q : P.Divide (point sh (param_of_pick sh p)) ≡ plan = cc in (ap suits_open (sym q), subst (Pinned d c.id) q tt)

  split_closed : (sh : Shape) (plan : Plan) → is_full sh ≡ true → split_plan d c.id sh p ≡ Accepted plan → (suits_closed plan ≡ true) × Pinned d c.id plan
  unfolding split_plan suits_closed split_full
  split_closed sh plan f h = go (bracket sh (param_of_pick sh p) (cuts_of d c.id sh)) (sym (rw f) ∙ h)
    where
      go : (cuts : List Cut) → split_full sh cuts ≡ Accepted plan → (suits_closed plan ≡ true) × Pinned d c.id plan
      go [] e = let z : ◌≡◌ {A = ℕ} 0 1 = cc in absurd (omega arith)
      go (k ∷ []) e = let z : ◌≡◌ {A = ℕ} 0 1 = cc in absurd (omega arith)
      go (k ∷ j ∷ l) e = let q : P.DivideTwo (point sh k.t) (point sh j.t) ≡ plan = cc in (ap suits_closed (sym q), subst (Pinned d c.id) q tt)

  split_kind : (k : CurveKind) (sh : Shape) (plan : Plan) → shape_of d.points k ≡ some sh → is_full sh && not (is_circle k) ≡ false → split_plan d c.id sh p ≡ Accepted plan → (suits k plan ≡ true) × Pinned d c.id plan
  unfolding shape_of is_circle suits is_full
  split_kind (Line a b) sh plan e h o = let q : S.Line (position_of d.points a) (position_of d.points b) ≡ sh = cc in split_open sh plan (ap is_full (sym q)) o
  split_kind (Arc m a b) sh plan e h o = split_open sh plan (no (is_full sh) h) o
    where
      no : (x : Bool) → x && true ≡ false → x ≡ false
      no true z = z
      no false z = refl
  split_kind (Circle m r) sh plan e h o = let q : circle (position_of d.points m) r ≡ sh = cc in split_closed sh plan (ap is_full (sym q) ∙ circle_full (position_of d.points m) r) o
  split_kind (Bezier n) sh plan e h o = let z : ◌≡◌ {A = ℕ} 0 1 = cc in absurd (omega arith)
  split_kind (Conic a m b rho) sh plan e h o = let z : ◌≡◌ {A = ℕ} 0 1 = cc in absurd (omega arith)

  pub split_suited : (sh : Shape) (plan : Plan) → shape_of d.points c.kind ≡ some sh → is_full_arc c sh ≡ false → split_plan d c.id sh p ≡ Accepted plan → Suited d c plan
  unfolding is_full_arc
  split_suited sh plan e h o = let u = split_kind c.kind sh plan e h o in record { kind = u.0; pins = u.1 }

  -- ---- for the curve itself, whichever tests come before

  pub trim_curve_suited : (plan : Plan) → trim_curve d p c (shape_of d.points c.kind) ≡ Accepted plan → Suited d c plan
  unfolding trim_curve
  trim_curve_suited plan h = go (shape_of d.points c.kind) refl h
    where
      go : (o : Option Shape) → shape_of d.points c.kind ≡ o → trim_curve d p c o ≡ Accepted plan → Suited d c plan
      go none e k = let z : ◌≡◌ {A = ℕ} 0 1 = cc in absurd (omega arith)
      go (some sh) e k =
          let u = guard_plan_accepted (not (c.infinite || is_full_arc c sh)) 10 (guard_plan (no_freeform d) 11 (Accepted (trim_plan d c.id sh p))) plan k in
          let v = guard_plan_accepted (no_freeform d) 11 (Accepted (trim_plan d c.id sh p)) plan u.1 in
          let q : trim_plan d c.id sh p ≡ plan = cc in
          subst (Suited d c) q (trim_suited sh e (or_right_false c.infinite (is_full_arc c sh) (not-true (c.infinite || is_full_arc c sh) u.0)))

  pub split_curve_suited : (plan : Plan) → split_curve d p c (shape_of d.points c.kind) ≡ Accepted plan → Suited d c plan
  unfolding split_curve
  split_curve_suited plan h = go (shape_of d.points c.kind) refl h
    where
      go : (o : Option Shape) → shape_of d.points c.kind ≡ o → split_curve d p c o ≡ Accepted plan → Suited d c plan
      go none e k = let z : ◌≡◌ {A = ℕ} 0 1 = cc in absurd (omega arith)
      go (some sh) e k =
          let inner : PlanResult = guard_plan (not (is_circle c.kind) || no_freeform d) 11 (split_plan d c.id sh p) in
          let u = guard_plan_accepted (not (is_full_arc c sh)) 10 inner plan k in
          let v = guard_plan_accepted (not (is_circle c.kind) || no_freeform d) 11 (split_plan d c.id sh p) plan u.1 in
          split_suited sh plan e (not-true (is_full_arc c sh) u.0) v.1
