-- What the code that plans answers, one law for each way out. Assumes nothing.
use mathlib.Core.Path.{◌≡◌, refl, sym, ap, ◌∙◌}
use mathlib.Core.Bool.{Bool, true, false, not, ◌&&◌, ◌||◌, cond}
use mathlib.Core.List.{List, [], ◌∷◌}
use mathlib.Core.Option.{Option, some, none}
use Prim.Native.Nat.{ℕ}
use lib.Dec.{eqb}
use lib.ListN.{length}
use lib.Ieee.{Float, lt, le}
use Rattle.float.specs.Numbers.{◌⊕◌, ◌⊖◌, 1e-9}
use Rattle.float.specs.Thresholds.{least_of, at_1e-6}
use Rattle.float.proofs.Lengths.{exact_1e-6}
use Rattle.geom.specs.Plane.{◌-ᵥ◌, dot}
use Rattle.geom.specs.declared.Vec2.{Vec2}
use Rattle.geom.proofs.Distances.{distance_below}
use Rattle.shape.specs.declared.Shape.{Shape}
use Rattle.shape.specs.declared.Range.{Range}
use Rattle.shape.specs.Measures.{range, is_full, param, point, project}
use Rattle.sketch.specs.declared.Point.{Point}
use Rattle.sketch.specs.declared.Curve.{Curve}
use Rattle.sketch.specs.declared.CurveKind.{CurveKind}
use Rattle.sketch.specs.declared.CurveKind.TheVariants.{Line, Arc, Circle, Bezier, Conic}
use Rattle.sketch.specs.Lists.{ite}
use Rattle.sketch_geometry.specs.Geometry.{position_of}
use Rattle.cuts.specs.declared.Cut.{Cut}
use Rattle.cuts.specs.declared.Neighbours.{Neighbours}
use Rattle.cuts.specs.declared.Neighbours.TheVariants.{Zero, One, Two}
use Rattle.cuts.specs.Bracket.{neighbours}
use Rattle.edit_plan.specs.declared.Pin.{Pin}
use Rattle.edit_plan.specs.declared.Pin.TheVariants.{On, At}
use Rattle.edit_plan.specs.declared.Plan.TheVariants as P
use Rattle.refusal.specs.Refusals.{Refused, Accepted}
use Rattle.planning.specs.Planning.{param_of_pick, pinned_point_of, trim_at, trim_plan, near_end, pin_to, between, first_goes, split_full, at_end}
use Rattle.edit_plan.specs.declared.PinnedPoint.{PinnedPoint}
use Rattle.edit_plan.specs.Tables.{others}
use Rattle.edit_plan.specs.Steps.{ends_of, ends_at}
use Rattle.edit_plan.specs.Changes.{is_circle}
use Rattle.cuts.specs.declared.Cutter.{Cutter}
use Rattle.cuts.specs.Cuts.{cut_points, cutters_of}
use Rattle.cuts.specs.Bracket.{bracket}
use Rattle.sketch.specs.Drawing.{Drawing, curve_in}

-- ---- kinds

pub is_circle_lem : {k : CurveKind} {o : ℕ} {r : Float} → k ≡ Circle o r → true ≡ is_circle k
unfolding is_circle
is_circle_lem e = rw e

pub no_circle : (k : CurveKind) → ((o : ℕ) (r : Float) → k ≡ Circle o r → ⊥) → false ≡ is_circle k
unfolding is_circle
no_circle (Line a b) h = refl
no_circle (Arc c a b) h = refl
no_circle (Circle c r) h = absurd (h c r refl)
no_circle (Bezier n) h = refl
no_circle (Conic a p b rho) h = refl

-- ---- which piece goes

module _ (sh : Shape) (tq : Float) where
  pub one_full : (k : Cut) → is_full sh ≡ true → false ≡ first_goes sh tq (k ∷ [])
  unfolding first_goes between
  one_full k f = sym (rw f)

  none_before : (b : Bool) (k : Cut) → not b ≡ eqb (length (ite b (k ∷ []) [])) 0
  none_before true k = refl
  none_before false k = refl

  pub one_open : (k : Cut) → is_full sh ≡ false → not (lt k.t tq) ≡ first_goes sh tq (k ∷ [])
  unfolding first_goes
  one_open k f = none_before (lt k.t tq) k ∙ sym (rw f)

  pub two_full : (k j : Cut) → is_full sh ≡ true → (lt k.t tq && lt tq j.t) ≡ first_goes sh tq (k ∷ j ∷ [])
  unfolding first_goes between
  two_full k j f = sym (rw f)

  none_of_two : (a b : Bool) (k j : Cut) → (not a && not b) ≡ eqb (length (ite a (k ∷ ite b (j ∷ []) []) (ite b (j ∷ []) []))) 0
  none_of_two true true k j = refl
  none_of_two true false k j = refl
  none_of_two false true k j = refl
  none_of_two false false k j = refl

  pub two_open : (k j : Cut) → is_full sh ≡ false → (not (lt k.t tq) && not (lt j.t tq)) ≡ first_goes sh tq (k ∷ j ∷ [])
  unfolding first_goes
  two_open k j f = none_of_two (lt k.t tq) (lt j.t tq) k j ∙ sym (rw f)

-- ---- the pick

pub picked : (sh : Shape) (p : Vec2) {t : Float} {q : Vec2} → t ≡ param sh q → q ≡ project sh p → t ≡ param_of_pick sh p
unfolding param_of_pick
picked sh p e f = e ∙ ap (param sh) f

module _ (sh : Shape) (p : Vec2) (os : List Cutter) where
  pub bracketed : {tq : Float} {q : Vec2} (x : List Cut) → tq ≡ param sh q → q ≡ project sh p → x ≡ bracket sh tq (cut_points sh os) → x ≡ bracket sh (param_of_pick sh p) (cut_points sh os)
  bracketed x e f h = h ∙ ap (λ t. bracket sh t (cut_points sh os)) (picked sh p e f)

-- ---- split

pub full_few : (sh : Shape) (r : Neighbours) {cuts : List Cut} → ((k j : Cut) → r ≡ Two k j → ⊥) → neighbours r ≡ cuts → Refused 12 ≡ split_full sh cuts
unfolding split_full
full_few sh Zero h e = ap (split_full sh) e
full_few sh (One k) h e = ap (split_full sh) e
full_few sh (Two k j) h e = absurd (h k j refl)

pub full_two : (sh : Shape) {r : Neighbours} {cuts : List Cut} {k j : Cut} {p q : Vec2} → r ≡ Two k j → neighbours r ≡ cuts → p ≡ point sh k.t → q ≡ point sh j.t → Accepted (P.DivideTwo p q) ≡ split_full sh cuts
unfolding split_full
full_two sh {r} {cuts} {k} {j} e f u v = rw (u, v) (ap (split_full sh) (ap neighbours (sym e) ∙ f))

module _ (sh : Shape) (t : Float) {r : Range} (e : r ≡ range sh) where
  pub at_an_end : le t (r.start ⊕ 1e-9) || le (r.end ⊖ 1e-9) t ≡ true → at_end sh t ≡ true
  unfolding at_end
  at_an_end h = rw (← e) h

  pub inside : le t (r.start ⊕ 1e-9) || le (r.end ⊖ 1e-9) t ≡ false → at_end sh t ≡ false
  unfolding at_end
  inside h = rw (← e) h

-- ---- pins

module _ (ps : List Point) (q : Vec2) where
  pub near_end_lem : (e : ℕ) {p : Vec2} {s : Float} → p ≡ position_of ps e → s ≡ dot (p -ᵥ q) (p -ᵥ q) → lt s (least_of at_1e-6) ≡ near_end ps q e
  unfolding near_end
  near_end_lem e {p} u v = rw (v, u) (sym (distance_below at_1e-6 exact_1e-6 (position_of ps e) q))

  module _ (by a b : ℕ) where
    pub pin_first : near_end ps q a ≡ true → At a ≡ pin_to ps q by (some (a, b))
    unfolding pin_to
    pin_first h = sym (rw h)

    pub pin_second : near_end ps q a ≡ false → near_end ps q b ≡ true → At b ≡ pin_to ps q by (some (a, b))
    unfolding pin_to
    pin_second h k = sym (rw (h, k))

    pub pin_curve : near_end ps q a ≡ false → near_end ps q b ≡ false → On by ≡ pin_to ps q by (some (a, b))
    unfolding pin_to
    pin_curve h k = sym (rw (h, k))

-- ---- the ends of what cuts

pub ends_line : {k : CurveKind} {a b : ℕ} → k ≡ Line a b → ends_of k ≡ some (a, b)
unfolding ends_of
ends_line e = rw e

pub ends_arc : {k : CurveKind} {c a b : ℕ} → k ≡ Arc c a b → ends_of k ≡ some (a, b)
unfolding ends_of
ends_arc e = rw e

pub ends_none : (k : CurveKind) → ((a b : ℕ) → k ≡ Line a b → ⊥) → ((c a b : ℕ) → k ≡ Arc c a b → ⊥) → ends_of k ≡ none
unfolding ends_of
ends_none (Line a b) l h = absurd (l a b refl)
ends_none (Arc c a b) l h = absurd (h c a b refl)
ends_none (Circle c r) l h = refl
ends_none (Bezier n) l h = refl
ends_none (Conic a p b rho) l h = refl

module _ (ps : List Point) (cs : List Curve) (q : Vec2) (by : ℕ) where
  pub pin_of : {c : Curve} {e : Option (ℕ × ℕ)} {r : Pin} → curve_in cs by ≡ some c → ends_of c.kind ≡ e → r ≡ pin_to ps q by e → r ≡ pin_to ps q by (ends_at (curve_in cs by))
  unfolding ends_at
  pin_of f g h = h ∙ ap (pin_to ps q by) (sym (rw f g))

  pub pin_of_none : curve_in cs by ≡ none → On by ≡ pin_to ps q by (ends_at (curve_in cs by))
  unfolding ends_at pin_to
  pin_of_none f = sym (rw f)

  -- no end to be held at
  pub pin_of_endless : {c : Curve} → curve_in cs by ≡ some c → ends_of c.kind ≡ none → On by ≡ pin_to ps q by (ends_at (curve_in cs by))
  unfolding pin_to
  pin_of_endless f g = pin_of f g refl

pub place_is : (d : Drawing) (sh : Shape) (k : Cut) {q : Vec2} {w : Pin} → q ≡ point sh k.t → w ≡ pin_to d.points q k.by (ends_at (curve_in d.curves k.by)) → ◌≡◌ {A = PinnedPoint} record { at = q; pin = w } (pinned_point_of d sh k)
place_is d sh k e f = rw (f, e)

-- ---- the plan of a trim

module _ (d : Drawing) (id : ℕ) (sh : Shape) (p : Vec2) {os : List Cutter} (g : os ≡ cutters_of d.points (others id d.curves)) {tq : Float} (t : tq ≡ param_of_pick sh p)
    (r : Neighbours) (b : neighbours r ≡ bracket sh tq (cut_points sh os)) where
  cuts_are : neighbours r ≡ bracket sh (param_of_pick sh p) (cut_points sh (cutters_of d.points (others id d.curves)))
  cuts_are = b ∙ ap (λ u. bracket sh u (cut_points sh os)) t ∙ ap (λ l. bracket sh (param_of_pick sh p) (cut_points sh l)) g

  plan_of_lem : {cuts : List Cut} → cuts ≡ neighbours r → trim_at d sh (first_goes sh tq cuts) cuts ≡ trim_plan d id sh p
  unfolding trim_plan
  plan_of_lem {cuts} e = ap (λ l. trim_at d sh (first_goes sh tq l) l) (e ∙ cuts_are) ∙ ap (λ u. trim_at d sh (first_goes sh u (bracket sh (param_of_pick sh p) (cut_points sh (cutters_of d.points (others id d.curves))))) (bracket sh (param_of_pick sh p) (cut_points sh (cutters_of d.points (others id d.curves))))) t

  pub plan_whole : r ≡ Zero → P.Whole ≡ trim_plan d id sh p
  unfolding trim_at
  plan_whole e = plan_of_lem {cuts = []} (sym (ap neighbours e))

  pub plan_one : {k : Cut} {w : PinnedPoint} {f : Bool} → r ≡ One k → w ≡ pinned_point_of d sh k → f ≡ first_goes sh tq (k ∷ []) → P.Cut w f ≡ trim_plan d id sh p
  unfolding trim_at
  plan_one {k} e u v = rw (u, v) (plan_of_lem {cuts = k ∷ []} (sym (ap neighbours e)))

  pub plan_two : {k j : Cut} {w v : PinnedPoint} {f : Bool} → r ≡ Two k j → w ≡ pinned_point_of d sh k → v ≡ pinned_point_of d sh j → f ≡ first_goes sh tq (k ∷ j ∷ []) → P.CutTwo w v f ≡ trim_plan d id sh p
  unfolding trim_at
  plan_two {k} {j} e u v f = rw (u, v, f) (plan_of_lem {cuts = k ∷ j ∷ []} (sym (ap neighbours e)))

-- ---- split between the ends

module _ (sh : Shape) (p : Vec2) {t : Float} {q : Vec2} {r : Range} (e : t ≡ param sh q) (f : q ≡ project sh p) (g : r ≡ range sh) where
  pub open_at_an_end : le t (r.start ⊕ 1e-9) || le (r.end ⊖ 1e-9) t ≡ true → Refused 12 ≡ cond (at_end sh (param_of_pick sh p)) (Refused 12) (Accepted (P.Divide (point sh (param_of_pick sh p))))
  open_at_an_end h = sym (rw (← picked sh p e f, at_an_end sh t g h))

  pub open_inside : {v : Vec2} → le t (r.start ⊕ 1e-9) || le (r.end ⊖ 1e-9) t ≡ false → v ≡ point sh t → Accepted (P.Divide v) ≡ cond (at_end sh (param_of_pick sh p)) (Refused 12) (Accepted (P.Divide (point sh (param_of_pick sh p))))
  open_inside {v} h k = rw k (sym (rw (← picked sh p e f, inside sh t g h)))
