-- An accepted extend moves one point and adds one relation; all else stays. Assumes nothing.
use mathlib.Core.Path.{◌≡◌, refl, sym, ap, ◌∙◌, subst}
use mathlib.Core.Bool.{Bool, true, false, not, ◌||◌, cond}
use mathlib.Core.List.{[], ◌∷◌, ◌++◌, map}
use mathlib.Core.Option.{Option, some, none}
use Prim.Native.Nat.{ℕ}
use native.Mathlib.Omega.{arith}
use lib.Dec.{eqb, ltb}
use lib.ListN.{length}
use lib.Ieee.{le}
use borrow.Author.Tests.{ne_eqb, not-true}
use Rattle.geom.specs.Plane.{distance}
use Rattle.geom.specs.declared.Vec2.{Vec2}
use Rattle.shape.specs.declared.Shape.TheVariants as S
use Rattle.shape.specs.Measures.{param, point}
use Rattle.sketch.specs.declared.Curve.{Curve}
use Rattle.sketch.specs.declared.CurveKind.{CurveKind}
use Rattle.sketch.specs.declared.CurveKind.TheVariants.{Line, Arc, Circle, Bezier, Conic}
use Rattle.sketch.specs.declared.Relation.{Relation}
use Rattle.sketch.specs.declared.Relation.TheVariants.{Coincident, PointOnCurve}
use Rattle.sketch.specs.Lists.{ite}
use Rattle.sketch.specs.Lookup.{among}
use Rattle.sketch.specs.Drawing.{Drawing, Limits, curve_in}
use Rattle.sketch.proofs.Bools.{never, or_left_false}
use Rattle.message.specs.declared.Operation.TheVariants.{Extend}
use Rattle.sketch_geometry.specs.Geometry.{position_of}
use Rattle.relations.specs.Met.{all_met}
use Rattle.edit_plan.specs.declared.Pin.{Pin}
use Rattle.edit_plan.specs.declared.Pin.TheVariants.{On, At}
use Rattle.edit_plan.specs.declared.Plan.{Plan}
use Rattle.edit_plan.specs.declared.Plan.TheVariants as P
use Rattle.edit_plan.specs.declared.Removed.{Removed}
use Rattle.edit_plan.specs.Outcome.{accepted, ◌then◌, guard}
use Rattle.edit_plan.specs.Tables.{ok_position, add_relation, with_relation, moved, move_point, uses, others}
use Rattle.edit_plan.specs.Steps.{ends_of, ends_at, pin, nothing}
use Rattle.edit_plan.specs.ApplyPlan.{check_met, move_end, apply_plan_to, apply_plan_at}
use Rattle.edit_plan.specs.Suited.{PinHolds}
use Rattle.refusal.specs.Refusals.{Refused, Accepted}
use Rattle.planning.specs.Planning.{PlanResult, pin_to}
use Rattle.extend.specs.ExtendAnswer.{apply_planned}
use Rattle.modify.specs.Edits.{plan_on_curve, plan_on_found, plan_edit, edit_of}
use Rattle.hit_search.specs.NearestHit.{Support, Search, stopped, finished, nearest_hit}
use Rattle.extend.specs.Extend.{plan_move, is_fixed, extend_end, extend_curve}
use Rattle.planning.proofs.Suits.{guard_plan_accepted}
use Rattle.extend.proofs.Moves.{extend_moves_end}

pub record Extended (d d' : Drawing) (r : Removed) : Type 0 where
  pub end : ℕ
  pub place : Vec2
  pub held : Relation
  pub points : d'.points ≡ map (moved end place) d.points
  pub relations : d'.relations ≡ d.relations ++ (held ∷ [])
  pub curves : d'.curves ≡ d.curves
  pub next : d'.next ≡ d.next
  pub report_is : r ≡ nothing

-- ---- the plan

-- a move of that end
record Goes (at_b : Bool) (plan : Plan) : Type 0 where
  pub place : Vec2
  pub pin : Pin
  pub is : plan ≡ P.Move at_b place pin

module _ (d : Drawing) (p : Vec2) (c : Curve) (plan : Plan) where
  move_goes : (at_b : Bool) (x : Search) → plan_move d at_b x ≡ Accepted plan → Goes at_b plan
  unfolding plan_move
  move_goes at_b (stopped n) h = let z : ◌≡◌ {A = ℕ} 0 1 = cc in absurd (omega arith)
  move_goes at_b (finished none) h = let z : ◌≡◌ {A = ℕ} 0 1 = cc in absurd (omega arith)
  move_goes at_b (finished (some b)) h =
      let w : Pin = pin_to d.points b.at b.by (ends_at (curve_in d.curves b.by)) in
      let u = guard_plan_accepted (not b.tied) 17 (Accepted (P.Move at_b b.at w)) plan h in
      let q : P.Move at_b b.at w ≡ plan = cc in
      record { place = b.at; pin = w; is = sym q }

  -- nothing else uses that end
  end_goes : (s : Support) (end : ℕ) → extend_end d c.id p s end ≡ Accepted plan → (among end (uses (others c.id d.curves)) ≡ false) × Goes s.at_b plan
  unfolding extend_end
  end_goes s end h =
      let line = S.Line s.a s.b in
      let x : Search = nearest_hit d.points s (point line (param line p)) (others c.id d.curves) none 1000000 in
      let used = among end (uses (others c.id d.curves)) in
      let u = guard_plan_accepted (not (used || is_fixed d.points end)) 14 (plan_move d s.at_b x) plan h in
      (or_left_false used (is_fixed d.points end) (not-true (used || is_fixed d.points end) u.0), move_goes s.at_b x u.1)

  -- of a line
  record LineGoes (k : CurveKind) : Type 0 where
    pub at_b : Bool
    pub i : ℕ
    pub j : ℕ
    pub line : k ≡ Line i j
    pub alone : among (ite at_b j i) (uses (others c.id d.curves)) ≡ false
    pub goes : Goes at_b plan

  cond_ite : (b : Bool) (i j : ℕ) → ◌≡◌ {A = ℕ} (cond b j i) (ite b j i)
  cond_ite true i j = refl
  cond_ite false i j = refl

  line_goes : (k : CurveKind) → extend_curve d p c k ≡ Accepted plan → LineGoes k
  unfolding extend_curve
  line_goes (Line i j) h =
      let a = position_of d.points i in
      let b = position_of d.points j in
      let at_b = le (distance p b) (distance p a) in
      let s : Support = record { a = a; b = b; at_b = at_b } in
      let u = guard_plan_accepted (all_met d) 13 (extend_end d c.id p s (cond at_b j i)) plan h in
      let v = end_goes s (cond at_b j i) u.1 in
      record { at_b = at_b; i = i; j = j; line = refl; alone = ap (λ (e : ℕ). among e (uses (others c.id d.curves))) (sym (cond_ite at_b i j)) ∙ v.0; goes = v.1 }
  line_goes (Arc m i j) h = let z : ◌≡◌ {A = ℕ} 0 1 = cc in absurd (omega arith)
  line_goes (Circle m r) h = let z : ◌≡◌ {A = ℕ} 0 1 = cc in absurd (omega arith)
  line_goes (Bezier n) h = let z : ◌≡◌ {A = ℕ} 0 1 = cc in absurd (omega arith)
  line_goes (Conic i m j rho) h = let z : ◌≡◌ {A = ℕ} 0 1 = cc in absurd (omega arith)

-- ---- what is applied

module _ (met : Drawing → Bool) (m : Limits) (d' : Drawing) (r : Removed) where
  one_more : (x : Drawing) (held : Relation) → (add_relation m x held then (λ y u. check_met met y)) ≡ accepted d' r → (d' ≡ with_relation x held) × (r ≡ nothing)
  unfolding guard check_met
  one_more x held q = last (met (with_relation x held)) (room (ltb (length x.relations) m.relations) q)
    where
      room : (b : Bool) → (guard b 22 (accepted (with_relation x held) (tt {0})) then (λ y u. check_met met y)) ≡ accepted d' r → check_met met (with_relation x held) ≡ accepted d' r
      room true q = q
      room false q = let z : ◌≡◌ {A = ℕ} 0 1 = cc in absurd (omega arith)

      last : (b : Bool) → guard b 19 (accepted (with_relation x held) nothing) ≡ accepted d' r → (d' ≡ with_relation x held) × (r ≡ nothing)
      last true q = let u : d' ≡ with_relation x held = cc in let v : r ≡ nothing = cc in (u, v)
      last false q = let z : ◌≡◌ {A = ℕ} 0 1 = cc in absurd (omega arith)

  module _ (d : Drawing) (t end : ℕ) (v : Vec2) (alone : among end (uses (others t d.curves)) ≡ false) where
    grown : (held : Relation) → (d' ≡ with_relation (move_point end v d) held) × (r ≡ nothing) → Extended d d' r
    grown held u =
        record {
          end = end;
          place = v;
          held = held;
          points = ap (λ (x : Drawing). x.points) u.0;
          relations = ap (λ (x : Drawing). x.relations) u.0;
          curves = ap (λ (x : Drawing). x.curves) u.0;
          next = ap (λ (x : Drawing). x.next) u.0;
          report_is = u.1;
        }

    pinned : (w : Pin) → PinHolds d t w → (pin m (move_point end v d) end w then (λ y u. check_met met y)) ≡ accepted d' r → Extended d d' r
    unfolding pin
    pinned (On b) h q = grown (PointOnCurve end b) (one_more (move_point end v d) (PointOnCurve end b) q)
    pinned (At b) h q =
        let x = move_point end v d in
        let ne : eqb b end ≡ false = ne_eqb b end (λ e. never (sym alone ∙ ap (λ (y : ℕ). among y (uses (others t d.curves))) (sym e) ∙ h)) in
        grown (Coincident end b) (one_more x (Coincident end b) (sym (ap (λ z. ite z (accepted x (tt {0})) (add_relation m x (Coincident end b)) then (λ y u. check_met met y)) ne) ∙ q))

    move_pinned : (w : Pin) → PinHolds d t w → guard (ok_position v) 24 (pin m (move_point end v d) end w then (λ y u. check_met met y)) ≡ accepted d' r → Extended d d' r
    unfolding guard
    move_pinned w h q = go (ok_position v) q
      where
        go : (b : Bool) → guard b 24 (pin m (move_point end v d) end w then (λ y u. check_met met y)) ≡ accepted d' r → Extended d d' r
        go true q = pinned w h q
        go false q = let z : ◌≡◌ {A = ℕ} 0 1 = cc in absurd (omega arith)

-- ---- the edit

module _ (m : Limits) (d : Drawing) (p : Vec2) (d' : Drawing) (r : Removed) where
  move_applied : (c : Curve) (plan : Plan) → extend_curve d p c c.kind ≡ Accepted plan → apply_plan_to all_met m d c plan ≡ accepted d' r → Extended d d' r
  unfolding apply_plan_to move_end ends_of
  move_applied c plan h q =
      let l = line_goes d p c plan c.kind h in
      let g = l.goes in
      let w = (extend_moves_end d c p plan h).1 in
      let e : P.Move w.at_end w.place w.pin ≡ P.Move l.at_b g.place g.pin = sym w.is ∙ g.is in
      let same : w.pin ≡ g.pin = cc in
      move_pinned all_met m d' r d c.id (ite l.at_b l.j l.i) g.place l.alone g.pin (subst (PinHolds d c.id) same w.held)
      (sym (ap (apply_plan_to all_met m d c) g.is ∙ ap (λ (k : CurveKind). move_end all_met m d l.at_b g.place g.pin (ends_of k)) l.line) ∙ q)

  pub extend_moves : (t : ℕ) → edit_of Extend m d t p ≡ accepted d' r → Extended d d' r
  unfolding apply_planned plan_on_found plan_on_curve apply_plan_at
  extend_moves t q = go (plan_edit Extend d t p) refl q
    where
      found : (o : Option Curve) (plan : Plan) → plan_on_found Extend d p o ≡ Accepted plan → apply_plan_at all_met m d plan o ≡ accepted d' r → Extended d d' r
      found none plan h q = let z : ◌≡◌ {A = ℕ} 0 1 = cc in absurd (omega arith)
      found (some c) plan h q = move_applied c plan h q

      go : (x : PlanResult) → plan_edit Extend d t p ≡ x → apply_planned all_met m d t x ≡ accepted d' r → Extended d d' r
      go (Refused n) e q = let z : ◌≡◌ {A = ℕ} 0 1 = cc in absurd (omega arith)
      go (Accepted plan) e q = found (curve_in d.curves t) plan (guard_plan_accepted (ok_position p) 9 (plan_on_found Extend d p (curve_in d.curves t)) plan e).1 q
