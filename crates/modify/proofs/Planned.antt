-- An accepted edit applied a plan whose pins are held, whatever test of relations ends it; so it leaves a valid drawing, and has the shape that chains need.
use mathlib.Core.Path.{◌≡◌, refl, sym, subst}
use mathlib.Core.Bool.{Bool, true, false}
use mathlib.Core.Option.{Option, some, none}
use Prim.Native.Nat.{ℕ}
use native.Mathlib.Omega.{arith}
use Rattle.geom.specs.declared.Vec2.{Vec2}
use Rattle.sketch.specs.declared.Curve.{Curve}
use Rattle.sketch.specs.Drawing.{Drawing, Limits, curve_in}
use Rattle.sketch.specs.Facts.{Valid}
use Rattle.message.specs.declared.Operation.{Operation}
use Rattle.message.specs.declared.Operation.TheVariants.{Trim, Split, Extend}
use Rattle.edit_plan.specs.declared.Plan.{Plan}
use Rattle.edit_plan.specs.declared.Removed.{Removed}
use Rattle.edit_plan.specs.Outcome.{Outcome, accepted, guard}
use Rattle.edit_plan.specs.Tables.{ok_position}
use Rattle.edit_plan.specs.ApplyPlan.{apply_plan}
use Rattle.edit_plan.specs.Suited.{Pinned}
use Rattle.edit_plan.proofs.Tables.{look_some}
use Rattle.chains.proofs.Edits.{plan_valid}
use Rattle.refusal.specs.Refusals.{Refused, Accepted}
use Rattle.planning.specs.Planning.{PlanResult}
use Rattle.extend.specs.ExtendAnswer.{apply_planned}
use Rattle.modify.specs.Edits.{plan_on_curve, plan_on_found, plan_edit}
use Rattle.planning.proofs.Suits.{guard_plan_accepted, trim_curve_suited, split_curve_suited}
use Rattle.extend.proofs.Moves.{extend_moves_end}

-- what passes a guard and is accepted
pub guard_accepted : {D A : Type 0} (b : Bool) (n : ℕ) (o : Outcome D A) (d : D) (a : A) → guard b n o ≡ accepted d a → (b ≡ true) × (o ≡ accepted d a)
unfolding guard
guard_accepted true n o d a e = (refl, e)
guard_accepted false n o d a e = let z : ◌≡◌ {A = ℕ} 0 1 = cc in absurd (omega arith)

curve_pinned : (op : Operation) (d : Drawing) (p : Vec2) (c : Curve) (plan : Plan) → plan_on_curve op d p c ≡ Accepted plan → Pinned d c.id plan
unfolding plan_on_curve
curve_pinned Trim d p c plan h = (trim_curve_suited d p c plan h).pins
curve_pinned Split d p c plan h = (split_curve_suited d p c plan h).pins
curve_pinned Extend d p c plan h = let w = (extend_moves_end d c p plan h).1 in subst (Pinned d c.id) (sym w.is) w.held

found_pinned : (op : Operation) (d : Drawing) (t : ℕ) (p : Vec2) (plan : Plan) → plan_on_found op d p (curve_in d.curves t) ≡ Accepted plan → Pinned d t plan
unfolding plan_on_found
found_pinned op d t p plan h = go (curve_in d.curves t) refl h
  where
    go : (o : Option Curve) → curve_in d.curves t ≡ o → plan_on_found op d p o ≡ Accepted plan → Pinned d t plan
    go none e h = let z : ◌≡◌ {A = ℕ} 0 1 = cc in absurd (omega arith)
    go (some c) e h = subst (λ (i : ℕ). Pinned d i plan) (look_some d.curves t c e).1 (curve_pinned op d p c plan h)

pub edit_planned :
    (met : Drawing → Bool) (op : Operation) (m : Limits) (d : Drawing) (t : ℕ) (p : Vec2) (d' : Drawing) (r : Removed) → apply_planned met m d t (plan_edit op d t p) ≡ accepted d' r
    → (plan : Plan) × Pinned d t plan × (apply_plan met m d t plan ≡ accepted d' r)
unfolding apply_planned
edit_planned met op m d t p d' r q = go (plan_edit op d t p) refl q
  where
    go : (c : PlanResult) → plan_edit op d t p ≡ c → apply_planned met m d t c ≡ accepted d' r → (plan : Plan) × Pinned d t plan × (apply_plan met m d t plan ≡ accepted d' r)
    go (Refused n) e q = let z : ◌≡◌ {A = ℕ} 0 1 = cc in absurd (omega arith)
    go (Accepted plan) e q = (plan, found_pinned op d t p plan (guard_plan_accepted (ok_position p) 9 (plan_on_found op d p (curve_in d.curves t)) plan e).1, q)

pub edit_valid :
    (met : Drawing → Bool) (op : Operation) (m : Limits) (d : Drawing) (t : ℕ) (p : Vec2) (d' : Drawing) (r : Removed) → Valid m d → apply_planned met m d t (plan_edit op d t p) ≡ accepted d' r → Valid m d'
edit_valid met op m d t p d' r v q = let (plan, h, o) = edit_planned met op m d t p d' r q in plan_valid met m d v t plan d' r o h
