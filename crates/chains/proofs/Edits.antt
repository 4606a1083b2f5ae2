-- What a plan does, once it is applied: a valid drawing stays valid, and its chains and rings whole. So the claim over desk and wall holds of any edit that applies
-- out a plan with its pins held (`planned_demand_3`). Assumes of the edit `Planned`, and of its messages `Read`.
use mathlib.Core.Path.{◌≡◌, ◌∙◌}
use mathlib.Core.Bool.{Bool, true}
use mathlib.Core.List.{List}
use mathlib.Core.Option.{some}
use Prim.Native.Nat.{ℕ, ◌≤◌, ◌<◌}
use Rattle.geom.specs.declared.Vec2.{Vec2}
use Rattle.sketch.specs.declared.Curve.{Curve}
use Rattle.sketch.specs.Lookup.{among}
use Rattle.sketch.specs.Drawing.{Drawing, Limits, curve_in}
use Rattle.sketch.specs.Facts.{Valid}
use Rattle.edit_plan.specs.declared.Pin.{Pin}
use Rattle.edit_plan.specs.declared.Plan.{Plan}
use Rattle.edit_plan.specs.declared.Plan.TheVariants.{Move}
use Rattle.edit_plan.specs.declared.Removed.{Removed}
use Rattle.edit_plan.specs.Outcome.{Outcome, accepted}
use Rattle.edit_plan.specs.ApplyPlan.{apply_plan}
use Rattle.edit_plan.specs.Suited.{PinHolds, Pinned, Suited}
use Rattle.edit_plan.proofs.Tables.{holds_at, look_some}
use Rattle.edit_plan.proofs.Every.{rising_among}
use Rattle.agreement.specs.Machines.{Protocol, initial, DeskStep, DeskRun, WallEvent, WallLife, FromDesk}
use Rattle.agreement.specs.EditEffect.{EditEffect}
use Rattle.agreement.specs.Demand.{Demand3}
use Rattle.agreement.proofs.Counts.{there, among_as}
use Rattle.agreement.proofs.Wall.{Read}
use Rattle.agreement.proofs.FamiliesJoined.{Keeps}
use Rattle.agreement.proofs.Demand.{demand_3}
use Rattle.chains.specs.CurveView.{ids, ends, curve_view}
use Rattle.chains.proofs.AddedPieces.{stand_in}
use Rattle.chains.proofs.Steps.{low_of}
use Rattle.chains.proofs.Shapes.{apply_plan_effect}
use Rattle.chains.proofs.Keeps.{apply_plan_valid}

module _ (met : Drawing → Bool) (m : Limits) (d : Drawing) (v : Valid m d) (t : ℕ) where
  -- ---- any plan

  module _ (plan : Plan) (d' : Drawing) (r : Removed) (q : apply_plan met m d t plan ≡ accepted d' r) where
    pub plan_shape : EditEffect curve_view d t d' r
    plan_shape = holds_at (EditEffect curve_view d t) (apply_plan met m d t plan) d' r (apply_plan_effect met m d (low_of m d v) t plan) q

    -- its curve stood in the drawing
    pub plan_target : (among t (ids d) ≡ true) × (t < d.next)
    plan_target =
        let h = there t (ids d) plan_shape.stood in
        (h, (rising_among d.next 0 t (ids d) v.curves_rise h).1)

    -- the next id never falls
    pub plan_grows : d.next ≤ d'.next
    plan_grows = plan_shape.grows

    -- a standing curve other than the plan's own stands, with its ends
    pub plan_others : (i : ℕ) → among i (ids d) ≡ true → (i ≡ t → ⊥) → (among i (ids d') ≡ true) × (ends d' i ≡ ends d i)
    plan_others i h ne =
        let o = plan_shape.others i (rising_among d.next 0 i (ids d) v.curves_rise h).1 ne in
        (among_as i (ids d') (ids d) o.1 ∙ h, o.0)

    -- where its pins are held, the drawing stays valid
    pub plan_valid : Pinned d t plan → Valid m d'
    plan_valid f = holds_at (λ x y. Valid m x) (apply_plan met m d t plan) d' r (apply_plan_valid m met d v t plan f) q

  -- ---- a plan that suits the curve, and the move of a line's end

  pub suited_valid : (c : Curve) → curve_in d.curves t ≡ some c → (plan : Plan) → Suited d c plan → (d' : Drawing) (r : Removed) → apply_plan met m d t plan ≡ accepted d' r → Valid m d'
  suited_valid c at plan s d' r q = plan_valid plan d' r q (rw (← (look_some d.curves t c at).1) s.pins)

  pub move_valid : (at_end : Bool) (u : Vec2) (w : Pin) → PinHolds d t w → (d' : Drawing) (r : Removed) → apply_plan met m d t (Move at_end u w) ≡ accepted d' r → Valid m d'
  move_valid at_end u w h d' r q = plan_valid (Move at_end u w) d' r q h

-- ---- edits

module _ {E : Type 0} (target : E → ℕ) (met : Drawing → Bool) (m : Limits) where
  -- an accepted edit of a valid drawing applies some plan for its curve, whose pins are held
  abbrev pub Planned : (Drawing → E → Outcome Drawing Removed) → Type 0
  Planned edit =
      (d : Drawing) (e : E) (d' : Drawing) (r : Removed) → Valid m d → edit d e ≡ accepted d' r
      → (plan : Plan) × Pinned d (target e) plan × (apply_plan met m d (target e) plan ≡ accepted d' r)

  module _ (p : Protocol Drawing E Removed) (f : Planned p.edit) where
    pub planned_keeps : Keeps p curve_view target (Valid m)
    planned_keeps =
        record {
          valid = λ d e d' r v q. let (plan, h, o) = f d e d' r v q in plan_valid met m d v (target e) plan d' r o h;
          shape = λ d e d' r v q. let (plan, h, o) = f d e d' r v q in plan_shape met m d v (target e) plan d' r o;
          bounded = λ d c a b v e. (rising_among d.next 0 c (ids d) v.curves_rise (there c (ids d) (stand_in d.curves c (a, b) e))).1;
          curve_bounded = λ d c o v e. (rising_among d.next 0 c (ids d) v.curves_rise (there c (ids d) (look_some d.curves c o e).0)).1;
        }

    pub planned_demand_3 :
        Read p (Valid m) → (start : Drawing) (desk : List (DeskStep Drawing E Removed)) → Valid m start → DeskRun p (initial start) desk
        → (life : List (WallEvent Drawing Removed)) → WallLife p (initial start) life → FromDesk p (initial start) desk life
        → Demand3 p curve_view target start desk life
    planned_demand_3 = demand_3 p curve_view target (Valid m) planned_keeps
