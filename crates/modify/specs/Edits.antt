-- Trim, split and extend: the plan of each, and the plan applied. Definitions only.
use Rattle.std.specs.Prelude.{ℕ, ◌≡◌, true, eqb}
use Rattle.std.proofs.Math.Option.{Option, some, none}
use Rattle.geom.specs.declared.Vec2.{Vec2}
use Rattle.sketch.specs.declared.Curve.{Curve}
use Rattle.sketch.specs.declared.Sketch.{Sketch}
use Rattle.sketch.specs.Drawing.{Drawing, view, Limits, limits, curve_in}
use Rattle.sketch.specs.Valid.{sketch_fault}
use Rattle.message.specs.declared.Operation.{Operation}
use Rattle.message.specs.declared.Operation.TheVariants.{Trim, Split, Extend}
use Rattle.sketch_geometry.specs.Geometry.{shape_of}
use Rattle.relations.specs.Met.{all_met}
use Rattle.edit_plan.specs.declared.Removed.{Removed}
use Rattle.edit_plan.specs.Edited.{Edited}
use Rattle.edit_plan.specs.Outcome.{Outcome, guard}
use Rattle.edit_plan.specs.Tables.{ok_position}
use Rattle.edit_plan.specs.Suited.{outcome_of, report_of}
use Rattle.refusal.specs.Refusals.{Refused}
use Rattle.planning.specs.Planning.{PlanResult, guard_plan, trim_curve, split_curve}
use Rattle.extend.specs.Extend.{extend_curve}
use Rattle.extend.specs.ExtendAnswer.{apply_planned, reported_place}

-- ---- the plan

unfoldable pub plan_on_curve : Operation → Drawing → Vec2 → Curve → PlanResult
plan_on_curve Trim d p c = trim_curve d p c (shape_of d.points c.kind)
plan_on_curve Split d p c = split_curve d p c (shape_of d.points c.kind)
plan_on_curve Extend d p c = extend_curve d p c c.kind

-- 8 where there is no such curve
unfoldable pub plan_on_found : Operation → Drawing → Vec2 → Option Curve → PlanResult
plan_on_found op d p none = Refused 8
plan_on_found op d p (some c) = plan_on_curve op d p c

-- a pick is finite and of magnitude at most 1,000,000 (9)
abbrev pub plan_edit : Operation → Drawing → ℕ → Vec2 → PlanResult
plan_edit op d t p = guard_plan (ok_position p) 9 (plan_on_found op d p (curve_in d.curves t))

-- ---- an edit: plan, then apply

-- an edit of the curve t, picked at p
abbrev pub edit_of : Operation → Limits → Drawing → ℕ → Vec2 → Outcome Drawing Removed
edit_of op m d t p = apply_planned all_met m d t (plan_edit op d t p)

-- an edit without the test of relations at its end
abbrev pub edit_untested : Operation → Limits → Drawing → ℕ → Vec2 → Outcome Drawing Removed
edit_untested op m d t p = apply_planned (λ d'. true) m d t (plan_edit op d t p)

-- the place that comes with its refusal by the number n
abbrev pub edit_place : Operation → Drawing → ℕ → Vec2 → ℕ → ℕ
edit_place op d t p n = reported_place d (edit_untested op limits d t p) n

-- ---- what is answered for a sketch

-- a sketch that no image gives is refused first
abbrev pub edit_sketch : Operation → Sketch → ℕ → Vec2 → Outcome Drawing Removed
edit_sketch op s t p = guard (eqb (sketch_fault s) 0) (sketch_fault s) (edit_of op limits (view s) t p)

-- the answer is the outcome with its report and its place; on refusal the sketch is left as it was, and after an accepted edit it is one that an image gives
pub record EditAnswer (op : Operation) (s : Sketch) (t : ℕ) (p : Vec2) (r : Edited) : Type 0 where
  pub outcome : outcome_of r ≡ edit_sketch op s t p
  pub report : r.removed ≡ report_of (edit_sketch op s t p)
  pub kept : (r.refusal ≡ 0 → ⊥) → r.sketch ≡ s
  pub valid : r.refusal ≡ 0 → sketch_fault r.sketch ≡ 0
  pub place : r.place ≡ edit_place op (view s) t p r.refusal
