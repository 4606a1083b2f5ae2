-- Which plans the code applies: those that suit the curve, with pins to other curves. And what it answers.
use Rattle.std.specs.Prelude.{ℕ, ◌≡◌, Bool, true, false, not, eqb}
use Rattle.sketch.specs.declared.Curve.{Curve}
use Rattle.sketch.specs.declared.CurveKind.{CurveKind}
use Rattle.sketch.specs.declared.CurveKind.TheVariants.{Line, Arc, Circle, Bezier, Conic}
use Rattle.sketch.specs.Lists.{ite}
use Rattle.sketch.specs.Lookup.{among}
use Rattle.sketch.specs.Drawing.{Drawing, view, curve_ids}
use Rattle.edit_plan.specs.declared.Pin.{Pin}
use Rattle.edit_plan.specs.declared.Pin.TheVariants.{On, At}
use Rattle.edit_plan.specs.declared.Plan.{Plan}
use Rattle.edit_plan.specs.declared.Plan.TheVariants.{Whole, Cut, CutTwo, Divide, DivideTwo, Move}
use Rattle.edit_plan.specs.Edited.{Edited}
use Rattle.edit_plan.specs.declared.Removed.{Removed}
use Rattle.edit_plan.specs.Outcome.{Outcome, refused, accepted}
use Rattle.edit_plan.specs.Tables.{uses, others}
use Rattle.edit_plan.specs.Steps.{nothing}

-- a line or an arc is cut at one place, or at two, between which a piece is removed
unfoldable pub suits_open : Plan → Bool
suits_open Whole = true
suits_open (Cut w first_goes) = true
suits_open (CutTwo w v first_goes) = not first_goes
suits_open (Divide v) = true
suits_open (DivideTwo v u) = false
suits_open (Move at_end v w) = false

-- a circle is cut at two places
unfoldable pub suits_closed : Plan → Bool
suits_closed Whole = true
suits_closed (Cut w first_goes) = false
suits_closed (CutTwo w v first_goes) = true
suits_closed (Divide v) = false
suits_closed (DivideTwo v u) = true
suits_closed (Move at_end v w) = false

unfoldable pub suits : CurveKind → Plan → Bool
suits (Line a b) plan = suits_open plan
suits (Arc c a b) plan = suits_open plan
suits (Circle c r) plan = suits_closed plan
suits (Bezier n) plan = false
suits (Conic a p b rho) plan = false

-- a cut of the curve t is made by another curve, or lies at a point that another uses
abbrev pub PinHolds : Drawing → ℕ → Pin → Type 0
PinHolds d t (On c) = (c ≡ t → ⊥) × (among c (curve_ids d.curves) ≡ true)
PinHolds d t (At e) = among e (uses (others t d.curves)) ≡ true

abbrev pub Pinned : Drawing → ℕ → Plan → Type 0
Pinned d t Whole = Unit {0}
Pinned d t (Cut w first_goes) = PinHolds d t w.pin
Pinned d t (CutTwo w v first_goes) = PinHolds d t w.pin × PinHolds d t v.pin
Pinned d t (Divide v) = Unit {0}
Pinned d t (DivideTwo v u) = Unit {0}
Pinned d t (Move at_end v w) = PinHolds d t w

pub record Suited (d : Drawing) (c : Curve) (plan : Plan) : Type 0 where
  pub kind : suits c.kind plan ≡ true
  pub pins : Pinned d c.id plan

-- ---- answers

abbrev pub outcome_of : Edited → Outcome Drawing Removed
outcome_of r = ite (eqb r.refusal 0) (accepted (view r.sketch) r.removed) (refused r.refusal)

-- the report says what is removed, and is three zeros on refusal
abbrev pub report_of : Outcome Drawing Removed → Removed
report_of (refused n) = nothing
report_of (accepted d removed) = removed
