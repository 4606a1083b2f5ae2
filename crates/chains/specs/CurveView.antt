-- A drawing's curves, as chains and rings see them. Definitions only.
use Rattle.std.proofs.Math.Option.{Option}
use Rattle.std.specs.Prelude.{List, ℕ}
use Rattle.sketch.specs.Drawing.{Drawing, curve_ids, curve_in}
use Rattle.edit_plan.specs.Steps.{ends_at}
use Rattle.agreement.specs.Families.{CurveView}

abbrev pub ids : Drawing → List ℕ
ids d = curve_ids d.curves

-- lines and arcs have ends
abbrev pub ends : Drawing → ℕ → Option (ℕ × ℕ)
ends d i = ends_at (curve_in d.curves i)

abbrev pub curve_view : CurveView Drawing
curve_view = record { ids = ids; ends = ends; curve = λ d i. curve_in d.curves i; next = λ d. d.next }
