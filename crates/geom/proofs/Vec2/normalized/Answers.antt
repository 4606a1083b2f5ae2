use Rattle.std.proofs.Common.{◌∙◌, ap, sym, Float}
use lib.Ieee.{lt}
use Rattle.float.specs.Numbers.{1e-12}
use Rattle.geom.specs.Plane.{normalized}
use Rattle.geom.proofs.Vec2.normalized.Goals as goal

pub returns-then-l : goal.returns-then-l
unfolding normalized
returns-then-l c = simp (ap (λ (l : Float). lt l 1e-12) (sym c.len-l.ensures) ∙ c.if-l.true)

pub returns-else-l : goal.returns-else-l
unfolding normalized
returns-else-l c = simp (ap (λ (l : Float). lt l 1e-12) (sym c.len-l.ensures) ∙ c.if-l.false, c.div.ensures, c.len-l.ensures)
