use Rattle.std.proofs.Common.{sym, ap, ◌∙◌}
use Rattle.sketch.specs.declared.Curve.{Curve}
use Rattle.sketch.specs.Lookup.{among}
use Rattle.sketch.specs.Drawing.{uses_of}
use Rattle.edit_plan.proofs.Leaves.{or_false, or_assoc}
use Rattle.extend.proofs.image_extend.record_uses.Goals as goal

pub returns-in-Line : goal.returns-in-Line
unfolding uses_of
returns-in-Line c = simp (sym c.read_kind.ensures ∙ c.in-Line.is, or_false)

pub returns-in-Arc : goal.returns-in-Arc
unfolding uses_of
returns-in-Arc c = simp (sym c.read_kind.ensures ∙ c.in-Arc.is, or_false, or_assoc)

pub returns-in-Circle : goal.returns-in-Circle
unfolding uses_of
returns-in-Circle c = simp (sym c.read_kind.ensures ∙ c.in-Circle.is, or_false)

pub returns-in_default : goal.returns-in_default
returns-in_default c = c.curve_uses.ensures ∙ ap (λ (k : Curve). among c.args.p (uses_of k.kind k.slots)) c.read_curve.ensures
