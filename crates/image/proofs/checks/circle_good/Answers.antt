use Rattle.std.proofs.Common.{ap, ◌∙◌}
use Rattle.sketch.specs.Valid.{ok_radius}
use Rattle.image.proofs.RecordChecks.{good_circle}
use Rattle.image.proofs.checks.circle_good.Goals as goal

pub returns : goal.returns
returns c = simp (c.get8-3.ensures, c.get8-2.ensures, c.get8.ensures, c.get4.ensures, c.get1.ensures, c.get1-flags.ensures) (good_circle _ (c.radius_ok.ensures ∙ ap ok_radius c.float_at.ensures))
