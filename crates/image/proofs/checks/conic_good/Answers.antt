use Rattle.std.proofs.Common.{ap, ◌∙◌}
use Rattle.sketch.specs.Valid.{ok_rho}
use Rattle.image.proofs.RecordChecks.{good_conic}
use Rattle.image.proofs.checks.conic_good.Goals as goal

pub returns : goal.returns
returns c = simp (c.get8-2.ensures, c.get8.ensures, c.get4.ensures, c.get1.ensures, c.get1-flags.ensures) (good_conic _ (c.rho_ok.ensures ∙ ap ok_rho c.float_at.ensures))
