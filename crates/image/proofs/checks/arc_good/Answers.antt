use Rattle.image.proofs.RecordChecks.{good_arc}
use Rattle.image.proofs.checks.arc_good.Goals as goal

pub returns : goal.returns
returns c = simp (c.get8-3.ensures, c.get8-2.ensures, c.get4.ensures, c.get8.ensures, c.get1.ensures, c.get1-flags.ensures) (good_arc _)
