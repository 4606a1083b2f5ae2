use Rattle.image.proofs.RecordChecks.{good_line}
use Rattle.image.proofs.checks.line_good.Goals as goal

pub returns : goal.returns
returns c = simp (c.get8-4.ensures, c.get8-3.ensures, c.get8-2.ensures, c.get8.ensures, c.get1-2.ensures, c.get1.ensures) (good_line _)
