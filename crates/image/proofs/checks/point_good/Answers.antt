use Rattle.image.proofs.RecordChecks.{good_point_lem}
use Rattle.image.proofs.checks.point_good.Goals as goal

pub returns : goal.returns
returns c = simp (c.coordinate_ok-2.ensures, c.coordinate_ok.ensures, c.float_at-2.ensures, c.float_at.ensures, c.get1.ensures) (good_point_lem _)
