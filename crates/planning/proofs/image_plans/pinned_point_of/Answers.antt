use Rattle.planning.proofs.ImageCurves.{place_in}
use Rattle.planning.proofs.image_plans.pinned_point_of.Goals as goal

pub returns : goal.returns
returns c = place_in _ c.args.sh c.args.k c.point-q.ensures c.pin_at.ensures
