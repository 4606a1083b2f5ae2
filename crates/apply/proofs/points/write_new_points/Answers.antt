-- `apply::write_new_points` meets its contract.
use Rattle.apply.proofs.Parts.{point_put, points_put}
use Rattle.apply.proofs.points.write_new_points.Goals as goal

pub returns-in-Some : goal.returns-in-Some
returns-in-Some c =
    let a = c.args in
    points_put a.ch a.out.now a.at c.in-Some.second _ _ c.in-Some.is c.requires c.write_point.ensures c.write_point-in-Some.ensures

pub returns-in_default : goal.returns-in_default
returns-in_default c =
    let a = c.args in
    point_put a.ch a.out.now a.at _ c.in_default.is c.requires c.write_point.ensures
