-- `apply::write_points_after` meets its contract.
use Rattle.std.proofs.Common.{map, arith}
use Rattle.apply.proofs.Parts.{rows_then}
use Rattle.apply.proofs.Images.{length_points_after, staying_long}
use Rattle.apply.specs.Clauses.{staying_rows, points_after}
use Rattle.edit_plan.specs.Changes.{points_new, orphan_list}
use Rattle.image.specs.Encode.{encode_point}
use Rattle.image.specs.Records.{point_size}
use Rattle.apply.proofs.points.write_points_after.Goals as goal

pub write_staying-to-requires : goal.write_staying-to-requires
write_staying-to-requires c =
    let a = c.args in
    let n = length_points_after (orphan_list a.os) a.ch a.points.now in
    omega (arith, n, c.requires)

pub write_new_points-requires : goal.write_new_points-requires
write_new_points-requires c =
    let a = c.args in
    let n = length_points_after (orphan_list a.os) a.ch a.points.now in
    omega (arith, n, c.requires, c.write_staying-to.ensures.1)

pub returns : goal.returns
unfolding points_after
returns c =
    let a = c.args in
    let n = length_points_after (orphan_list a.os) a.ch a.points.now in
    rows_then point_size a.out.now a.at (staying_rows (orphan_list a.os) a.points.now) _ _ (staying_long (orphan_list a.os) a.points.now) c.write_staying-to.ensures.0 c.write_staying-to.ensures.1 (map encode_point (points_new a.ch)) _ (omega (arith, c.requires)) c.write_new_points.ensures
