-- `apply::write_points_with` meets its contract.
use Rattle.apply.specs.Clauses.{points_with}
use Rattle.apply.proofs.Parts.{row_set}
use Rattle.image.specs.Records.{point_size}
use Rattle.image.specs.Encode.{encode_point}
use Rattle.image.proofs.Points.{length_point}
use Rattle.apply.proofs.moved.write_points_with.Goals as goal

pub returns : goal.returns
unfolding points_with
returns c = row_set point_size c.args.k c.args.points.now c.requires.0 c.args.out.now c.args.at _ _ c.put_rows-a.ensures.0 c.put_rows-a.ensures.1 (encode_point c.args.p) _ _ c.requires.1 (length_point c.args.p) c.write_point.ensures c.put_rows.ensures.0
