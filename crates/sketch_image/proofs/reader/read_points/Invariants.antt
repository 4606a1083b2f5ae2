use Rattle.std.proofs.Common.{◌≡◌, refl, List, length}
use Rattle.sketch.specs.declared.Point.{Point}
use Rattle.image.specs.Records.{point_size}
use Rattle.image.specs.Decode.{read_point}
use Rattle.image.proofs.Tables.{Filled}
use Rattle.rows.specs.Rows.{rows_in}
use Rattle.sketch_image.proofs.reader.read_points.Given as goal

abbrev pub invariant-loop-i : goal.invariant-loop-i
invariant-loop-i l = (length l.slots ≡ 512) × (length (rows_in point_size l.points) ≡ l.n) × Filled read_point (λ (l : List Point). l) (λ x. x) (λ l x. refl) (rows_in point_size l.points) l.slots l.i
