use Rattle.std.proofs.Common.{List, refl}
use Rattle.image.specs.Encode.{encode_point}
use Rattle.image.specs.Records.{point_size}
use Rattle.sketch.specs.declared.Point.{Point}
use Rattle.image.proofs.Tables.{Writing}
use Rattle.sketch_image.proofs.writer.write_points.Given as goal

abbrev pub invariant-loop-i : goal.invariant-loop-i
invariant-loop-i l = Writing encode_point point_size (λ (l : List Point). l) (λ x. x) (λ l x. refl) l.initial.buf l.from l.points l.i l.buf
