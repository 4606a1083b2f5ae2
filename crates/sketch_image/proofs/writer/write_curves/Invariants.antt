use Rattle.std.proofs.Common.{List, refl}
use Rattle.image.specs.Encode.{encode_curve}
use Rattle.image.specs.Records.{curve_size}
use Rattle.sketch.specs.declared.Curve.{Curve}
use Rattle.image.proofs.Tables.{Writing}
use Rattle.sketch_image.proofs.writer.write_curves.Given as goal

abbrev pub invariant-loop-i : goal.invariant-loop-i
invariant-loop-i l = Writing encode_curve curve_size (λ (l : List Curve). l) (λ x. x) (λ l x. refl) l.initial.buf l.from l.curves l.i l.buf
