use Rattle.std.proofs.Common.{◌≡◌, refl, List, length}
use Rattle.sketch.specs.declared.Curve.{Curve}
use Rattle.image.specs.Records.{curve_size}
use Rattle.image.specs.Decode.{read_curve}
use Rattle.image.proofs.Tables.{Filled}
use Rattle.rows.specs.Rows.{rows_in}
use Rattle.sketch_image.proofs.reader.read_curves.Given as goal

abbrev pub invariant-loop-i : goal.invariant-loop-i
invariant-loop-i l = (length l.slots ≡ 128) × (length (rows_in curve_size l.curves) ≡ l.n) × Filled read_curve (λ (l : List Curve). l) (λ x. x) (λ l x. refl) (rows_in curve_size l.curves) l.slots l.i
