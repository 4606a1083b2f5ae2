-- What relations measure of a curve: its shape, an arc as its whole circle. Definitions only.
use Rattle.std.proofs.Math.Option.{Option, some, none}
use Rattle.shape.specs.Measures.{circle}
use Rattle.shape.specs.declared.Shape.{Shape}
use Rattle.shape.specs.declared.Shape.TheVariants as S

-- a shape with an arc as its whole circle, which is all that relations measure of it
unfoldable pub whole : Option Shape → Option Shape
whole none = none
whole (some (S.Line a b)) = some (S.Line a b)
whole (some (S.Round c r start sweep)) = some (circle c r)
