-- No valid drawing's image is larger than the largest that the formats allow. Assumes nothing.
use mathlib.Core.Path.{◌≡◌, refl}
use Prim.Native.Nat.{◌≤◌}
use native.Mathlib.Omega.{arith}
use Rattle.sketch.specs.Drawing.{Drawing, limits}
use Rattle.sketch.specs.Facts.{Valid}
use Rattle.image.specs.Image.{max_image_size}
use Rattle.image.specs.Encode.{drawing_size}

pub max_image_size_lem : max_image_size ≡ 21135
max_image_size_lem = refl

pub image_size : (d : Drawing) → Valid limits d → drawing_size d ≤ max_image_size
image_size d v = omega (arith, v.points_fit, v.curves_fit, v.relations_fit)
