-- Sign, magnitude and finiteness of a float. A NaN has no sign. Definitions only.
use Rattle.std.specs.Prelude.{Bool, true, false, cond, Float}
use Rattle.std.specs.Float.{nan, inf, fin}
use Rattle.std.specs.Float.Ieee.{neg}
use Rattle.float.specs.Numbers.{1f}

-- neither a NaN nor an infinity
unfoldable pub is_finite : Float → Bool
is_finite nan = false
is_finite (inf s) = false
is_finite (fin s m e) = true

-- the sign bit: set for −0, clear for +0
unfoldable pub negative : Float → Bool
negative nan = false
negative (inf s) = s
negative (fin s m e) = s

-- the sign bit cleared
unfoldable pub abs : Float → Float
abs nan = nan
abs (inf s) = inf false
abs (fin s m e) = fin false m e

-- 1 of +0, and −1 of −0
unfoldable pub signum : Float → Float
signum nan = nan
signum (inf s) = cond s (neg 1f) 1f
signum (fin s m e) = cond s (neg 1f) 1f
