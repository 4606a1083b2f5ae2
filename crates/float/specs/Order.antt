-- The larger of two floats, and the total order by which lists are sorted. Definitions only.
use Rattle.std.specs.Prelude.{Bool, not, ◌&&◌, ◌||◌, cond, Float}
use Rattle.std.specs.Float.Ieee.{lt, eq, is_nan}
use Rattle.float.specs.Sign.{negative}

-- A NaN gives way to the other. Of two equal ones it is the first, which shows between a +0 and a −0 alone.
unfoldable pub max : Float → Float → Float
max a b = cond (is_nan a) b (cond (lt a b) b a)

-- a stands before b: it is less, or a is −0 and b is +0, or b alone is a NaN
unfoldable pub before : Float → Float → Bool
before a b = lt a b || (eq a b && (negative a && not (negative b))) || (is_nan b && not (is_nan a))
