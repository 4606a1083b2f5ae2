-- IEEE 754's square root, in the manner of `lib.Ieee`: the root, worked out exactly, rounded once to the nearest value of the format.
-- That it is the nearest is proved in `proofs/Nearest.antt`. Definitions only.
use Prim.Native.Nat.{ℕ, zero, suc, ◌+◌, ◌-◌, ◌*◌, ◌/◌, ◌^◌, ◌<◌, compare}
use Rattle.std.specs.Prelude.{Bool, true, false, not, cond, T, ltb, Float}
use Rattle.std.specs.Float.{nan, inf, fin, Format}
use Rattle.std.specs.Float.Ieee.{prec, low, up, down, size, nearest, units, lt}
use Rattle.std.specs.Float.Ieee.Positive.{num, den}

abbrev pub sq : ℕ → ℕ
sq a = a * a

-- The whole part of the root of an n below 4 ^ d: the largest r with r * r ≤ n. A binary digit of the root for two of n.
unfoldable pub whole_root : ℕ → ℕ → ℕ
whole_root zero n = 0
whole_root (suc d) n = let r = 2 * whole_root d (n / 4) in cond (ltb n (sq (r + 1))) r (r + 1)

unfoldable pub isqrt : ℕ → ℕ
unfolding size whole_root
isqrt n = whole_root (size n) n

-- The whole number that is nearest to the root of n. Four times n is no odd number's square, so there is no tie.
unfoldable pub closest_root : ℕ → ℕ
unfolding isqrt
closest_root n = let q = isqrt n in nearest q (compare (4 * n) (sq (2 * q + 1)))

-- The value of the format f that is nearest to the root of num / den, for a den above 0. (`round` has the same four steps.)
-- In units of f's smallest value, 2 ^ -low, the root is that of n / den.
-- Of its whole part w the format keeps the `prec` leading digits q, and drops k. So the result is q * 2 ^ k units or (q + 1) * 2 ^ k:
-- by how the root compares with (q + 1 / 2) * 2 ^ k, and at a tie the even one.
unfoldable pub root : Format → ℕ → ℕ → Float
unfolding isqrt size units
root f num den =
    let n = num * sq (2 ^ low f) in
    let w = isqrt (n / den) in
    let k = size w - prec f in
    let q = w / 2 ^ k in
    units f false (nearest q (compare (4 * n) (sq ((2 * q + 1) * 2 ^ k) * den))) k

-- The root of a zero is that zero, and of any other negative number there is none.
unfoldable pub sqrt : Format → Float → Float
unfolding root
sqrt f nan = nan
sqrt f (inf s) = cond s nan (inf false)
sqrt f (fin s zero e) = fin s zero e
sqrt f (fin true (suc m) e) = nan
sqrt f (fin false (suc m) e) = root f (suc m * up e) (down e)

-- ---- what correct rounding says, for `proofs/Nearest.antt`
-- finite, and not negative
abbrev pub plain : Float → Bool
plain nan = false
plain (inf s) = false
plain (fin s m e) = not s

-- The value r is nearer to the root of x than the value v is, all three finite and not negative: for v below r the root is above (r + v) / 2,
-- and for v above r it is below (r + v) / 2. So that no root is written, both sides are squared; with r = a / b, v = c / d and x = n / m,
-- (r + v) / 2 < √x is sq (a * d + c * b) * m < 4 * n * sq (b * d).
pub record Nearer (x r v : Float) : Type 0 where
  pub from_below : T (lt v r) → sq (num r * den v + num v * den r) * den x < 4 * num x * sq (den r * den v)
  pub from_above : T (lt r v) → 4 * num x * sq (den r * den v) < sq (num r * den v + num v * den r) * den x
