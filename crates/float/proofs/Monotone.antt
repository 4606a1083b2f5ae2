-- The rounded root is monotone: two uses of `sqrt_nearest`, each root tried as the other's rival. Assumes nothing.
use Prim.Native.Nat.{ℕ, ◌+◌, ◌*◌, ◌≤◌, ◌<◌}
use mathlib.Core.Path.{◌≡◌}
use native.Mathlib.Omega.{arith}
use native.Mathlib.Nat.{mul_assoc, mul_comm, mul_left_comm, mul_right_comm, add_comm, mul-le-mul_right, mul-lt-mul_of_pos_right}
use lib.Dec.{T}
use lib.Ieee.{Float, Format, lt, fits}
use lib.Ieee.Positive.{num, den, positive, den_pos}
use Rattle.float.specs.Root.{sq, sqrt}
use Rattle.float.proofs.Units.{positive_plain}
use Rattle.float.proofs.Nearest.{sqrt_nearest}

-- M / D below x and above y, all with their denominators: then y is below x
crossed : (M D nx dx ny dy : ℕ) → 0 < dx → 0 < dy → M * dx < nx * D → ny * D < M * dy → nx * dy ≤ ny * dx → ⊥
crossed M D nx dx ny dy hx hy a b c =
    let s1 : M * dx * dy < nx * D * dy = mul-lt-mul_of_pos_right a hy in
    let s2 : nx * dy * D ≤ ny * dx * D = mul-le-mul_right D c in
    let s3 : ny * D * dx < M * dy * dx = mul-lt-mul_of_pos_right b hx in
    let e1 : nx * D * dy ≡ nx * dy * D = mul_right_comm nx D dy in
    let e2 : ny * dx * D ≡ ny * D * dx = mul_right_comm ny dx D in
    let e3 : M * dy * dx ≡ M * dx * dy = mul_right_comm M dy dx in
    order (M * dx * dy) (nx * D * dy) (nx * dy * D) (ny * dx * D) (ny * D * dx) (M * dy * dx) s1 e1 s2 e2 s3 e3
  where
    order : (p q r s t u : ℕ) → p < q → q ≡ r → r ≤ s → s ≡ t → t < u → u ≡ p → ⊥
    order p q r s t u h1 h2 h3 h4 h5 h6 = omega arith

four : (n s : ℕ) → 4 * n * s ≡ n * (4 * s)
four n s = simp (mul_assoc, mul_comm, mul_left_comm)

-- x is at most y, so the root of y is not below that of x
pub sqrt_mono : (f : Format) (x y : Float) → T (fits f x) → T (positive x) → T (fits f y) → T (positive y) → num x * den y ≤ num y * den x → T (lt (sqrt f y) (sqrt f x)) → ⊥
sqrt_mono f x y fx px fy py h l =
    let r = sqrt f x in
    let s = sqrt f y in
    let gr = sqrt_nearest f x x fx px fx (positive_plain x px) in
    let gs = sqrt_nearest f y y fy py fy (positive_plain y py) in
    let a = (sqrt_nearest f x s fx px gs.0 gs.1).2.from_below l in
    let b = (sqrt_nearest f y r fy py gr.0 gr.1).2.from_above l in
    let a' : sq (num r * den s + num s * den r) * den x < num x * (4 * sq (den r * den s)) = rw (← four (num x) (sq (den r * den s))) a in
    let b' : num y * (4 * sq (den r * den s)) < sq (num r * den s + num s * den r) * den y =
    rw (← four (num y) (sq (den r * den s)), mul_comm (den r) (den s), add_comm (num r * den s) (num s * den r)) b
    in
    crossed (sq (num r * den s + num s * den r)) (4 * sq (den r * den s)) (num x) (den x) (num y) (den y) (den_pos x) (den_pos y) a' b' h
