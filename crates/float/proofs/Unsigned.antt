-- A sum of squares has no sign: it is not negative, no −0, and may be +∞ or a NaN. Assumes nothing.
use Prim.Native.Nat.{ℕ, zero, suc, ◌+◌, ◌*◌, ◌^◌, ◌/◌, ◌%◌, ◌-◌, compare}
use mathlib.Core.Bool.{Bool, true, false, not, cond}
use lib.Dec.{T, ltb}
use lib.Ieee.{Float, nan, inf, fin, Format, binary64, add, mul, round, units, odd, sum, up, down, low, emax, prec, size, nearest}
use Rattle.float.specs.Numbers.{◌⊕◌, ◌⊗◌}

abbrev pub unsigned : Float → Bool
unsigned nan = true
unsigned (inf s) = not s
unsigned (fin s m e) = not s

cond_unsigned : (b : Bool) (x y : Float) → T (unsigned x) → T (unsigned y) → T (unsigned (cond b x y))
cond_unsigned true x y h k = h
cond_unsigned false x y h k = k

odd_unsigned : (d q k l : ℕ) → T (unsigned (odd d false q k l))
unfolding odd
odd_unsigned d zero k l = tt
odd_unsigned d (suc q) k l = tt

units_unsigned : (f : Format) (q k : ℕ) → T (unsigned (units f false q k))
unfolding units
units_unsigned f q k =
    cond_unsigned (ltb (q * 2 ^ k) (2 ^ (low f + suc (emax f)))) (odd (suc (prec f)) false q k (low f)) (inf false) (odd_unsigned (suc (prec f)) q k (low f)) tt

round_unsigned : (f : Format) (a b : ℕ) → T (unsigned (round f false a b))
unfolding round
round_unsigned f a b =
    let n = a * 2 ^ low f in
    let k = size (n / b) - prec f in
    let u = b * 2 ^ k in
    units_unsigned f (nearest (n / u) (compare (n % u * 2) u)) k

pub square_unsigned : (f : Format) (x : Float) → T (unsigned (mul f x x))
unfolding mul
square_unsigned f nan = tt
square_unsigned f (inf true) = tt
square_unsigned f (inf false) = tt
square_unsigned f (fin true m e) = round_unsigned f (m * up e * (m * up e)) (down e * down e)
square_unsigned f (fin false m e) = round_unsigned f (m * up e * (m * up e)) (down e * down e)

pub add_unsigned : (f : Format) (x y : Float) → T (unsigned x) → T (unsigned y) → T (unsigned (add f x y))
unfolding add sum
add_unsigned f nan y h k = tt
add_unsigned f (inf true) y h k = absurd h
add_unsigned f (inf false) nan h k = tt
add_unsigned f (inf false) (inf true) h k = absurd k
add_unsigned f (inf false) (inf false) h k = tt
add_unsigned f (inf false) (fin t n d) h k = tt
add_unsigned f (fin true m e) y h k = absurd h
add_unsigned f (fin false m e) nan h k = tt
add_unsigned f (fin false m e) (inf true) h k = absurd k
add_unsigned f (fin false m e) (inf false) h k = tt
add_unsigned f (fin false m e) (fin true n d) h k = absurd k
add_unsigned f (fin false m e) (fin false n d) h k = round_unsigned f (m * up e * down d + n * up d * down e) (down e * down d)

pub squares_unsigned : (x y : Float) → T (unsigned (x ⊗ x ⊕ y ⊗ y))
squares_unsigned x y = add_unsigned binary64 (x ⊗ x) (y ⊗ y) (square_unsigned binary64 x) (square_unsigned binary64 y)
