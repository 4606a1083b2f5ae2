use Rattle.std.proofs.Common.{◌≡◌, ◌∙◌, ap, ℕ, ◌+◌, ◌-◌, ◌*◌, ◌/◌, ◌%◌, ◌^◌, ◌≤◌, ◌<◌, arith}
use lib.Count.{count_leading_zeros}
use Rattle.float.specs.Root.{closest_root}
use Rattle.float.proofs.Exponents.{zeros, zeros_le, lead, subnormal, normal}
use Rattle.float.proofs.root.scaled.Goals as goal

zeros_in : (t : ℕ) → 0 < t → t < 2 ^ 52 → (11 < count_leading_zeros 64 t) × (count_leading_zeros 64 t ≤ 63)
zeros_in t h k = (zeros t h k, zeros_le t h k)

pub overflow_sub-s : goal.overflow_sub-s
overflow_sub-s c = omega (arith, zeros_in (c.args.b % 2 ^ 52) (omega arith) (omega arith))

pub overflow_cast-s : goal.overflow_cast-s
overflow_cast-s c = omega (arith, zeros_in (c.args.b % 2 ^ 52) (omega arith) (omega arith))

pub overflow_shl-result : goal.overflow_shl-result
overflow_shl-result c = omega (arith, zeros_in (c.args.b % 2 ^ 52) (omega arith) (omega arith))

pub overflow_sub-result : goal.overflow_sub-result
overflow_sub-result c = omega (arith, zeros_in (c.args.b % 2 ^ 52) (omega arith) (omega arith))

pub returns-then-e-eq0 : goal.returns-then-e-eq0
returns-then-e-eq0 c =
    let b = c.args.b in
    let t = b % 2 ^ 52 in
    let s = count_leading_zeros 64 t - 11 in
    let l = lead t (omega arith) (omega arith) in
    let same : t * 2 ^ s % 2 ^ 64 ≡ t * 2 ^ s = omega arith in
    (omega arith, omega arith, omega (arith, zeros_in (c.args.b % 2 ^ 52) (omega arith) (omega arith)), λ r is. subnormal b r (omega arith) c.if-e-eq0.true (is ∙ ap (λ (x : ℕ). (1022 - s) / 2 * 2 ^ 52 + closest_root (x * 2 ^ ((1022 - s) % 2) * 2 ^ 52)) same))

pub returns : goal.returns
returns c = (omega arith, omega arith, omega arith, λ r is. normal c.args.b r (omega arith) (omega arith) is)
