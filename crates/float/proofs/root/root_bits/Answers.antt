use Rattle.std.proofs.Common.{◌*◌, ◌%◌, ◌^◌, ◌≤◌, arith}
use Rattle.float.proofs.Exponents.{doubled_lt, doubled_ge, closest_le}
use Rattle.float.proofs.root.root_bits.Goals as goal

pub overflow_add-result : goal.overflow_add-result
overflow_add-result c = omega (arith, (let fact : c.nearest_root.result ≤ 2 ^ 53 = let v = c.scaled-v in let m = v.result.m in let g = v.result.g in omega (arith, c.nearest_root.ensures, closest_le (m * 2 ^ (g % 2)) (doubled_ge m g v.ensures.0) (doubled_lt m g v.ensures.1)) in fact))

pub returns : goal.returns
returns c = let v = c.scaled-v in v.ensures.3 _ (omega (arith, (let fact : c.nearest_root.result ≤ 2 ^ 53 = let v = c.scaled-v in let m = v.result.m in let g = v.result.g in omega (arith, c.nearest_root.ensures, closest_le (m * 2 ^ (g % 2)) (doubled_ge m g v.ensures.0) (doubled_lt m g v.ensures.1)) in fact), c.nearest_root.ensures))
