use Rattle.std.proofs.Common.{◌≡◌, ◌∙◌, ap, sym, subst, ℕ, ◌+◌, ◌*◌, ◌%◌, ◌^◌, ◌<◌, arith, ltb}
use Rattle.float.proofs.Exponents.{doubled_lt}
use Rattle.float.proofs.WholeRoots.{byte_le, byte_room, closest_of, closest_near}
use Rattle.float.proofs.root.nearest_root.Goals as goal

pub remainder-e-requires : goal.remainder-e-requires
remainder-e-requires c = omega (arith, (let fact : c.args.m * 2 ^ c.args.odd < 2 ^ 54 = let e : c.args.odd % 2 ≡ c.args.odd = omega arith in subst (λ (x : ℕ). c.args.m * 2 ^ x < 2 ^ 54) e (doubled_lt c.args.m c.args.odd c.requires.0) in fact))

pub overflow_add-result : goal.overflow_add-result
overflow_add-result c = omega (arith, byte_le (ltb c.guess-q.result c.remainder-e.result))

pub overflow_add-result-then-e-q-2 : goal.overflow_add-result-then-e-q-2
overflow_add-result-then-e-q-2 c =
    let q = c.guess-q.result in
    let e = c.remainder-e.result in
    omega (arith, byte_le (ltb q e), byte_le (ltb (3 * q + 2) e))

pub returns-then-e-q : goal.returns-then-e-q
returns-then-e-q c =
    let q = c.guess-q.result in
    let e = c.remainder-e.result in
    let is : q * q + e ≡ c.args.m * 2 ^ c.args.odd * 2 ^ 52 = c.remainder-e.ensures (omega arith) ∙ ap (λ (x : ℕ). x * 2 ^ 52) ((let fact : c.args.m * 2 ^ c.args.odd % 2 ^ 64 ≡ c.args.m * 2 ^ c.args.odd = omega (arith, (let fact : c.args.m * 2 ^ c.args.odd < 2 ^ 54 = let e : c.args.odd % 2 ≡ c.args.odd = omega arith in subst (λ (x : ℕ). c.args.m * 2 ^ x < 2 ^ 54) e (doubled_lt c.args.m c.args.odd c.requires.0) in fact)) in fact)) in
    sym (closest_near (c.args.m * 2 ^ c.args.odd * 2 ^ 52) q e is c.if-e-q.true)

pub digits-r-requires : goal.digits-r-requires
digits-r-requires c = omega (arith, (let fact : c.args.m * 2 ^ c.args.odd < 2 ^ 54 = let e : c.args.odd % 2 ≡ c.args.odd = omega arith in subst (λ (x : ℕ). c.args.m * 2 ^ x < 2 ^ 54) e (doubled_lt c.args.m c.args.odd c.requires.0) in fact))

pub overflow_add-result-2 : goal.overflow_add-result-2
overflow_add-result-2 c =
    let d = c.digits-r.result in
    let w : d.whole < 2 ^ 64 = omega arith in
    let l : d.left < 2 ^ 64 = omega arith in
    record { fits = byte_room d.whole d.left w l }

pub returns : goal.returns
returns c =
    let d = c.digits-r in
    let n = c.args.m * 2 ^ c.args.odd * 2 ^ 52 in
    sym (closest_of n d.result.whole d.result.left (d.ensures.0 ∙ ap (λ (x : ℕ). x * 2 ^ 52) ((let fact : c.args.m * 2 ^ c.args.odd % 2 ^ 64 ≡ c.args.m * 2 ^ c.args.odd = omega (arith, (let fact : c.args.m * 2 ^ c.args.odd < 2 ^ 54 = let e : c.args.odd % 2 ≡ c.args.odd = omega arith in subst (λ (x : ℕ). c.args.m * 2 ^ x < 2 ^ 54) e (doubled_lt c.args.m c.args.odd c.requires.0) in fact)) in fact))) d.ensures.1)
