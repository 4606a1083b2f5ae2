use Rattle.std.proofs.Common.{◌+◌, ◌≡◌, List, [], ◌++◌, length, take, drop, ap, Float, arith}
use Rattle.std.proofs.lemmas.Result.{err_from_is_err_and}
use Rattle.float.specs.Numbers.{◌⊗◌, 2e-13}
use Rattle.bernstein.specs.Answers.{answer_in}
use Rattle.bernstein.specs.Roots.{bisect_between, gathered, sorted_dedup, level_of}
use Rattle.bernstein.proofs.Levels.{refuses, finds, part_length, knots_are, knots_fit, knots_counted, knots_few, level_is, level_refused, level_found, q_counted, q_fits, level_few}
use Rattle.bernstein.proofs.level.roots_between.Goals as goal
use Rattle.bernstein.proofs.level.roots_between.Goals.{After-between}

-- once the search between the knots is done
abbrev knots : After-between → List Float
knots c = take c.sort_dedup-m.result (c.sort_dedup-m.new.v ++ drop (length c.args.ts.now + 2) c.join-k.result)

abbrev zeros : After-between → List Float
zeros c = take c.zeros-z.result c.zeros-z.new.f

is_level : (c : After-between) → level_of c.args.c.now c.args.ts.now c.args.budget
    ≡ sorted_dedup (gathered (zeros c) (bisect_between c.args.c.now (c.args.largest ⊗ 2e-13) (knots c) c.args.budget))
is_level c =
    let a = c.args in
    let t = c.sort_dedup-m in
    level_is a.c.now a.ts.now (knots c) (zeros c) a.budget a.largest (knots_are _ _ _ _ c.join-k.ensures.0 t.ensures.0 t.ensures.1 t.auto.v) c.requires.2 c.zeros-z.ensures.0

pub slice_bounds-sort_dedup-end : goal.slice_bounds-sort_dedup-end
slice_bounds-sort_dedup-end c = part_length c.args.ts.now c.join-k.result [] 0 c.join-k.ensures.0

pub slice_bounds-k-end-2 : goal.slice_bounds-k-end-2
slice_bounds-k-end-2 c = let t = c.sort_dedup-m in knots_fit _ _ _ _ c.join-k.ensures.0 t.ensures.0 t.ensures.1 t.auto.v

pub slice_bounds-zeros-end : goal.slice_bounds-zeros-end
slice_bounds-zeros-end c = let t = c.sort_dedup-m in knots_counted _ _ _ _ c.join-k.ensures.0 t.ensures.0 t.ensures.1 t.auto.v

pub zeros-z-requires : goal.zeros-z-requires
zeros-z-requires c =
    let t = c.sort_dedup-m in
    omega (arith, knots_few _ _ _ _ c.join-k.ensures.0 t.ensures.0 t.ensures.1 t.auto.v)

pub slice_bounds-k-end-3 : goal.slice_bounds-k-end-3
slice_bounds-k-end-3 c = let t = c.sort_dedup-m in knots_fit _ _ _ _ c.join-k.ensures.0 t.ensures.0 t.ensures.1 t.auto.v

pub slice_bounds-between-end : goal.slice_bounds-between-end
slice_bounds-between-end c = let t = c.sort_dedup-m in knots_counted _ _ _ _ c.join-k.ensures.0 t.ensures.0 t.ensures.1 t.auto.v

pub between-requires : goal.between-requires
between-requires c =
    let t = c.sort_dedup-m in
    omega (arith, knots_few _ _ _ _ c.join-k.ensures.0 t.ensures.0 t.ensures.1 t.auto.v)

pub returns-in_err-all : goal.returns-in_err-all
returns-in_err-all c =
    let p = err_from_is_err_and c.from_residual.result c.from_residual.ensures.1 in
    let l = is_level (goal.at.returns-in_err-all c).After-between in
    rw (p.1, p.2) (refuses _ _ _ _ (level_refused _ _ _ _ l _ _ c.between.ensures _ _ (ap answer_in (c.in_err-all.was))))

pub slice_bounds-f-end : goal.slice_bounds-f-end
slice_bounds-f-end c = q_fits _ _ _ _ (is_level (goal.at.slice_bounds-f-end c).After-between) _ _ c.between.ensures _ _ (ap answer_in (c.in_ok-all.was))

pub slice_bounds-settle-end : goal.slice_bounds-settle-end
slice_bounds-settle-end c =
    q_counted _ _ _ _ (is_level (goal.at.slice_bounds-settle-end c).After-between) _ _ c.between.ensures _ _ (ap answer_in (c.in_ok-all.was))

pub settle-count-requires : goal.settle-count-requires
settle-count-requires c =
    let few = level_few _ _ _ _ (is_level (goal.at.settle-count-requires c).After-between) _ _ c.between.ensures _ _ (ap answer_in (c.in_ok-all.was)) in
    omega (arith, few)

pub returns : goal.returns
returns c =
    let s = c.settle-count.ensures in
    let all = level_found _ _ _ _ (is_level (goal.at.returns c).After-between) _ _ c.between.ensures _ _ (ap answer_in (c.in_ok-all.was)) in
    finds _ _ _ _ _ _ all s.value s.out_after
