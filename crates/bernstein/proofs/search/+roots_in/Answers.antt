use Rattle.std.proofs.Common.{sym, ap, arith, rules}
use Rattle.float.proofs.LargestMagnitude.{magnitude_largest}
use Rattle.bernstein.specs.Answers.{answer_in}
use Rattle.bernstein.proofs.Levels.{refuses, finds_none, renamed, none_given, too_many, not_finite, all_tiny, constant, sub_length, sub_fits, sub_few, sub_level, sub_refused}
use Rattle.bernstein.proofs.search.+roots_in.Goals as goal
use Rattle.bernstein.proofs.search.+roots_in.Goals.{then-n-eq0-via-then-n-eq0, then-n-eq0-via-else-n-eq0+then-n-gt-MOST, then-largest-via-then-largest, then-largest-via-else-largest+then-n-eq1}

pub returns-then-n-eq0 : goal.returns-then-n-eq0
returns-then-n-eq0 t c =
    elim c.then-n-eq0.branch [
      | then-n-eq0-via-then-n-eq0 w ↦ refuses _ _ _ _ (none_given _ _ w.if-n-eq0.true)
      | then-n-eq0-via-else-n-eq0+then-n-gt-MOST w ↦ refuses _ _ _ _ (too_many _ _ w.if-n-gt-MOST.true)
    ]

pub returns-in_default : goal.returns-in_default
returns-in_default t c = refuses _ _ _ _ (not_finite _ _ c.if-n-gt-MOST.false (omega arith) _ (sym c.in_default.ensures))

pub returns-then-largest : goal.returns-then-largest
returns-then-largest t c =
    elim c.then-largest.branch [
      | then-largest-via-then-largest w ↦ finds_none _ _ _ (all_tiny _ _ c.if-n-gt-MOST.false _ (sym c.in-Ok.ensures) (omega arith) w.if-largest.true)
      | then-largest-via-else-largest+then-n-eq1 w ↦ finds_none _ _ _ (constant _ _ c.if-n-gt-MOST.false _ (sym c.in-Ok.ensures) w.if-largest.false w.if-n-eq1.true)
    ]

pub returns-in_default-answer : goal.returns-in_default-answer
returns-in_default-answer t c =
    let d = c.in_default-answer in
    rw d.is (refuses _ _ _ _ (sub_refused _ _ _ _ _ _ (omega arith) c.if-n-gt-MOST.false c.derivative-d.ensures c.roots_in-answer.ensures _ _ (ap answer_in d.is) _ (sym c.in-Ok.ensures) c.if-largest.false))

pub slice_bounds-ts-end : goal.slice_bounds-ts-end
slice_bounds-ts-end t c = sub_fits _ _ _ _ _ _ (omega arith) c.if-n-gt-MOST.false c.derivative-d.ensures c.roots_in-answer.ensures _ _ (ap answer_in c.in-Ok-answer.is)

pub slice_bounds-roots_between-end : goal.slice_bounds-roots_between-end
slice_bounds-roots_between-end t c = sub_length _ _ _ _ _ _ (omega arith) c.if-n-gt-MOST.false c.derivative-d.ensures c.roots_in-answer.ensures _ _ (ap answer_in c.in-Ok-answer.is)

pub roots_between-requires : goal.roots_between-requires
roots_between-requires t c =
    (sub_few _ _ _ _ _ _ (omega arith) c.if-n-gt-MOST.false c.derivative-d.ensures c.roots_in-answer.ensures _ _ (ap answer_in c.in-Ok-answer.is), search rules, (magnitude_largest _ _ (sym c.in-Ok.ensures)).1)

pub returns : goal.returns
returns t c =
    renamed _ _ _ _ _ (sub_level _ _ _ _ _ _ (omega arith) c.if-n-gt-MOST.false c.derivative-d.ensures c.roots_in-answer.ensures _ _ (ap answer_in c.in-Ok-answer.is) _ (sym c.in-Ok.ensures) c.if-largest.false) c.roots_between.ensures
