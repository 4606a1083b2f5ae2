use Rattle.std.proofs.Common.{refl, subst, List, ℕ, true, ◌&&◌, ltb, arith}
use Rattle.image.specs.Records.{point_size}
use Rattle.image.specs.Image.{good_point}
use Rattle.rows.specs.Clauses.{RowsTested}
use Rattle.rows.proofs.Search.{rows_are}
use Rattle.rows.proofs.Walked.{alone, rows_start, rows_four, rows_five, rows_on, rows_end}
use Rattle.rows.proofs.faults.points_fault.Goals as goal

pub loop-i-init : goal.loop-i-init
loop-i-init c = rows_start good_point (λ r. true) _ _ _

pub returns-then-not-point_good : goal.returns-then-not-point_good
returns-then-not-point_good c =
    let a = c.args in
    let l = c.loop-i in
    subst (λ (rows : List (List ℕ)). RowsTested good_point (λ r. true) a.next rows a.near.now l.near 4) (rows_are point_size a.points.now _ c.as_chunks.ensures.front)
    (rows_four good_point (λ r. true) a.next l.invariant (omega arith) refl c.point_good.ensures c.if-not-point_good.true)

pub returns-then-not-last-id : goal.returns-then-not-last-id
returns-then-not-last-id c =
    let a = c.args in
    let l = c.loop-i in
    let x = c.get4-id.result in
    subst (λ (rows : List (List ℕ)). RowsTested good_point (λ r. true) a.next rows a.near.now l.near 5) (rows_are point_size a.points.now _ c.as_chunks.ensures.front)
    (rows_five good_point (λ r. true) a.next l.invariant (omega arith) refl c.point_good.ensures c.if-not-point_good.false refl c.get4-id.ensures (alone (ltb l.last x && ltb x a.next) c.if-not-last-id.true))

pub loop-i-preserved : goal.loop-i-preserved
loop-i-preserved c =
    let a = c.args in
    let l = c.loop-i in
    let x = c.get4-id.result in
    rows_on good_point (λ r. true) a.next l.invariant (omega arith) refl c.point_good.ensures c.if-not-point_good.false refl c.get4-id.ensures (alone (ltb l.last x && ltb x a.next) c.if-not-last-id.false) c.note.ensures

pub returns : goal.returns
returns c =
    let a = c.args in
    let l = c.loop-i in
    subst (λ (rows : List (List ℕ)). RowsTested good_point (λ r. true) a.next rows a.near.now l.near 0) (rows_are point_size a.points.now _ c.as_chunks.ensures.front)
    (rows_end good_point (λ r. true) a.next l.invariant (omega arith))
