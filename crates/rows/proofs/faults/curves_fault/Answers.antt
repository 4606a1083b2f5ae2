use Rattle.std.proofs.Common.{refl, subst, Bool, List, ℕ, arith}
use Rattle.sketch.specs.Lookup.{among}
use Rattle.sketch.specs.Valid.{sound_curve}
use Rattle.image.specs.Records.{curve_of, point_size, curve_size}
use Rattle.image.specs.Image.{good_curve}
use Rattle.rows.specs.Rows.{ids_in}
use Rattle.rows.specs.Clauses.{RowsTested}
use Rattle.rows.proofs.Search.{rows_are}
use Rattle.rows.proofs.Walked.{rows_start, rows_four, rows_five, rows_on, rows_end}
use Rattle.rows.proofs.faults.curves_fault.Goals as goal

pub loop-i-init : goal.loop-i-init
loop-i-init c = rows_start good_curve (λ r. sound_curve (λ p. among p (ids_in point_size c.args.points.now)) (curve_of r)) _ _ _

pub returns-then-not-curve_good : goal.returns-then-not-curve_good
returns-then-not-curve_good c =
    let a = c.args in
    let l = c.loop-i in
    let sound : List ℕ → Bool = (λ r. sound_curve (λ p. among p (ids_in point_size a.points.now)) (curve_of r)) in
    subst (λ (rows : List (List ℕ)). RowsTested good_curve sound a.next rows a.near.now l.near 4) (rows_are curve_size a.curves.now _ c.as_chunks.ensures.front)
    (rows_four good_curve sound a.next l.invariant (omega arith) refl c.curve_good.ensures c.if-not-curve_good.true)

pub returns-then-not-last-id : goal.returns-then-not-last-id
returns-then-not-last-id c =
    let a = c.args in
    let l = c.loop-i in
    let sound : List ℕ → Bool = (λ r. sound_curve (λ p. among p (ids_in point_size a.points.now)) (curve_of r)) in
    subst (λ (rows : List (List ℕ)). RowsTested good_curve sound a.next rows a.near.now l.near 5) (rows_are curve_size a.curves.now _ c.as_chunks.ensures.front)
    (rows_five good_curve sound a.next l.invariant (omega arith) refl c.curve_good.ensures c.if-not-curve_good.false c.curve_sound.ensures c.get4-id.ensures c.if-not-last-id.true)

pub loop-i-preserved : goal.loop-i-preserved
loop-i-preserved c =
    let a = c.args in
    let l = c.loop-i in
    let sound : List ℕ → Bool = (λ r. sound_curve (λ p. among p (ids_in point_size a.points.now)) (curve_of r)) in
    rows_on good_curve sound a.next l.invariant (omega arith) refl c.curve_good.ensures c.if-not-curve_good.false c.curve_sound.ensures c.get4-id.ensures c.if-not-last-id.false c.note.ensures

pub returns : goal.returns
returns c =
    let a = c.args in
    let l = c.loop-i in
    let sound : List ℕ → Bool = (λ r. sound_curve (λ p. among p (ids_in point_size a.points.now)) (curve_of r)) in
    subst (λ (rows : List (List ℕ)). RowsTested good_curve sound a.next rows a.near.now l.near 0) (rows_are curve_size a.curves.now _ c.as_chunks.ensures.front)
    (rows_end good_curve sound a.next l.invariant (omega arith))
