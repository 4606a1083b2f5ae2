use Rattle.std.proofs.Common.{◌≡◌, refl, subst, Bool, List, ℕ, arith}
use Rattle.sketch.specs.Lookup.{among, sort_among}
use Rattle.sketch.specs.Valid.{sound_relation, list_fault}
use Rattle.image.specs.Records.{relation_of, point_size, curve_size, relation_size}
use Rattle.image.specs.Image.{good_relation}
use Rattle.rows.specs.Rows.{ids_in}
use Rattle.rows.specs.Clauses.{sorts_in}
use Rattle.rows.proofs.Search.{rows_are}
use Rattle.rows.proofs.Walked.{list_start, list_four, list_five, list_on, list_end}
use Rattle.rows.proofs.faults.relations_fault.Goals as goal

pub loop-r-init : goal.loop-r-init
loop-r-init c = let a = c.args in list_start good_relation (λ r. sound_relation (λ p. among p (ids_in point_size a.points.now)) (λ j. sort_among j (ids_in curve_size a.curves.now) (sorts_in a.curves.now)) (relation_of r)) _

pub returns-then-not-relation_good : goal.returns-then-not-relation_good
returns-then-not-relation_good c =
    let a = c.args in
    let l = c.loop-r in
    let sound : List ℕ → Bool = (λ r. sound_relation (λ p. among p (ids_in point_size a.points.now)) (λ j. sort_among j (ids_in curve_size a.curves.now) (sorts_in a.curves.now)) (relation_of r)) in
    subst (λ (rows : List (List ℕ)). 4 ≡ list_fault good_relation sound rows) (rows_are relation_size a.relations.now _ c.as_chunks.ensures.front)
    (list_four good_relation sound l.invariant (omega arith) refl c.relation_good.ensures c.if-not-relation_good.true)

pub returns-then-not-relation_sound : goal.returns-then-not-relation_sound
returns-then-not-relation_sound c =
    let a = c.args in
    let l = c.loop-r in
    let sound : List ℕ → Bool = (λ r. sound_relation (λ p. among p (ids_in point_size a.points.now)) (λ j. sort_among j (ids_in curve_size a.curves.now) (sorts_in a.curves.now)) (relation_of r)) in
    subst (λ (rows : List (List ℕ)). 5 ≡ list_fault good_relation sound rows) (rows_are relation_size a.relations.now _ c.as_chunks.ensures.front)
    (list_five good_relation sound l.invariant (omega arith) refl c.relation_good.ensures c.if-not-relation_good.false c.relation_sound.ensures c.if-not-relation_sound.true)

pub loop-r-preserved : goal.loop-r-preserved
loop-r-preserved c =
    let a = c.args in
    let l = c.loop-r in
    let sound : List ℕ → Bool = (λ r. sound_relation (λ p. among p (ids_in point_size a.points.now)) (λ j. sort_among j (ids_in curve_size a.curves.now) (sorts_in a.curves.now)) (relation_of r)) in
    list_on good_relation sound l.invariant (omega arith) refl c.relation_good.ensures c.if-not-relation_good.false c.relation_sound.ensures c.if-not-relation_sound.false

pub returns : goal.returns
returns c =
    let a = c.args in
    let l = c.loop-r in
    let sound : List ℕ → Bool = (λ r. sound_relation (λ p. among p (ids_in point_size a.points.now)) (λ j. sort_among j (ids_in curve_size a.curves.now) (sorts_in a.curves.now)) (relation_of r)) in
    subst (λ (rows : List (List ℕ)). 0 ≡ list_fault good_relation sound rows) (rows_are relation_size a.relations.now _ c.as_chunks.ensures.front)
    (list_end good_relation sound l.invariant (omega arith))
