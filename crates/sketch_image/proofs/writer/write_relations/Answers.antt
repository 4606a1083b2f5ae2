use Rattle.std.proofs.Common.{length, List, ◌∷◌, [], map, ◌≡◌, refl, ◌∙◌, arith}
use Rattle.image.proofs.Relations.{length_relation}
use Rattle.image.specs.Encode.{encode_relation}
use Rattle.image.specs.Records.{relation_size}
use Rattle.sketch.specs.declared.RelationSlot.{RelationSlot}
use mathlib.Core.List.{map-append}
use Rattle.sketch_image.proofs.Written.{over_where_fits}
use Rattle.image.proofs.Tables.{writing_starts, writing_turns}
use lib.Seq.{take-length}
use Rattle.sketch_image.proofs.writer.write_relations.Goals as goal

pub loop-i-init : goal.loop-i-init
loop-i-init c = writing_starts encode_relation relation_size (λ (l : List RelationSlot). map (λ t. t.relation) l) (λ t. t.relation) (λ l x. map-append (λ t. t.relation) l (x ∷ [])) refl _ _ _

pub loop-i-preserved : goal.loop-i-preserved
loop-i-preserved c =
    let l = c.loop-i in
    writing_turns encode_relation relation_size (λ (l : List RelationSlot). map (λ t. t.relation) l) (λ t. t.relation) (λ l x. map-append (λ t. t.relation) l (x ∷ [])) _ _ _ l.i _ _ _ (omega arith) (omega arith) (length_relation _) (over_where_fits _ _ _ (length_relation _) (omega arith) c.write_relation.ensures) l.invariant

pub shape_of-buf : goal.shape_of-buf
shape_of-buf c = c.loop-i.invariant.same_long

pub returns : goal.returns
returns c =
    let a = c.args in
    let l = c.loop-i in
    let e : l.i ≡ length a.relations.now = omega arith in
    l.invariant.written ∙ rw (e, take-length a.relations.now)
