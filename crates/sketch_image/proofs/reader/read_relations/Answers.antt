use Rattle.std.proofs.Common.{refl, sym, ◌∙◌, List, [], ◌∷◌, map, ◌<◌, length, length-set, arith}
use mathlib.Core.List.{map-append}
use lib.ListN.{length-map}
use Rattle.sketch.specs.declared.RelationSlot.{RelationSlot}
use Rattle.image.specs.Records.{relation_size}
use Rattle.image.specs.Decode.{read_relation}
use Rattle.image.proofs.Tables.{filling, filled}
use Rattle.rows.specs.Rows.{rows_in}
use Rattle.sketch_image.proofs.reader.read_relations.Goals as goal

pub loop-i-init : goal.loop-i-init
loop-i-init c = let a = c.args in (refl, sym (length-map (rows_in relation_size a.relations.now) read_relation) ∙ sym c.requires.1, refl)

pub loop-i-preserved : goal.loop-i-preserved
loop-i-preserved c = let l = c.loop-i in let a = c.args in let h : l.i < length l.slots = omega arith in (simp length-set l.invariant.0, l.invariant.1, filling read_relation (λ (l : List RelationSlot). map (λ t. t.relation) l) (λ t. t.relation) (λ l x. map-append (λ t. t.relation) l (x ∷ [])) (rows_in relation_size a.relations.now) l.slots l.i _ (omega arith) h c.relation_at.ensures l.invariant.2)

pub returns : goal.returns
returns c = let l = c.loop-i in let a = c.args in filled read_relation (λ (l : List RelationSlot). map (λ t. t.relation) l) (λ t. t.relation) (λ l x. map-append (λ t. t.relation) l (x ∷ [])) (rows_in relation_size a.relations.now) l.slots a.n l.i (omega arith) (omega arith) l.invariant.2
