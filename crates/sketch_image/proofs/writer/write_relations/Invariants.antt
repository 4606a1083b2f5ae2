use Rattle.std.proofs.Common.{List, ◌∷◌, [], map}
use Rattle.image.specs.Encode.{encode_relation}
use Rattle.image.specs.Records.{relation_size}
use Rattle.sketch.specs.declared.RelationSlot.{RelationSlot}
use mathlib.Core.List.{map-append}
use Rattle.image.proofs.Tables.{Writing}
use Rattle.sketch_image.proofs.writer.write_relations.Given as goal

abbrev pub invariant-loop-i : goal.invariant-loop-i
invariant-loop-i l = Writing encode_relation relation_size (λ (l : List RelationSlot). map (λ t. t.relation) l) (λ t. t.relation) (λ l x. map-append (λ t. t.relation) l (x ∷ [])) l.initial.buf l.from l.relations l.i l.buf
