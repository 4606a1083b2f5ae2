use Rattle.std.proofs.Common.{◌≡◌, List, [], ◌∷◌, map, length}
use mathlib.Core.List.{map-append}
use Rattle.sketch.specs.declared.RelationSlot.{RelationSlot}
use Rattle.image.specs.Records.{relation_size}
use Rattle.image.specs.Decode.{read_relation}
use Rattle.image.proofs.Tables.{Filled}
use Rattle.rows.specs.Rows.{rows_in}
use Rattle.sketch_image.proofs.reader.read_relations.Given as goal

abbrev pub invariant-loop-i : goal.invariant-loop-i
invariant-loop-i l = (length l.slots ≡ 256) × (length (rows_in relation_size l.relations) ≡ l.n) × Filled read_relation (λ (l : List RelationSlot). map (λ t. t.relation) l) (λ t. t.relation) (λ l x. map-append (λ t. t.relation) l (x ∷ [])) (rows_in relation_size l.relations) l.slots l.i
