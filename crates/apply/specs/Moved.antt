-- A point of an image moved, and pinned where it lies then: the refusal, and the drawing made at once. Definitions only.
use Rattle.std.specs.Prelude.{ℕ, ◌+◌, ◌≡◌, List, [], ◌∷◌, ◌++◌, length, set, get_or, leb, ltb, eqb}
use Rattle.geom.specs.declared.Vec2.{Vec2}
use Rattle.sketch.specs.declared.Point.{Point}
use Rattle.sketch.specs.declared.Relation.{Relation}
use Rattle.sketch.specs.declared.Relation.TheVariants.{Coincident, PointOnCurve}
use Rattle.sketch.specs.Lists.{ite, guard_number}
use Rattle.sketch.specs.Drawing.{Drawing, limits}
use Rattle.sketch.specs.Blanks.{no_point}
use Rattle.image.specs.Image.{drawing_of, image_fault}
use Rattle.image.specs.Encode.{encode}
use Rattle.edit_plan.specs.declared.Pin.{Pin}
use Rattle.edit_plan.specs.declared.Pin.TheVariants.{On, At}
use Rattle.edit_plan.specs.Tables.{ok_position}
use Rattle.edit_plan.specs.Steps.{nothing}
use Rattle.apply.specs.Answers.{Answer}
use Rattle.apply.specs.Applied.{Answered}

-- the relation that a pin of the point p adds, none where it is to the point itself
unfoldable pub pinned_by : Pin → ℕ → List Relation
pinned_by (On c) p = PointOnCurve p c ∷ []
pinned_by (At e) p = ite (eqb e p) [] (Coincident p e ∷ [])

abbrev pub moved_to : Vec2 → Point → Point
moved_to v p = record { id = p.id; fixed = p.fixed; x = v.x; y = v.y }

abbrev pub point_at_place : Drawing → ℕ → Point
point_at_place d k = get_or d.points k no_point

-- the point at place k is moved to v, and the pin's relation stands last
abbrev pub drawing_moved : Drawing → ℕ → Vec2 → Pin → Drawing
drawing_moved d k v w =
    record {
      next = d.next;
      points = set d.points k (moved_to v (point_at_place d k));
      curves = d.curves;
      relations = d.relations ++ pinned_by w (point_at_place d k).id;
    }

-- 8 where there is no such point, 24 where it would be out of range, 22 where there is no room for the relation
abbrev pub move_refusal : List Point → List Relation → ℕ → Vec2 → Pin → ℕ
move_refusal ps rs k v w =
    guard_number (ltb k (length ps)) 8
    (guard_number (ok_position v) 24
    (guard_number (leb (length rs + length (pinned_by w (get_or ps k no_point).id)) limits.relations) 22 0))

-- of a good image, every move of every point is refused so, and is answered so
abbrev pub MoveRefused : List ℕ → ℕ → Vec2 → Pin → ℕ → Type 0
MoveRefused s k v w r = image_fault s ≡ 0 → r ≡ move_refusal (drawing_of s).points (drawing_of s).relations k v w

abbrev pub MoveWritten : List ℕ → ℕ → Vec2 → Pin → List ℕ → List ℕ → Answer → Type 0
MoveWritten s k v w before after r =
    image_fault s ≡ 0
    → Answered (move_refusal (drawing_of s).points (drawing_of s).relations k v w) (encode (drawing_moved (drawing_of s) k v w)) nothing before after r
