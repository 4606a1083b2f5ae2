-- The contracts of private functions, which nothing outside needs: tables as lists of rows, whatever their bytes.
use Rattle.std.specs.Prelude.{ℕ, suc, ◌≤◌, ◌≡◌, Bool, ◌||◌, List, [], ◌∷◌, ◌++◌, map, length, take, drop, set, get_or, eqb, IfSome}
use Rattle.big_endian.specs.Fields.{field}
use Rattle.sketch.specs.Lists.{ite, keep, concat_map}
use Rattle.sketch.specs.Lookup.{among}
use Rattle.sketch.specs.Drawing.{Drawing, id_size, limits}
use Rattle.sketch.specs.Blanks.{no_point}
use Rattle.image.specs.Records.{point_size, curve_size, relation_size, first_id_at, second_id_at}
use Rattle.image.specs.Image.{row_id}
use Rattle.image.specs.Decode.{read_relation}
use Rattle.image.specs.Encode.{header, encode_point, encode_curve, encode_relation}
use Rattle.rows.specs.Rows.{rows_in, points_in, curves_in, relations_in}
use Rattle.edit_plan.specs.declared.Extent.{Extent}
use Rattle.edit_plan.specs.declared.Plan.{Plan}
use Rattle.edit_plan.specs.declared.Removed.{Removed}
use Rattle.edit_plan.specs.declared.Change.{Change}
use Rattle.edit_plan.specs.Steps.{nothing}
use Rattle.edit_plan.specs.Changes.{is_whole, points_new, curves_new, relations_new, staying, left_of}
use Rattle.geom.specs.declared.Vec2.{Vec2}
use Rattle.sketch.specs.declared.Point.{Point}
use Rattle.edit_plan.specs.declared.Pin.{Pin}
use Rattle.apply.specs.Moved.{pinned_by, moved_to, move_refusal}
use Rattle.apply.specs.Applied.{plan_extent, plan_orphans, plan_change, plan_refusal, removed_by, Answered}
use Rattle.apply.specs.Answers.{Answer}
use Rattle.apply.specs.declared.TableCounts.{TableCounts}

-- rows side by side
abbrev pub row_bytes : List (List ℕ) → List ℕ
row_bytes rows = concat_map (λ r. r) rows

-- the drawing that tables are read as
abbrev pub drawing_read : ℕ → List ℕ → List ℕ → List ℕ → Drawing
drawing_read next points curves relations =
    record { next = next; points = points_in points; curves = curves_in curves; relations = relations_in relations }

-- ---- what is left of a table

unfoldable pub staying_rows : List ℕ → List ℕ → List (List ℕ)
staying_rows os points = keep (λ r. staying os (row_id r)) (rows_in point_size points)

-- whether a relation's ids name the curve, or a point that goes
abbrev pub concerned : Extent → List ℕ → List ℕ → Bool
concerned e os r =
    let a = field r first_id_at id_size in
    let b = field r second_id_at id_size in
    ((eqb a e.id || eqb b e.id) || among a os) || among b os

-- what is left of a relation's row: one that is not concerned stays byte for byte
unfoldable pub left_row : Extent → List ℕ → List ℕ → List (List ℕ)
left_row e os r = ite (concerned e os r) (map encode_relation (left_of e os (read_relation r))) (r ∷ [])

unfoldable pub left_rows : Extent → List ℕ → List ℕ → List (List ℕ)
left_rows e os relations = concat_map (left_row e os) (rows_in relation_size relations)

-- ---- tables with a change

unfoldable pub points_after : List ℕ → Change → List ℕ → List (List ℕ)
points_after os h points = staying_rows os points ++ map encode_point (points_new h)

unfoldable pub curves_after : ℕ → Change → List ℕ → List (List ℕ)
curves_after k h curves = set (rows_in curve_size curves) k (encode_curve h.kept) ++ map encode_curve (curves_new h)

unfoldable pub curves_without : ℕ → List ℕ → List (List ℕ)
curves_without k curves = take k (rows_in curve_size curves) ++ drop (suc k) (rows_in curve_size curves)

unfoldable pub relations_after : Extent → List ℕ → Change → List ℕ → List (List ℕ)
relations_after e os h relations = left_rows e os relations ++ map encode_relation (relations_new h)

abbrev pub EightSlots : Change → Type 0
EightSlots h = (length h.kept.slots ≡ 8) × IfSome h.added (λ c. length c.slots ≡ 8)

-- the image of three tables
unfoldable pub rows_image : ℕ → List (List ℕ) → List (List ℕ) → List (List ℕ) → List ℕ
rows_image next ps cs rs = header next (length ps) (length cs) (length rs) ++ (row_bytes ps ++ (row_bytes cs ++ row_bytes rs))

-- numbers of points, curves and relations within the limits
pub record CountsWithin (np nc nr : ℕ) : Type 0 where
  pub points : np ≤ limits.points
  pub curves : nc ≤ limits.curves
  pub relations : nr ≤ limits.relations

abbrev pub TablesWithin : List ℕ → List ℕ → List ℕ → Type 0
TablesWithin points curves relations =
    CountsWithin (length (rows_in point_size points)) (length (rows_in curve_size curves)) (length (rows_in relation_size relations))

abbrev pub mk_table_counts : ℕ → ℕ → ℕ → TableCounts
mk_table_counts np nc nr = record { points = np; curves = nc; relations = nr }

abbrev pub refused_by : ℕ → Answer
refused_by n = record { refusal = n; removed = nothing; size = 0 }

abbrev pub written_as : Removed → ℕ → Answer
written_as gone size = record { refusal = 0; removed = gone; size = size }

-- the image that a plan makes of tables
abbrev pub image_after : ℕ → List ℕ → List ℕ → List ℕ → ℕ → Plan → List ℕ
image_after next points curves relations k plan =
    let d = drawing_read next points curves relations in
    let e = plan_extent d k plan in
    let os = plan_orphans d k plan in
    let h = plan_change d k plan in
    ite (is_whole plan) (rows_image next (staying_rows os points) (curves_without k curves) (left_rows e os relations))
    (rows_image h.next (points_after os h points) (curves_after k h curves) (relations_after e os h relations))

abbrev pub RowsApplied : ℕ → List ℕ → List ℕ → List ℕ → ℕ → Plan → List ℕ → List ℕ → Answer → Type 0
RowsApplied next points curves relations k plan before after r =
    let d = drawing_read next points curves relations in
    Answered (plan_refusal d k plan) (image_after next points curves relations k plan) (removed_by d k plan) before after r

-- ---- a point moved

-- tables with the point at place k rewritten, and the relation that its pin adds
unfoldable pub points_with : ℕ → Point → List ℕ → List (List ℕ)
points_with k p points = set (rows_in point_size points) k (encode_point p)

unfoldable pub relations_with : Pin → ℕ → List ℕ → List (List ℕ)
relations_with w p relations = rows_in relation_size relations ++ map encode_relation (pinned_by w p)

abbrev pub image_moved : ℕ → List ℕ → List ℕ → List ℕ → ℕ → Point → Pin → List ℕ
image_moved next points curves relations k p w = rows_image next (points_with k p points) (rows_in curve_size curves) (relations_with w p.id relations)

abbrev pub RowsMoved : ℕ → List ℕ → List ℕ → List ℕ → ℕ → Vec2 → Pin → List ℕ → List ℕ → Answer → Type 0
RowsMoved next points curves relations k v w before after r =
    Answered (move_refusal (points_in points) (relations_in relations) k v w) (image_moved next points curves relations k (moved_to v (get_or (points_in points) k no_point)) w) nothing before after r
