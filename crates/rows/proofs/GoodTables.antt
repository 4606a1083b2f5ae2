-- A good image's tables: their rows are the image's, and the values that are read of them are its drawing's.
use mathlib.Core.Path.{◌≡◌, ap, ◌∙◌}
use mathlib.Core.List.{List}
use Prim.Native.Nat.{ℕ}
use native.Mathlib.Omega.{arith}
use lib.ListN.{length, length-map}
use lib.Dec.{lit<}
use Rattle.image.specs.Records.{point_size, curve_size, relation_size, point_of, curve_of, relation_of}
use Rattle.image.specs.Image.{header_size, point_count, curve_count, relation_count, curves_from, relations_from, point_rows, curve_rows, relation_rows, drawing_of, image_fault}
use Rattle.image.proofs.Tables.{length_rows}
use Rattle.image.proofs.Headers.{Head}
use Rattle.image.proofs.RoundTrips.{image_kept}
use Rattle.image.proofs.GoodImages.{points_read, curves_read, relations_read}
use Rattle.rows.specs.Rows.{point_table, curve_table, relation_table, rows_in, points_in, curves_in, relations_in}
use Rattle.rows.proofs.Rows.{rows_of_part}

-- ---- the rows, by the header alone

module _ (s : List ℕ) (h : Head s) where
  pub point_rows_in : rows_in point_size (point_table s) ≡ point_rows s
  point_rows_in = rows_of_part point_size (point_count s) s header_size (lit< tt) (omega (arith, h.size))

  pub curve_rows_in : rows_in curve_size (curve_table s) ≡ curve_rows s
  curve_rows_in = rows_of_part curve_size (curve_count s) s (curves_from (point_count s)) (lit< tt) (omega (arith, h.size))

  pub relation_rows_in : rows_in relation_size (relation_table s) ≡ relation_rows s
  relation_rows_in = rows_of_part relation_size (relation_count s) s (relations_from (point_count s) (curve_count s)) (lit< tt) (omega (arith, h.size))

-- ---- the values, of a good image

module _ (s : List ℕ) (e : image_fault s ≡ 0) where
  head : Head s
  head = (image_kept s e).head

  pub points_in_lem : points_in (point_table s) ≡ (drawing_of s).points
  points_in_lem = rw (point_rows_in s head) (points_read s e)

  pub curves_in_lem : curves_in (curve_table s) ≡ (drawing_of s).curves
  curves_in_lem = rw (curve_rows_in s head) (curves_read s e)

  pub relations_in_lem : relations_in (relation_table s) ≡ (drawing_of s).relations
  relations_in_lem = rw (relation_rows_in s head) (relations_read s e)

  -- so many there are
  pub points_count : length (points_in (point_table s)) ≡ point_count s
  points_count = ap length points_in_lem ∙ length-map (point_rows s) point_of ∙ length_rows point_size (point_count s) s _

  pub curves_count : length (curves_in (curve_table s)) ≡ curve_count s
  curves_count = ap length curves_in_lem ∙ length-map (curve_rows s) curve_of ∙ length_rows curve_size (curve_count s) s _

  pub relations_count : length (relations_in (relation_table s)) ≡ relation_count s
  relations_count = ap length relations_in_lem ∙ length-map (relation_rows s) relation_of ∙ length_rows relation_size (relation_count s) s _
