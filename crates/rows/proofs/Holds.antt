-- Tables that hold points or curves: a record by its place, and what a look-up by id finds.
use mathlib.Core.Path.{◌≡◌, refl, sym, ap, ◌∙◌}
use mathlib.Core.Bool.{false}
use mathlib.Core.List.{List, [], ◌∷◌, map}
use mathlib.Core.Option.{some, none}
use Rattle.std.specs.Prelude.{Some, None}
use Prim.Native.Nat.{ℕ, ◌/◌, ◌≤◌, ◌<◌}
use native.Mathlib.Omega.{arith}
use lib.ListN.{length, get_or, length-map}
use Rattle.sketch.specs.declared.Point.{Point}
use Rattle.sketch.specs.declared.Curve.{Curve}
use Rattle.sketch.specs.Blanks.{no_point, no_curve}
use Rattle.sketch.specs.Lookup.{among, Ascends, Found, FoundAt}
use Rattle.sketch.specs.Drawing.{point_ids, curve_ids, curve_in}
use Rattle.sketch.proofs.Bisection.{found_here}
use Rattle.sketch.proofs.Facts.{get_or_mapped, curve_at_lem, curve_nowhere}
use Rattle.image.specs.Records.{point_size, curve_size}
use Rattle.image.specs.Image.{row_id, drawing_of, image_fault}
use Rattle.image.specs.Decode.{read_point, read_curve}
use Rattle.image.proofs.RoundTrips.{image_kept}
use Rattle.rows.specs.Rows.{point_table, curve_table, rows_in, row_in, ids_in, HoldsPoints, HoldsCurves}
use Rattle.rows.proofs.Rows.{length_rows_in, length_ids_in}
use Rattle.rows.proofs.GoodTables.{point_rows_in, curve_rows_in, points_in_lem, curves_in_lem}

-- ---- a good image's tables

module _ (s : List ℕ) (e : image_fault s ≡ 0) where
  pub holds_points : HoldsPoints (drawing_of s).points (point_table s)
  holds_points = record { are = points_in_lem s e; rise = rw (point_rows_in s (image_kept s e).head) (image_kept s e).points_rise }

  pub holds_curves : HoldsCurves (drawing_of s).curves (curve_table s)
  holds_curves = record { are = curves_in_lem s e; rise = rw (curve_rows_in s (image_kept s e).head) (image_kept s e).curves_rise }

-- ---- points

points_ids : (rows : List (List ℕ)) → map row_id rows ≡ point_ids (map read_point rows)
points_ids [] = refl
points_ids (r ∷ rows) = ap (λ (l : List ℕ). row_id r ∷ l) (points_ids rows)

module _ {ps : List Point} {points : List ℕ} (w : HoldsPoints ps points) where
  pub held_points : length ps ≡ length points / point_size
  held_points = ap length (sym w.are) ∙ length-map (rows_in point_size points) read_point ∙ length_rows_in point_size points

  pub held_point_ids : ids_in point_size points ≡ point_ids ps
  held_point_ids = points_ids (rows_in point_size points) ∙ ap point_ids w.are

  pub point_ids_rise : Ascends (point_ids ps)
  point_ids_rise = rw (← held_point_ids) w.rise

  pub held_point : (k : ℕ) → k < length points / point_size → read_point (row_in point_size points k) ≡ get_or ps k no_point
  held_point k q =
      sym (get_or_mapped read_point no_point [] (rows_in point_size points) k (rw (length_rows_in point_size points) q)) ∙ ap (λ (l : List Point). get_or l k no_point) w.are

  -- a place that was found is that of the point, and past the last there is none
  module _ {id k : ℕ} (f : Found id (ids_in point_size points) k) where
    pub point_here : k < length points / point_size → (get_or ps k no_point).id ≡ id
    point_here q =
        let n : k < length ps = rw held_points q in
        sym (get_or_mapped (λ (p : Point). p.id) 0 no_point ps k n) ∙ ap (λ (l : List ℕ). get_or l k 0) (sym held_point_ids) ∙ f.here (rw (length_ids_in point_size points) q)

    pub point_nowhere : length points / point_size ≤ k → among id (point_ids ps) ≡ false
    point_nowhere q = rw (← held_point_ids) (f.nowhere w.rise (omega (arith, f.within, length_ids_in point_size points)))

  -- the same of a look-up's answer
  pub point_found : (id k : ℕ) → FoundAt id (ids_in point_size points) (Some k) → (k < length ps) × ((get_or ps k no_point).id ≡ id)
  point_found id k f =
      let q : k < length points / point_size = rw (← length_ids_in point_size points) f.0 in
      (rw held_points q, point_here (found_here id (ids_in point_size points) k f.0 f.1) q)

  pub point_not_found : (id : ℕ) → FoundAt id (ids_in point_size points) None → among id (point_ids ps) ≡ false
  point_not_found id f = rw (← held_point_ids) (f w.rise)

-- ---- curves

curves_ids : (rows : List (List ℕ)) → map row_id rows ≡ curve_ids (map read_curve rows)
curves_ids [] = refl
curves_ids (r ∷ rows) = ap (λ (l : List ℕ). row_id r ∷ l) (curves_ids rows)

module _ {cs : List Curve} {curves : List ℕ} (w : HoldsCurves cs curves) where
  pub held_curves : length cs ≡ length curves / curve_size
  held_curves = ap length (sym w.are) ∙ length-map (rows_in curve_size curves) read_curve ∙ length_rows_in curve_size curves

  pub held_curve_ids : ids_in curve_size curves ≡ curve_ids cs
  held_curve_ids = curves_ids (rows_in curve_size curves) ∙ ap curve_ids w.are

  pub curve_ids_rise : Ascends (curve_ids cs)
  curve_ids_rise = rw (← held_curve_ids) w.rise

  pub held_curve : (k : ℕ) → k < length curves / curve_size → read_curve (row_in curve_size curves k) ≡ get_or cs k no_curve
  held_curve k q =
      sym (get_or_mapped read_curve no_curve [] (rows_in curve_size curves) k (rw (length_rows_in curve_size curves) q)) ∙ ap (λ (l : List Curve). get_or l k no_curve) w.are

  module _ {id k : ℕ} (f : Found id (ids_in curve_size curves) k) where
    pub curve_here : k < length curves / curve_size → curve_in cs id ≡ some (get_or cs k no_curve)
    curve_here q =
        let n : k < length cs = rw held_curves q in
        let e : (get_or cs k no_curve).id ≡ id =
        sym (get_or_mapped (λ (c : Curve). c.id) 0 no_curve cs k n) ∙ ap (λ (l : List ℕ). get_or l k 0) (sym held_curve_ids) ∙ f.here (rw (length_ids_in curve_size curves) q) in
        ap (curve_in cs) (sym e) ∙ curve_at_lem no_curve cs k curve_ids_rise n

    pub curve_missing : length curves / curve_size ≤ k → curve_in cs id ≡ none
    curve_missing q = curve_nowhere id cs (rw (← held_curve_ids) (f.nowhere w.rise (omega (arith, f.within, length_ids_in curve_size curves))))

  pub curve_found : (id k : ℕ) → FoundAt id (ids_in curve_size curves) (Some k) → (k < length cs) × (curve_in cs id ≡ some (get_or cs k no_curve))
  curve_found id k f =
      let q : k < length curves / curve_size = rw (← length_ids_in curve_size curves) f.0 in
      (rw held_curves q, curve_here (found_here id (ids_in curve_size curves) k f.0 f.1) q)

  pub curve_not_found : (id : ℕ) → FoundAt id (ids_in curve_size curves) None → curve_in cs id ≡ none
  curve_not_found id f = curve_nowhere id cs (rw (← held_curve_ids) (f w.rise))
