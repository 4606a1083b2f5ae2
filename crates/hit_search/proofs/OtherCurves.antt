-- All curves of a table but one, from a place on. Assumes nothing.
use mathlib.Core.Path.{◌≡◌, sym}
use mathlib.Core.List.{List, [], ◌∷◌}
use Prim.Native.Nat.{ℕ, ◌+◌, ◌<◌}
use native.Mathlib.Numerals.{add-one}
use lib.ListN.{length, drop, get_or, length-map}
use Rattle.std.proofs.Math.Seq.{drop-cons}
use borrow.Author.Tests.{eq-eqb, ne_eqb}
use Rattle.sketch.specs.declared.Curve.{Curve}
use Rattle.sketch.specs.Blanks.{no_curve}
use Rattle.sketch.proofs.Facts.{get_or_mapped}
use Rattle.image.specs.Records.{curve_size}
use Rattle.image.specs.Decode.{read_curve}
use Rattle.rows.specs.Rows.{rows_in, row_in, curves_in}
use Rattle.edit_plan.specs.Tables.{others}

module _ (cs : List Curve) (i : ℕ) (h : i < length cs) (id : ℕ) where
  next : drop i cs ≡ get_or cs i no_curve ∷ drop (i + 1) cs
  next = rw add-one (drop-cons cs i no_curve h)

  pub others_past : id ≡ (get_or cs i no_curve).id → others id (drop i cs) ≡ others id (drop (i + 1) cs)
  others_past e = rw (next, eq-eqb id (get_or cs i no_curve).id e)

  pub others_on : (id ≡ (get_or cs i no_curve).id → ⊥) → others id (drop i cs) ≡ get_or cs i no_curve ∷ others id (drop (i + 1) cs)
  others_on e = rw (next, ne_eqb id (get_or cs i no_curve).id e)

-- ---- the curves of an image's table, whatever its bytes

module _ (curves : List ℕ) where
  pub curve_row : (i : ℕ) → i < length (curves_in curves) → read_curve (row_in curve_size curves i) ≡ get_or (curves_in curves) i no_curve
  curve_row i h = sym (get_or_mapped read_curve no_curve [] (rows_in curve_size curves) i (rw (← length-map (rows_in curve_size curves) read_curve) h))
