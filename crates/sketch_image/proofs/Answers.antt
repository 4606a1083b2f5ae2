-- The reader's answers: the sketch made of a good image shows its drawing and passes the test, and each answer is what the bytes are read as.
use mathlib.Core.Path.{◌≡◌, refl, sym, ap, ◌∙◌}
use mathlib.Core.Bool.{true, ◌&&◌}
use mathlib.Core.List.{List, map}
use Prim.Native.Nat.{ℕ, zero, suc}
use native.Mathlib.Omega.{arith}
use lib.ListN.{length, take}
use lib.Dec.{leb}
use borrow.Author.Tests.{le-leb}
use Rattle.big_endian.specs.Laws.{Bytes}
use Rattle.sketch.specs.Drawing.{view, limits}
use Rattle.sketch.specs.declared.Sketch.{Sketch}
use Rattle.sketch.specs.Valid.{fault_of, sketch_fault}
use Rattle.sketch.proofs.Facts.{none_guard_number}
use Rattle.image.specs.Image.{next_at, point_count, curve_count, relation_count, drawing_of, image_fault, result_of, parse}
use Rattle.image.proofs.RoundTrips.{image_kept, result_refused, result_number, result_drawing}
use Rattle.image.proofs.GoodImages.{drawing_good}
use Rattle.rows.specs.Rows.{point_table, curve_table, relation_table, points_in, curves_in, relations_in}
use Rattle.rows.proofs.GoodTables.{points_in_lem, curves_in_lem, relations_in_lem, points_count, curves_count, relations_count}
use Rattle.std.specs.Prelude.{Ok, Err}
use Rattle.refusal.specs.declared.Refusal.{Refusal}
use Rattle.refusal.specs.Refusals.{number}
use Rattle.refusal.proofs.Numbers.{number_above_0}
use Rattle.sketch.specs.Lists.{guard_number}
use Rattle.sketch_image.specs.SketchImage.{ImageRead, read_of, outcome, empty_drawing, drawing_in, ReadAnswer}

-- ---- the sketch of a good image

module _ (s : List ℕ) (e : image_fault s ≡ 0) where
  -- a sketch with the header's numbers and the tables' values
  pub sketch_decoded : Bytes s → (sk : Sketch) → sk.next ≡ next_at s
      → sk.npoints ≡ length (points_in (point_table s)) → sk.ncurves ≡ length (curves_in (curve_table s)) → sk.nrelations ≡ length (relations_in (relation_table s))
      → take sk.npoints sk.points ≡ points_in (point_table s) → take sk.ncurves sk.curves ≡ curves_in (curve_table s)
      → map (λ t. t.relation) (take sk.nrelations sk.relations) ≡ relations_in (relation_table s)
      → (view sk ≡ drawing_of s) × (sketch_fault sk ≡ 0)
  sketch_decoded b sk n p q r x y z =
      let h = (image_kept s e).head in
      let v : view sk ≡ drawing_of s = rw (x, y, z, n, points_in_lem s e, curves_in_lem s e, relations_in_lem s e) in
      let few : (leb sk.npoints 512 && leb sk.ncurves 128 && leb sk.nrelations 256) ≡ true =
      rw (p, q, r, points_count s e, curves_count s e, relations_count s e, le-leb (point_count s) 512 h.few_points, le-leb (curve_count s) 128 h.few_curves, le-leb (relation_count s) 256 h.few_relations) in
      (v, none_guard_number (leb sk.npoints 512 && leb sk.ncurves 128 && leb sk.nrelations 256) 3 (fault_of limits (view sk)) few (ap (fault_of limits) v ∙ drawing_good s e b))

-- ---- the reader's two answers

pub refused_by_lem : (s : List ℕ) {n : ℕ} → n ≡ image_fault s → (n ≡ 0 → ⊥) → (r : ImageRead) → r.refusal ≡ n → outcome r ≡ parse s
unfolding result_of
refused_by_lem s {n} e h r f = rw (f, ← e) (same n h)
  where
    same : (n : ℕ) → (n ≡ 0 → ⊥) → result_of n (view r.sketch) ≡ result_of n (drawing_of s)
    same zero h = absurd (h refl)
    same (suc n) h = refl

-- ---- and the drawing in each

pub drawing_refused : (s : List ℕ) (r : ImageRead) → outcome r ≡ parse s → (r.refusal ≡ 0 → ⊥) → view r.sketch ≡ empty_drawing → view r.sketch ≡ drawing_in (parse s)
drawing_refused s r o z v = v ∙ sym (ap drawing_in (sym o ∙ result_refused r.refusal (view r.sketch) z))

pub drawing_accepted : (s : List ℕ) (r : ImageRead) → outcome r ≡ parse s → r.refusal ≡ 0 → view r.sketch ≡ drawing_in (parse s)
unfolding result_of
drawing_accepted s r o z = sym (ap drawing_in (sym o ∙ ap (λ (n : ℕ). result_of n (view r.sketch)) z))

pub accepted_as : (s : List ℕ) {n : ℕ} → n ≡ image_fault s → n ≡ 0 → (r : ImageRead) → r.refusal ≡ 0 → view r.sketch ≡ drawing_of s → outcome r ≡ parse s
accepted_as s e h r f v = rw (f, v, ← e, h)

pub read_refused : (s : List ℕ) (r : Refusal) → number r ≡ image_fault s → ReadAnswer s (read_of (Err r))
unfolding guard_number
read_refused s r e =
    let n = number_above_0 r in
    let o = refused_by_lem s e (λ z. omega arith) (read_of (Err r)) refl in
    record { result_is = o; drawing_is = drawing_refused s (read_of (Err r)) o (λ z. omega arith) refl; sound = refl }

pub read_accepted : (s : List ℕ) (sk : Sketch) → 0 ≡ image_fault s → (view sk ≡ drawing_of s) × (sketch_fault sk ≡ 0) → ReadAnswer s (read_of (Ok sk))
read_accepted s sk e h =
    let o = accepted_as s e refl (read_of (Ok sk)) refl h.0 in
    record { result_is = o; drawing_is = drawing_accepted s (read_of (Ok sk)) o refl; sound = h.1 }

-- ---- a reader's answer that stands for what the bytes are read as

pub read_number : (r : ImageRead) (s : List ℕ) → outcome r ≡ parse s → r.refusal ≡ image_fault s
read_number r s e = result_number r.refusal (image_fault s) (view r.sketch) (drawing_of s) e

pub read_drawing : (r : ImageRead) (s : List ℕ) → outcome r ≡ parse s → r.refusal ≡ 0 → view r.sketch ≡ drawing_of s
read_drawing r s e z = result_drawing r.refusal (image_fault s) (view r.sketch) (drawing_of s) e z
