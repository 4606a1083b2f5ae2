-- Every new image fits into a buffer for the largest one, so that what is answered there is the outcome itself. Assumes nothing.
use mathlib.Core.Path.{◌≡◌, refl, ◌∙◌, subst}
use mathlib.Core.Bool.{Bool}
use mathlib.Core.List.{List}
use Prim.Native.Nat.{ℕ, ◌≤◌}
use native.Mathlib.Omega.{arith}
use lib.ListN.{length}
use borrow.Author.Tests.{le-leb}
use Rattle.geom.specs.declared.Vec2.{Vec2}
use Rattle.sketch.specs.Drawing.{Drawing, limits}
use Rattle.sketch.specs.Facts.{Valid}
use Rattle.image.specs.Image as I
use Rattle.image.specs.Encode.{encode}
use Rattle.image.proofs.Sizes.{image_size}
use Rattle.message.specs.declared.Operation.{Operation}
use Rattle.relations.specs.Met.{all_met}
use Rattle.edit_plan.specs.declared.Removed.{Removed}
use Rattle.edit_plan.specs.Outcome.{Outcome, refused, accepted, guard}
use Rattle.extend.specs.Answers.{ImageAnswer}
use Rattle.extend.specs.ImageExtend.{if_fits, OutcomeWritten}
use Rattle.modify.specs.Edits.{edit_of}
use Rattle.modify.specs.ImageEdits.{edit_image, EditWritten}
use Rattle.modify.proofs.Planned.{edit_valid}

module _ (op : Operation) (s : List ℕ) (t : ℕ) (p : Vec2) {before after : List ℕ} {x : ImageAnswer} (w : EditWritten op s t p before after x)
    (e : I.image_fault s ≡ 0) (v : Valid limits (I.drawing_of s))
  where
    pub good_edit : edit_image op s t p ≡ edit_of op limits (I.drawing_of s) t p
    unfolding guard
    good_edit = rw e

    pub fits_largest : (d : Drawing) (q : Removed) → edit_of op limits (I.drawing_of s) t p ≡ accepted d q → length (encode d) ≤ I.max_image_size
    fits_largest d q o = omega (arith, (w.sound d q (good_edit ∙ o)).0, image_size d (edit_valid all_met op limits (I.drawing_of s) t p d q v o))

    module _ (room : I.max_image_size ≤ length before) where
      pub whole_outcome : OutcomeWritten (edit_of op limits (I.drawing_of s) t p) before after x
      unfolding guard
      whole_outcome = go (edit_of op limits (I.drawing_of s) t p) refl (subst (λ (y : Outcome Drawing Removed). OutcomeWritten (if_fits (length before) y) before after x) good_edit w.written)
        where
          go : (o : Outcome Drawing Removed) → edit_of op limits (I.drawing_of s) t p ≡ o → OutcomeWritten (if_fits (length before) o) before after x → OutcomeWritten o before after x
          go (refused n) h u = u
          go (accepted d q) h u = subst (λ (b : Bool). OutcomeWritten (guard b 25 (accepted d q)) before after x) (le-leb (length (encode d)) (length before) (omega (arith, fits_largest d q h))) u

      pub size_fits : x.size ≤ length before
      size_fits = go (edit_of op limits (I.drawing_of s) t p) refl whole_outcome
        where
          go : (o : Outcome Drawing Removed) → edit_of op limits (I.drawing_of s) t p ≡ o → OutcomeWritten o before after x → x.size ≤ length before
          go (refused n) h u = omega (arith, u.size)
          go (accepted d q) h u = omega (arith, u.size, fits_largest d q h)
