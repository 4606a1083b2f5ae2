-- What is answered for a sketch, from what the edit of its image answered: a law for each way out of the code. Assumes nothing.
use mathlib.Core.Path.{◌≡◌, refl, sym, ap, ◌∙◌, subst}
use mathlib.Core.List.{List}
use Prim.Native.Nat.{ℕ, ◌≤◌}
use native.Mathlib.Omega.{arith}
use lib.ListN.{length, take}
use lib.Seq.{take_at}
use borrow.Author.Tests.{ne_eqb}
use Rattle.big_endian.specs.Fields.{over}
use Rattle.geom.specs.declared.Vec2.{Vec2}
use Rattle.sketch.specs.declared.Sketch.{Sketch}
use Rattle.sketch.specs.Lists.{ite}
use Rattle.sketch.specs.Drawing.{Drawing, view, limits}
use Rattle.sketch.specs.Facts.{Valid}
use Rattle.sketch.specs.Valid.{sketch_fault}
use Rattle.sketch.proofs.Sketches.{sketch_valid}
use Rattle.image.specs.Image as I
use Rattle.image.specs.Encode.{encode}
use Rattle.image.proofs.RoundTrips.{result_accepted}
use Rattle.sketch_image.specs.SketchImage.{ImageRead, write_fault, ReadAnswer}
use Rattle.sketch_image.proofs.Written.{write_fault_lem}
use Rattle.message.specs.declared.Operation.{Operation}
use Rattle.edit_plan.specs.declared.Removed.{Removed}
use Rattle.edit_plan.specs.Edited.{Edited}
use Rattle.edit_plan.specs.Outcome.{Outcome, refused, accepted, guard}
use Rattle.edit_plan.specs.Steps.{nothing}
use Rattle.edit_plan.specs.Suited.{outcome_of, report_of}
use Rattle.std.specs.Prelude.{Result, Ok, Err}
use Rattle.refusal.specs.declared.Refusal.{Refusal}
use Rattle.refusal.specs.Refusals.{number}
use Rattle.refusal.proofs.Numbers.{number_above_0}
use Rattle.extend.specs.Answers.{ImageAnswer, answer_of}
use Rattle.modify.specs.Answers.{edited_of}
use Rattle.extend.specs.ImageExtend.{OutcomeWritten}
use Rattle.extend.proofs.Places.{Placeless, placeless_below, without_place, place_none}
use Rattle.modify.specs.Edits.{edit_of, edit_place, edit_sketch, EditAnswer}
use Rattle.modify.specs.ImageEdits.{edit_image, EditWritten}
use Rattle.modify.proofs.ImageFaults.{sketch_fault_low}
use Rattle.modify.proofs.Numbered.{edit_numbered}
use Rattle.modify.proofs.WholeOutcomes.{good_edit, whole_outcome, size_fits}

module _ (op : Operation) (s : Sketch) (t : ℕ) (p : Vec2) where
  -- an outcome that is refused, with its place
  answered_refused :
      {r : Edited} {n : ℕ} → edit_sketch op s t p ≡ refused n → (n ≡ 0 → ⊥) → r.sketch ≡ s → r.refusal ≡ n → r.removed ≡ nothing → r.place ≡ edit_place op (view s) t p n → EditAnswer op s t p r
  answered_refused {r} {n} o z kept is none place =
      record {
        outcome = rw is (ap (λ b. ite b (accepted (view r.sketch) r.removed) (refused n)) (ne_eqb n 0 z)) ∙ sym o;
        report = none ∙ sym (ap report_of o);
        kept = λ h. kept;
        valid = λ h. absurd (z (sym is ∙ h));
        place = place ∙ ap (edit_place op (view s) t p) (sym is);
      }

  -- a sketch that no image gives
  pub unwritten : (why : Refusal) {room : ℕ} → number why ≡ write_fault s room → room ≡ I.max_image_size → EditAnswer op s t p (edited_of s (Err why))
  unfolding guard
  unwritten why {room} e long =
      let n : ℕ = number why in
      let z : n ≡ 0 → ⊥ = λ h. omega (arith, number_above_0 why) in
      let f : n ≡ sketch_fault s = e ∙ write_fault_lem s room long in
      let low = sketch_fault_low s in
      let none : Placeless n = placeless_below (omega (arith, low, f)) in
      answered_refused (rw (← f, ne_eqb n 0 z)) z refl refl refl (without_place why none ∙ place_none (view s) _ none)

  -- ---- from its image

  module _ (v : sketch_fault s ≡ 0) (image : List ℕ) (read : (I.image_fault image ≡ 0) × (I.drawing_of image ≡ view s)) where
    sketch_is : edit_sketch op s t p ≡ edit_of op limits (view s) t p
    unfolding guard
    sketch_is = rw v

    valid : Valid limits (I.drawing_of image)
    valid = subst (Valid limits) (sym read.1) (sketch_valid s v).1

    module _ {before after : List ℕ} {x : ImageAnswer} (w : EditWritten op image t p before after x) (long : length before ≡ I.max_image_size) where
      room : I.max_image_size ≤ length before
      room = omega (arith, long)

      image_is : edit_image op image t p ≡ edit_of op limits (view s) t p
      image_is = good_edit op image t p w read.0 valid ∙ ap (λ (d : Drawing). edit_of op limits d t p) read.1

      written : (o : Outcome Drawing Removed) → edit_of op limits (view s) t p ≡ o → OutcomeWritten o before after x
      written o e =
          subst (λ (y : Outcome Drawing Removed). OutcomeWritten y before after x) (ap (λ (d : Drawing). edit_of op limits d t p) read.1 ∙ e)
          (whole_outcome op image t p w read.0 valid room)

      pub answer_fits : x.size ≤ length before
      answer_fits = size_fits op image t p w read.0 valid room

      pub image_refused : (why : Refusal) → x ≡ answer_of (Err why) → EditAnswer op s t p (edited_of s (Err why))
      image_refused why same = go (edit_of op limits (view s) t p) refl
        where
          go : (o : Outcome Drawing Removed) → edit_of op limits (view s) t p ≡ o → EditAnswer op s t p (edited_of s (Err why))
          go (accepted d q) e = absurd (omega (arith, number_above_0 why, sym (ap (λ (y : ImageAnswer). y.refusal) same) ∙ (written (accepted d q) e).refusal))
          go (refused n) e =
              let f : number why ≡ n = sym (ap (λ (y : ImageAnswer). y.refusal) same) ∙ (written (refused n) e).refusal in
              answered_refused (sketch_is ∙ e) (λ h. omega (arith, number_above_0 why)) refl f refl
              (sym (ap (λ (y : ImageAnswer). y.place) same) ∙ w.place ∙ ap (edit_place op (I.drawing_of image) t p) (written (refused n) e).refusal ∙ ap (λ (d : Drawing). edit_place op d t p n) read.1)

      module _ (z : x.refusal ≡ 0) {a : ImageRead} (got : ReadAnswer (take x.size after) a) where
        back : (d : Drawing) (q : Removed) → edit_of op limits (view s) t p ≡ accepted d q → (a.refusal ≡ 0) × (view a.sketch ≡ d)
        unfolding over
        back d q e =
            let u = written (accepted d q) e in
            let front : take x.size after ≡ encode d = ap (take x.size) u.bytes ∙ take_at (encode d) _ x.size (sym u.size) in
            result_accepted a.refusal (view a.sketch) d (got.result_is ∙ ap I.parse front ∙ (w.sound d q (image_is ∙ e)).1)

        made : {X : Type 0} → ((d : Drawing) (q : Removed) → edit_of op limits (view s) t p ≡ accepted d q → X) → X
        made {X} f = go (edit_of op limits (view s) t p) refl
          where
            go : (o : Outcome Drawing Removed) → edit_of op limits (view s) t p ≡ o → X
            go (refused n) e = absurd (edit_numbered op (view s) t p (e ∙ ap refused (sym (written (refused n) e).refusal ∙ z)))
            go (accepted d q) e = f d q e

        -- a new image is read
        pub image_read : a.refusal ≡ 0
        image_read = made (λ d q e. (back d q e).0)

        pub image_accepted : {r : Edited} → r.sketch ≡ a.sketch → r.refusal ≡ 0 → r.place ≡ 0 → r.removed ≡ x.removed → EditAnswer op s t p r
        image_accepted {r} same none place report = made (λ d q e.
            let u = written (accepted d q) e in
            let o : outcome_of r ≡ edit_sketch op s t p = rw (none, same, (back d q e).1, report, u.removed) (sym (sketch_is ∙ e)) in
            record {
              outcome = o;
              report = report ∙ u.removed ∙ sym (ap report_of (sketch_is ∙ e));
              kept = λ h. absurd (h none);
              valid = λ h. ap sketch_fault same ∙ got.sound;
              place = place ∙ place_none (view s) _ (placeless_below (omega (arith, none)));
            })
