-- What is answered of an image, from what applying a plan answered. Assumes nothing.
use mathlib.Core.Path.{◌≡◌, refl, sym, ap, ◌∙◌}
use mathlib.Core.Bool.{Bool, true, false}
use mathlib.Core.List.{List}
use Prim.Native.Nat.{ℕ}
use native.Mathlib.Omega.{arith}
use lib.ListN.{length}
use lib.Dec.{leb, eqb}
use Rattle.big_endian.specs.Fields.{over}
use Rattle.sketch.specs.Lists.{ite}
use Rattle.sketch.specs.Drawing.{Drawing}
use Rattle.image.specs.Encode.{encode}
use Rattle.edit_plan.specs.declared.Removed.{Removed}
use Rattle.edit_plan.specs.Outcome.{Outcome, refused, accepted, guard}
use Rattle.edit_plan.specs.Suited.{report_of}
use Rattle.edit_plan.specs.Steps.{nothing}
use Rattle.std.specs.Prelude.{Result, Ok, Err}
use Rattle.refusal.specs.declared.Refusal.{Refusal}
use Rattle.refusal.specs.Refusals.{number}
use Rattle.apply.specs.declared.Applied.{Applied}
use Rattle.apply.specs.Answers.{Answer}
use Rattle.apply.specs.Answers as A
use Rattle.apply.specs.Applied.{Answered}
use Rattle.apply.proofs.ListDefinition.{Written}
use Rattle.extend.specs.Answers.{ImageAnswer, refused_at, answer_of}
use Rattle.extend.proofs.Places.{Placeless, without_place}
use Rattle.extend.specs.ImageExtend.{if_fits, number_in, size_in, buffer_with, OutcomeWritten}

abbrev pub edited_by : Answer → ImageAnswer
edited_by a = record { refusal = a.refusal; place = 0; removed = a.removed; size = a.size }

module _ {before after : List ℕ} {a : Answer} where
  pub answered_outcome : (d : Drawing) (gone : Removed) → Answered 0 (encode d) gone before after a → OutcomeWritten (if_fits (length before) (accepted d gone)) before after (edited_by a)
  unfolding guard
  answered_outcome d gone w = go (leb (length (encode d)) (length before)) w.refusal
    where
      go : (b : Bool) → a.refusal ≡ ite b 0 25 → OutcomeWritten (guard b 25 (accepted d gone)) before after (edited_by a)
      go true e =
          let z : eqb a.refusal 0 ≡ true = ap (λ x. eqb x 0) e in
          record {
            refusal = e;
            removed = w.removed ∙ ap (λ b. ite b gone nothing) z;
            size = w.size ∙ ap (λ b. ite b (length (encode d)) 0) z;
            bytes = w.bytes ∙ ap (λ b. ite b (over before 0 (encode d)) before) z;
          }
      go false e =
          let z : eqb a.refusal 0 ≡ false = ap (λ x. eqb x 0) e in
          record {
            refusal = e;
            removed = w.removed ∙ ap (λ b. ite b gone nothing) z;
            size = w.size ∙ ap (λ b. ite b (length (encode d)) 0) z;
            bytes = w.bytes ∙ ap (λ b. ite b (over before 0 (encode d)) before) z;
          }

  pub written_outcome : (o : Outcome Drawing Removed) → Written o before after a → OutcomeWritten (if_fits (length before) o) before after (edited_by a)
  written_outcome (refused n) w = record { refusal = w.0; removed = w.1; size = w.2; bytes = w.3 }
  written_outcome (accepted d gone) w = answered_outcome d gone w

-- applying is refused with no place
pub applied_answer : (x : Result Applied Refusal) → Placeless (A.answer_of x).refusal → edited_by (A.answer_of x) ≡ answer_of x
applied_answer (Ok a) h = refl
applied_answer (Err why) h = ap (refused_at (number why)) (sym (without_place why h))

-- what is refused is not accepted
pub not_accepted : {X : Type 0} {o : Outcome Drawing Removed} {n : ℕ} {d : Drawing} {removed : Removed} → o ≡ refused n → o ≡ accepted d removed → X
not_accepted {n = n} {d = d} {removed = removed} e a =
    let z : ◌≡◌ {A = Outcome Drawing Removed} (refused n) (accepted d removed) = sym e ∙ a in
    let y : ◌≡◌ {A = ℕ} 0 1 = cc in
    absurd (omega arith)

-- a refusal leaves all
pub refused_outcome : {o : Outcome Drawing Removed} {l : List ℕ} (n place : ℕ) → o ≡ refused n → OutcomeWritten (if_fits (length l) o) l l (refused_at n place)
refused_outcome n place e = rw e (record { refusal = refl; removed = refl; size = refl; bytes = refl })
