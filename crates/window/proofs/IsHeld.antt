-- What is read of a slot tells whether its message is held, and a message that is held is whole.
use mathlib.Core.Path.{◌≡◌, sym, ◌∙◌}
use mathlib.Core.Bool.{Bool, true, false}
use mathlib.Core.List.{List}
use Prim.Native.Nat.{ℕ}
use lib.ListN.{length}
use lib.Dec.{eqb}
use borrow.Author.Tests.{eqb-true, eq-eqb, ne_eqb}
use Rattle.sketch.proofs.Bools.{and_left}
use Rattle.message.specs.declared.Message.{Message}
use Rattle.std.specs.Prelude.{Result, Ok, Err, MatchResult}
use Rattle.refusal.specs.declared.Refusal.{Refusal}
use Rattle.refusal.specs.Refusals.{Accepted, Refused, number, numbered}
use Rattle.message.specs.Message.{message_size, message_fault, message_of, parse}
use Rattle.message.proofs.MessageRoundTrips.{result_accepted, result_refused, message_kept}
use Rattle.window.specs.Window.{slot, is_held}

module _ (mark : ℕ) (w : List ℕ) (n : ℕ) where
  module _ (s : List ℕ) (e : s ≡ slot w n) where
    pub held_refused : (r : ℕ) → parse mark s ≡ Refused r → is_held mark w n ≡ false
    held_refused r h =
        let q = result_refused (message_fault mark s) (message_of s) r h in
        rw (← e, ne_eqb (message_fault mark s) 0 (λ z. q.1 (q.0 ∙ z)))

    pub held_accepted : (m : Message) → parse mark s ≡ Accepted m → is_held mark w n ≡ eqb m.number n
    held_accepted m h =
        let q = result_accepted (message_fault mark s) (message_of s) m h in
        rw (← e, eq-eqb (message_fault mark s) 0 q.0, ← q.1)

    -- what a read answers tells it
    pub held_by : (r : Result Message Refusal) → numbered r ≡ parse mark s → (b : Bool) → MatchResult r (λ m. b ≡ eqb m.number n) (λ _. b ≡ false) → b ≡ is_held mark w n
    held_by (Ok m) h b t = t ∙ sym (held_accepted m (sym h))
    held_by (Err r) h b t = t ∙ sym (held_refused (number r) (sym h))

  pub length_held : is_held mark w n ≡ true → length (slot w n) ≡ message_size
  length_held e = (message_kept mark (slot w n) (eqb-true _ _ (and_left _ _ e))).long
