-- What the reference machine's entries lead to is the edits' definition, folded.
use mathlib.Core.Path.{◌≡◌, refl}
use mathlib.Core.List.{List, [], ◌∷◌}
use Prim.Native.Nat.{ℕ, zero, suc}
use lib.ListN.{take}
use Rattle.sketch.specs.Drawing.{Drawing}
use Rattle.edit_plan.specs.declared.Removed.{Removed}
use Rattle.edit_plan.specs.Outcome.{accepted}
use Rattle.agreement.specs.Machines.{State, Entry}
use Rattle.agreement.specs.Agreement.{state_at}
use Rattle.agreement.specs.Families.{reports}
use Rattle.agreement.proofs.Reference.{Linked}
use Rattle.replication.specs.Protocol.{Edit, protocol}
use Rattle.replication.specs.Replication.{apply_edits, edits}
use Rattle.replication.proofs.Decoding.{literal}

pub folded :
    (mark : ℕ) (s : State Drawing) (l : List (Entry Drawing Edit Removed)) (n : ℕ) → Linked (protocol mark) s l
    → apply_edits s.drawing (edits (take n l)) ≡ accepted (state_at s l n).drawing (reports (take n l))
folded mark s l zero h = refl
folded mark s [] (suc n) h = refl
folded mark s (x ∷ xs) (suc n) h =
    rw (literal s.drawing x.edit x.after.drawing x.report h.0.gives, folded mark x.after xs n h.1)
