use Rattle.std.proofs.Common.{ℕ, length, ◌≤◌, List, ◌≡◌, refl}
use Rattle.big_endian.specs.Fields.{bytes}
use Rattle.image.proofs.Tables.{Writing}
use Rattle.image.proofs.writer.write_slots.Given as goal

abbrev pub invariant-loop-i : goal.invariant-loop-i
invariant-loop-i l = (l.i ≤ 8) × (length l.id-items ≡ 8) × Writing (bytes 4) 4 (λ (l : List ℕ). l) (λ x. x) (λ l x. refl) l.initial.buf l.at l.id-items l.i l.buf
