-- The wall's program always writes into a buffer of the largest image's size (`program_writes`). Assumes nothing.
use mathlib.Core.Path.{◌≡◌, refl, ◌∙◌}
use mathlib.Core.List.{List, [], ◌∷◌}
use Prim.Native.Nat.{ℕ, ◌≤◌}
use native.Mathlib.Omega.{arith}
use lib.ListN.{length, take, drop}
use borrow.Author.Tests.{le-leb}
use Rattle.big_endian.specs.Fields.{over}
use Rattle.big_endian.specs.Laws.{Bytes}
use Rattle.sketch.specs.Drawing.{Drawing, limits}
use Rattle.sketch.specs.Facts.{Valid}
use Rattle.sketch.proofs.Facts.{fault_valid}
use Rattle.image.specs.Image as I
use Rattle.image.proofs.RoundTrips as T
use Rattle.image.proofs.Sizes.{image_size}
use Rattle.image.proofs.Tables.{bytes_take}
use Rattle.agreement.specs.Machines.{State, initial, wall_transition}
use Rattle.replication.specs.Protocol.{protocol}
use Rattle.wall_program.specs.Program.{image_end, mark_in, mark_end, chunks, outcome_on, program_outcome, output, output_size, WritesOutcome, wall_after_messages}
use Rattle.replication.proofs.WallCases.{wall_case, delivery_valid}

-- messages keep a drawing valid
deliveries_valid : (mark : ℕ) (s : State Drawing) (ms : List (List ℕ)) → Valid limits s.drawing → Valid limits (wall_after_messages mark s ms).drawing
deliveries_valid mark s [] v = v
deliveries_valid mark s (m ∷ ms) v =
    let x = wall_transition (protocol mark) s ((protocol mark).decode m) in
    deliveries_valid mark x.0 ms (delivery_valid s x (wall_case mark s ((protocol mark).decode m)) v)

outcome_small : (mark : ℕ) (image : List ℕ) (ms : List (List ℕ)) → Bytes image → (p : I.ParseResult) → I.parse image ≡ p → output_size (outcome_on mark p ms) ≤ I.max_image_size
outcome_small mark image ms b (I.refused k) e = omega arith
outcome_small mark image ms b (I.accepted d) e = image_size _ (deliveries_valid mark (initial d) ms (fault_valid limits d (T.valid image d b e)))

pub program_writes :
    (input : List ℕ) → Bytes input → (before later : List ℕ) (r : ℕ) → I.max_image_size ≤ length before → WritesOutcome (program_outcome input) before later r
    → (r ≡ output_size (program_outcome input)) × (later ≡ over before 0 (output (program_outcome input)))
program_writes input b before later r room w =
    let image = take (image_end input) input in
    let small = outcome_small (mark_in input) image (chunks (drop (mark_end input) input)) (bytes_take (image_end input) input b) (I.parse image) refl in
    let fits = le-leb (output_size (program_outcome input)) (length before) (omega arith) in
    (w.size ∙ rw fits, w.buffer ∙ rw fits)
