-- The place that desk and wall reply with is never above the limit of relations. Assumes nothing.
use mathlib.Core.Path.{◌≡◌, refl}
use mathlib.Core.Bool.{Bool, true, false}
use mathlib.Core.List.{List}
use Prim.Native.Nat.{ℕ, ◌+◌, ◌≤◌}
use native.Mathlib.Omega.{arith}
use lib.ListN.{length}
use lib.Dec.{leb, eqb}
use Rattle.big_endian.specs.Laws.{Bytes}
use Rattle.sketch.specs.Lists.{ite}
use Rattle.sketch.specs.Drawing.{Drawing, limits}
use Rattle.sketch.specs.Facts.{Valid}
use Rattle.sketch.proofs.Facts.{fault_valid}
use Rattle.image.specs.Image as I
use Rattle.image.specs.Encode.{drawing_size}
use Rattle.image.proofs.Tables.{bytes_take}
use Rattle.image.proofs.RoundTrips as T
use Rattle.edit_plan.specs.declared.Removed.{Removed}
use Rattle.edit_plan.specs.Outcome as O
use Rattle.modify.proofs.Places.{place_within}
use Rattle.agreement.specs.Machines as M
use Rattle.agreement.specs.Machines.{State, Call, Decoded, invalid, message, call_outcome, wall_transition}
use Rattle.replication.specs.Protocol.{Edit, edit, place, protocol}
use Rattle.replication.specs.Outcomes.{CallOutcome, refused, updated, if_image_fits, on_image, desk_outcome, desk_on, wall_outcome, wall_on, place_of}
use Rattle.replication.specs.Transitions.{Memory, image_in, desk_call_outcome, wall_call_outcome}

-- of an edit of a valid drawing
pub within : (d : Drawing) → Valid limits d → (e : Edit) (k : ℕ) → place d e k ≤ limits.relations
within d v e k = place_within e.operation d e.curve e.at v k

-- of the wall's reply
abbrev pub wall_place : M.WallReply Removed → ℕ
wall_place (M.wall_refused k place) = place
wall_place M.wall_old = 0
wall_place (M.wall_applied r) = 0

pub reply_within : (mark : ℕ) (s : State Drawing) → Valid limits s.drawing → (x : Decoded Edit) → wall_place (wall_transition (protocol mark) s x).1 ≤ limits.relations
reply_within mark s v (invalid k) = omega arith
reply_within mark s v (message n e) = go (leb n s.count) (eqb n (s.count + 1))
  where
    applied : (o : O.Outcome Drawing Removed) → wall_place (M.wall_apply (protocol mark) s n e o).1 ≤ limits.relations
    applied (O.refused k) = within s.drawing v e k
    applied (O.accepted d r) = omega arith

    go : (a b : Bool) → wall_place (ite {A = State Drawing × M.WallReply Removed} a (s, M.wall_old) (ite b (M.wall_apply (protocol mark) s n e (edit s.drawing e)) (s, M.wall_refused 7 0))).1 ≤ limits.relations
    go true b = omega arith
    go false true = applied (edit s.drawing e)
    go false false = omega arith

-- a new image, or 25, comes with none
fits_within : (room : ℕ) (s : State Drawing) (r : Removed) → place_of (if_image_fits room s r) ≤ limits.relations
fits_within room s r = go (leb (drawing_size s.drawing) room)
  where
    go : (b : Bool) → place_of (ite b (updated s r) (refused 25 0)) ≤ limits.relations
    go true = omega arith
    go false = omega arith

module _ (m : Memory) (are : Bytes m.buffer) where
  -- on the image in a memory
  on_within : (f : State Drawing → CallOutcome) → ((d : Drawing) → Valid limits d → place_of (f (record { drawing = d; count = m.count })) ≤ limits.relations) → place_of (on_image (I.parse (image_in m)) m.count f) ≤ limits.relations
  on_within f h = go (I.parse (image_in m)) refl
    where
      go : (p : I.ParseResult) → I.parse (image_in m) ≡ p → place_of (on_image p m.count f) ≤ limits.relations
      go (I.refused k) e = omega arith
      go (I.accepted d) e = h d (fault_valid limits d (T.valid (image_in m) d (bytes_take m.size m.buffer are) e))

  pub desk_place_within : (e : Edit) (room : ℕ) → place_of (desk_call_outcome m e room) ≤ limits.relations
  desk_place_within e room = on_within (desk_on m.mark (length m.buffer) call) λ d v. go d v (call_outcome (protocol m.mark) (record { drawing = d; count = m.count }) call)
    where
      call : Call Edit
      call = record { edit = e; room = room }

      go : (d : Drawing) → Valid limits d → (o : O.Outcome (State Drawing) Removed) → place_of (desk_outcome (length m.buffer) (place d e) o) ≤ limits.relations
      go d v (O.refused k) = within d v e k
      go d v (O.accepted s r) = fits_within (length m.buffer) s r

  pub wall_place_within : (bytes : List ℕ) → place_of (wall_call_outcome m bytes) ≤ limits.relations
  wall_place_within bytes =
      on_within (wall_on m.mark (length m.buffer) bytes) λ d v.
      let found : State Drawing = record { drawing = d; count = m.count } in
      let x = wall_transition (protocol m.mark) found ((protocol m.mark).decode bytes) in
      go x.0 x.1 (reply_within m.mark found v ((protocol m.mark).decode bytes))
    where
      go : (s : State Drawing) (r : M.WallReply Removed) → wall_place r ≤ limits.relations → place_of (wall_outcome (length m.buffer) s r) ≤ limits.relations
      go s (M.wall_refused k place) h = h
      go s M.wall_old h = omega arith
      go s (M.wall_applied r) h = fits_within (length m.buffer) s r
