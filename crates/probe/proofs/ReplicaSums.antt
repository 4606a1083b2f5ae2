-- What a desk's edit and a delivery add to a sum: one law for each reply.
use Rattle.std.proofs.Common.{◌≡◌, ℕ, ◌+◌, ◌*◌, ◌%◌, ◌^◌, ◌≤◌, Bool, true, false, leb, List, length, take, sym, refl, ap, ◌∙◌, subst, arith, take_all, take_at, leb-true, leb-false}
use lib.Ieee.{Float}
use Rattle.big_endian.specs.Fields.{over, over_if_fits}
use Rattle.big_endian.specs.Laws.{Bytes, over_fits, length_over}
use Rattle.sketch.specs.Drawing.{Drawing, limits}
use Rattle.sketch.specs.Facts.{Valid}
use Rattle.sketch.proofs.Facts.{fault_valid}
use Rattle.image.specs.Image as I
use Rattle.image.specs.Image.{drawing_of, image_fault, max_image_size, parse}
use Rattle.image.proofs.RoundTrips.{result_none, valid}
use Rattle.sketch_image.specs.SketchImage.{drawing_in}
use Rattle.message.specs.Message.{operation_of}
use Rattle.message.specs.declared.Operation.{Operation}
use Rattle.edit_plan.specs.declared.Removed.{Removed}
use Rattle.edit_plan.specs.Outcome.{Outcome, refused, accepted}
use Rattle.agreement.specs.Machines as M
use Rattle.agreement.specs.Machines.{State, state_after, DeskStepValid, WallStepValid}
use Rattle.std.specs.Prelude.{Result, Ok}
use Rattle.refusal.specs.declared.Refusal.{Refusal}
use Rattle.replication.specs.declared.Delivered.{Delivered}
use Rattle.replication.specs.declared.Delivered.TheVariants as D
use Rattle.replication.specs.DeskReply.{DeskReply}
use Rattle.replication.specs.DeskReply as Desk
use Rattle.replication.specs.WallReply.{WallReply, wall_reply_of}
use Rattle.replication.specs.WallReply as Wall
use Rattle.replication.specs.Protocol.{Edit, protocol}
use Rattle.replication.specs.Transitions.{Memory, memory, DeskCall, desk_reply, desk_step, DeskEdits, WallCall, wall_reply, wall_step, WallDelivers}
use Rattle.replication.proofs.OutcomePlaces.{within, wall_place, reply_within}
use Rattle.replication.proofs.StartCases.{good_size}
use Rattle.replication.proofs.Steps.{Holding, ready_by, desk_step_lem, wall_step_lem}
use Rattle.probe.specs.Edits.{with_place, repeated}
use Rattle.probe.specs.Replicas.{image_state, desk_tally, desk_adds, wall_tally}
use Rattle.wall_program.specs.Program.{program_outcome, WritesOutcome}

-- a place within the limit stands whole above the number
with_place_lem : (n place j p q : ℕ) → n ≡ j → place ≡ p → p ≤ limits.relations → q ≡ n + place % 65536 * 65536 → q ≡ with_place j p
with_place_lem n place j p q e f h is = omega arith

module _ (mark : ℕ) (d : Drawing) (v : Valid limits d) (e : Edit) (m : List ℕ) (reply : DeskReply) where
  pub desk_refused_lem :
      (o : Outcome (State Drawing) Removed) (n place : ℕ) → reply ≡ Desk.Refused n place → desk_reply reply m ≡ M.reply_to (protocol mark) d e o → {k : ℕ} → k ≡ n + place % 65536 * 65536
      → k ≡ desk_tally ((protocol mark).place d e) o
  unfolding desk_tally
  desk_refused_lem (refused j) n place q h is =
      let w : ◌≡◌ {A = M.DeskReply Removed} (M.desk_refused n place) (M.desk_refused j ((protocol mark).place d e j)) = ap (λ x. desk_reply x m) (sym q) ∙ h in
      let number : n ≡ j = cc in
      let placed : place ≡ (protocol mark).place d e j = cc in
      with_place_lem n place j ((protocol mark).place d e j) _ number placed (within d v e j) is
  desk_refused_lem (accepted t r) n place q h is =
      let w : ◌≡◌ {A = M.DeskReply Removed} (M.desk_refused n place) (M.reply_to (protocol mark) d e (accepted t r)) = ap (λ x. desk_reply x m) (sym q) ∙ h in
      let z : ◌≡◌ {A = ℕ} 0 1 = cc in
      absurd (omega arith)

  pub desk_done :
      (o : Outcome (State Drawing) Removed) (was now : State Drawing) (gone : Removed) → reply ≡ Desk.Accepted gone → desk_reply reply m ≡ M.reply_to (protocol mark) d e o → now ≡ state_after was o
      → {k : ℕ} → k ≡ (now.count + 256) % 2 ^ 32 → k ≡ desk_tally ((protocol mark).place d e) o
  unfolding desk_tally
  desk_done (refused k) was now gone q h g f =
      let w : ◌≡◌ {A = M.DeskReply Removed} (M.desk_accepted gone m) (M.desk_refused k ((protocol mark).place d e k)) = ap (λ x. desk_reply x m) (sym q) ∙ h in
      let z : ◌≡◌ {A = ℕ} 0 1 = cc in
      absurd (omega arith)
  desk_done (accepted t r) was now gone q h g f = f ∙ ap (λ (x : State Drawing). (x.count + 256) % 2 ^ 32) g

module _ (reply : WallReply) where
  pub wall_refused_lem :
      (o : State Drawing × M.WallReply Removed) → wall_place o.1 ≤ limits.relations → (n place : ℕ) → reply ≡ Wall.Refused n place → wall_reply reply ≡ o.1 → {k : ℕ} → k ≡ n + place % 65536 * 65536
      → k ≡ wall_tally o
  unfolding wall_tally
  wall_refused_lem (s, M.wall_refused j p) low n place q h is =
      let w : ◌≡◌ {A = M.WallReply Removed} (M.wall_refused n place) (M.wall_refused j p) = ap wall_reply (sym q) ∙ h in
      let number : n ≡ j = cc in
      let placed : place ≡ p = cc in
      with_place_lem n place j p _ number placed low is
  wall_refused_lem (s, M.wall_old) low n place q h is =
      let w : ◌≡◌ {A = M.WallReply Removed} (M.wall_refused n place) M.wall_old = ap wall_reply (sym q) ∙ h in
      let z : ◌≡◌ {A = ℕ} 0 1 = cc in
      absurd (omega arith)
  wall_refused_lem (s, M.wall_applied r) low n place q h is =
      let w : ◌≡◌ {A = M.WallReply Removed} (M.wall_refused n place) (M.wall_applied r) = ap wall_reply (sym q) ∙ h in
      let z : ◌≡◌ {A = ℕ} 0 1 = cc in
      absurd (omega arith)

  pub wall_old_lem : (o : State Drawing × M.WallReply Removed) → reply ≡ Wall.Old → wall_reply reply ≡ o.1 → 256 ≡ wall_tally o
  unfolding wall_tally
  wall_old_lem (s, M.wall_refused k p) q h =
      let w : ◌≡◌ {A = M.WallReply Removed} M.wall_old (M.wall_refused k p) = ap wall_reply (sym q) ∙ h in
      let z : ◌≡◌ {A = ℕ} 0 1 = cc in
      absurd (omega arith)
  wall_old_lem (s, M.wall_old) q h = refl
  wall_old_lem (s, M.wall_applied r) q h =
      let w : ◌≡◌ {A = M.WallReply Removed} M.wall_old (M.wall_applied r) = ap wall_reply (sym q) ∙ h in
      let z : ◌≡◌ {A = ℕ} 0 1 = cc in
      absurd (omega arith)

  pub wall_applied_lem : (o : State Drawing × M.WallReply Removed) (now : State Drawing) (gone : Removed) → reply ≡ Wall.Applied gone → wall_reply reply ≡ o.1 → now ≡ o.0 → {k : ℕ} → k ≡ (now.count + 256) % 2 ^ 32 → k ≡ wall_tally o
  unfolding wall_tally
  wall_applied_lem (s, M.wall_refused k p) now gone q h g f =
      let w : ◌≡◌ {A = M.WallReply Removed} (M.wall_applied gone) (M.wall_refused k p) = ap wall_reply (sym q) ∙ h in
      let z : ◌≡◌ {A = ℕ} 0 1 = cc in
      absurd (omega arith)
  wall_applied_lem (s, M.wall_old) now gone q h g f =
      let w : ◌≡◌ {A = M.WallReply Removed} (M.wall_applied gone) M.wall_old = ap wall_reply (sym q) ∙ h in
      let z : ◌≡◌ {A = ℕ} 0 1 = cc in
      absurd (omega arith)
  wall_applied_lem (s, M.wall_applied r) now gone q h g f = f ∙ ap (λ (x : State Drawing). (x.count + 256) % 2 ^ 32) g

-- a delivery's result, as a reply
pub told_old : (r : Result Delivered Refusal) (d : Delivered) → r ≡ Ok d → d ≡ D.Old → wall_reply_of r ≡ Wall.Old
told_old r d e f = ap wall_reply_of e ∙ ap (λ (x : Delivered). wall_reply_of (Ok x)) f

pub told_applied : (r : Result Delivered Refusal) (d : Delivered) (gone : Removed) → r ≡ Ok d → d ≡ D.Applied gone → wall_reply_of r ≡ Wall.Applied gone
told_applied r d gone e f = ap wall_reply_of e ∙ ap (λ (x : Delivered). wall_reply_of (Ok x)) f

-- ---- so many on one image

-- an image put to a buffer's front is a replica's
module _ (image : List ℕ) (are : Bytes image) (good : image_fault image ≡ 0) (count mark : ℕ) (b : List ℕ) (room : max_image_size ≤ length b) (b' : List ℕ) (put : b' ≡ over_if_fits b 0 image) where
  abbrev found : Memory
  found = memory (record { size = length image; mark = mark; count = count }) b'

  pub drawing_valid : Valid limits (drawing_of image)
  drawing_valid = fault_valid limits (drawing_of image) (valid image (drawing_of image) are (result_none (image_fault image) (drawing_of image) good))

  held : Holding mark found (image_state image count)
  unfolding over
  held =
      let l = good_size image good in
      let fits : 0 + length image ≤ length b = omega (arith, l, room) in
      let is : b' ≡ over b 0 image = put ∙ over_fits b 0 image fits in
      let front : take (length image) b' ≡ image = ap (take (length image)) is ∙ take_at image _ (length image) refl in
      let read = result_none (image_fault image) (drawing_of image) good in
      let e : parse (take (length image) b') ≡ I.accepted (drawing_of image) = ap parse front ∙ read in
      let long : max_image_size ≤ length b' = subst (λ (n : ℕ). max_image_size ≤ n) (sym (ap length is ∙ length_over b 0 image fits)) room in
      record {
        ready = ready_by found (drawing_of image) e drawing_valid long;
        mark_is = refl;
        state = λ i. record { drawing = ap drawing_in e i; count = count };
      }

  pub place_low : (message : List ℕ) → wall_place (M.wall_transition (protocol mark) (image_state image count) ((protocol mark).decode message)).1 ≤ limits.relations
  place_low message = reply_within mark (image_state image count) drawing_valid ((protocol mark).decode message)

  pub desk_valid : (kept : List ℕ) (c : DeskCall) → DeskEdits found kept c → DeskStepValid (protocol mark) (image_state image count) (desk_step c)
  desk_valid kept c w = subst (λ (s : State Drawing). DeskStepValid (protocol mark) s (desk_step c)) held.state (desk_step_lem found held.ready kept c w).0

  pub wall_valid : (c : WallCall) → WallDelivers found c → WallStepValid (protocol mark) (image_state image count) (wall_step c)
  wall_valid c w = subst (λ (s : State Drawing). WallStepValid (protocol mark) s (wall_step c)) held.state (wall_step_lem found held.ready c w).0

pub desk_read :
    (s : List ℕ) (count op t : ℕ) (x y : Float) (times : ℕ) {op' : Operation} {n : ℕ} → op' ≡ operation_of op
    → n ≡ repeated times (desk_adds op' t x y (image_state s count)) → n ≡ repeated times (desk_adds (operation_of op) t x y (image_state s count))
desk_read s count op t x y times e q = q ∙ ap (λ o. repeated times (desk_adds o t x y (image_state s count))) e

-- ---- the wall's program looks at 65,536 bytes

pub read_whole : (s : List ℕ) {before later : List ℕ} {n : ℕ} → length s ≤ 65536 → WritesOutcome (program_outcome s) before later n → WritesOutcome (program_outcome (take 65536 s)) before later n
read_whole s {before} {later} {n} h w = subst (λ (l : List ℕ). WritesOutcome (program_outcome l) before later n) (sym (take_all 65536 s h)) w

pub read_front : (s : List ℕ) (m : ℕ) → (length s ≤ 65536 → m ≡ length s) → (65536 ≤ length s → m ≡ 65536) → take m s ≡ take 65536 s
read_front s m short long = go (leb (length s) 65536) refl
  where
    go : (b : Bool) → leb (length s) 65536 ≡ b → take m s ≡ take 65536 s
    go true e =
        let h = leb-true (length s) 65536 e in
        take_all m s (omega (arith, short h)) ∙ sym (take_all 65536 s h)
    go false e = ap (λ (n : ℕ). take n s) (long (omega (arith, leb-false (length s) 65536 e)))
