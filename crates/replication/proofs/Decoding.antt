-- At its own mark a message is read as the edit and the number that it was made of, where the edit was accepted; at any other it is not read.
use mathlib.Core.Path.{◌≡◌, ap}
use mathlib.Core.Bool.{Bool, true, false, ◌&&◌}
use Prim.Native.Nat.{ℕ, ◌≤◌, ◌<◌}
use native.Mathlib.Omega.{arith}
use lib.Dec.{T}
use borrow.Author.Tests.{le-leb}
use lib.Ieee.{fits, binary64}
use lib.Ieee.Bits.{of_bits-to_bits, to_bits-lt}
use Rattle.sketch.specs.Lists.{guard_number}
use Rattle.sketch.specs.Drawing.{Drawing, limits}
use Rattle.sketch.specs.Facts.{Valid}
use Rattle.message.specs.Message.{encode, result_of}
use Rattle.message.specs.Stored.{Mark}
use Rattle.message.proofs.MessageRoundTrips.{parse_encode}
use Rattle.image.specs.Stored.{Id}
use Rattle.relations.specs.Met.{all_met}
use Rattle.edit_plan.specs.declared.Removed.{Removed}
use Rattle.edit_plan.specs.Outcome.{accepted}
use Rattle.modify.specs.Edits.{edit_of}
use Rattle.modify.proofs.Planned.{guard_accepted, edit_planned}
use Rattle.chains.proofs.Edits.{Planned, plan_target}
use Rattle.agreement.specs.Machines.{message, max_edit_number}
use Rattle.agreement.proofs.Wall.{Read}
use Rattle.replication.specs.Protocol.{Edit, is_pick, edit, message_for, edit_in, decoded_of, protocol, target}

both_fit : (a b : Bool) → (a && b) ≡ true → T a × T b
both_fit true true e = (tt, tt)
both_fit true false e = let z : ◌≡◌ {A = ℕ} 0 1 = cc in absurd (omega arith)
both_fit false b e = let z : ◌≡◌ {A = ℕ} 0 1 = cc in absurd (omega arith)

-- an accepted edit is one of the definition, of a pick that binary64 holds
pub literal : (d : Drawing) (e : Edit) (d' : Drawing) (r : Removed) → edit d e ≡ accepted d' r → edit_of e.operation limits d e.curve e.at ≡ accepted d' r
literal d e d' r q = (guard_accepted (is_pick e.at) 9 (edit_of e.operation limits d e.curve e.at) d' r q).1

pub planned : Planned target all_met limits edit
planned d e d' r v q = edit_planned all_met e.operation limits d e.curve e.at d' r (literal d e d' r q)

-- a pick's bits give it back
edit_in_message : (n : ℕ) (e : Edit) → T (fits binary64 e.at.x) → T (fits binary64 e.at.y) → edit_in (message_for n e) ≡ e
edit_in_message n e a b =
    let p = of_bits-to_bits binary64 e.at.x a in
    let q = of_bits-to_bits binary64 e.at.y b in
    λ i. record { operation = e.operation; curve = e.curve; at = record { x = p i; y = q i } }

pub read_back : (mark : ℕ) → Mark mark → (n : ℕ) (e : Edit) → 0 < n → n ≤ max_edit_number → Id e.curve → is_pick e.at ≡ true → (protocol mark).decode ((protocol mark).encode n e) ≡ message n e
unfolding decoded_of result_of guard_number
read_back mark k n e l h c f =
    let (a, b) = both_fit (fits binary64 e.at.x) (fits binary64 e.at.y) f in
    let w = parse_encode mark k (message_for n e) (record {
      number_fits = omega arith;
      curve_fits_lem = c;
      x_fits = to_bits-lt binary64 e.at.x a;
      y_fits = to_bits-lt binary64 e.at.y b;
    }) in
    rw (w, le-leb 1 n l) (ap (message n) (edit_in_message n e a b))

pub read : (mark : ℕ) → Mark mark → Read (protocol mark) (Valid limits)
read mark k d e d' r v q n l h =
    let f = (guard_accepted (is_pick e.at) 9 (edit_of e.operation limits d e.curve e.at) d' r q).0 in
    let (plan, p, o) = planned d e d' r v q in
    let t = (plan_target all_met limits d v e.curve plan d' r o).1 in
    read_back mark k n e l h (omega (arith, t, v.next_high)) f
