-- The ways out of a run of desk and wall.
use mathlib.Core.Path.{◌≡◌, refl, sym, ap, ◌∙◌, subst, subst₂}
use mathlib.Core.Bool.{Bool, true, false, ◌&&◌}
use mathlib.Core.List.{List, []}
use Prim.Native.Nat.{ℕ, zero, suc, ◌+◌, ◌*◌, ◌-◌, ◌/◌, ◌≤◌, ◌<◌}
use native.Mathlib.Omega.{arith}
use lib.ListN.{length, take}
use lib.Dec.{leb}
use borrow.Author.Tests.{le-leb, lt-leb, leb-true}
use Rattle.std.specs.Prelude.{Err}
use Rattle.refusal.specs.declared.Refusal.{Refusal}
use Rattle.refusal.specs.Refusals as R
use Rattle.big_endian.specs.Laws.{Bytes}
use Rattle.sketch.specs.Lists.{guard_number}
use Rattle.sketch.specs.Drawing.{Drawing}
use Rattle.sketch.proofs.Bools.{and_both}
use Rattle.image.specs.Image as I
use Rattle.image.proofs.RoundTrips.{result_none}
use Rattle.message.specs.Message.{message_size}
use Rattle.message.specs.Stored.{Mark}
use Rattle.window.specs.declared.Window.{Window}
use Rattle.window.specs.Window.{empty_window}
use Rattle.window.proofs.KeptMessages.{catch_up_of}
use Rattle.agreement.specs.Machines.{State, initial}
use Rattle.replication.specs.Transitions.{memory, state_in, first_nonzero, Started, Starts, first_fault}
use Rattle.replication.proofs.CallOutcomes.{nonzero}
use Rattle.replication.proofs.Steps.{Holding}
use Rattle.replication.proofs.StartCases.{nonzero_first, nonzero_second, starts_with, held_at_start}
use Rattle.replication.proofs.Demand3.{demand_3}
use Rattle.replication_runs.specs.declared.Run.{Run}
use Rattle.replication_runs.specs.RunBoth.{calls_in, has_room, holds_any, run_both_fault, answer_of, RunsBoth, call_size, max_room}
use Rattle.replication_runs.specs.Clauses.{DeskRan, Ran}
use Rattle.replication_runs.proofs.WallInputs.{wall_ran_none}
use Rattle.replication_runs.proofs.DeskCalls.{desk_ran_none}
use Rattle.replication_runs.proofs.RunOrder.{fed_is, log_after}

-- ---- room

pub room_short : (size room : ℕ) → room < max_room → false ≡ has_room size room
room_short size room h = rw (lt-leb max_room room h)

pub room_enough : (size room : ℕ) → max_room ≤ room → leb (size / call_size) ((room - max_room) / message_size) ≡ has_room size room
room_enough size room h = rw (le-leb max_room room h)

room_is : (size room : ℕ) → has_room size room ≡ true → message_size * (size / call_size) + max_room ≤ room
room_is size room e = go (leb max_room room) refl (leb (size / call_size) ((room - max_room) / message_size)) refl e
  where
    go : (a : Bool) → leb max_room room ≡ a → (b : Bool) → leb (size / call_size) ((room - max_room) / message_size) ≡ b → (a && b) ≡ true → message_size * (size / call_size) + max_room ≤ room
    go true p true q e = omega (arith, leb-true max_room room p, leb-true (size / call_size) ((room - max_room) / message_size) q)
    go true p false q e = let z : ◌≡◌ {A = ℕ} 0 1 = cc in absurd (omega arith)
    go false p b q e = let z : ◌≡◌ {A = ℕ} 0 1 = cc in absurd (omega arith)

-- ---- the ways out

last_false : (a : Bool) → (a && false) ≡ false
last_false true = refl
last_false false = refl

module _ (image : List ℕ) (mark : ℕ) (entries order others before desk wall : List ℕ) where
  abbrev has_all : Bool
  has_all = has_room (length entries) (length before) && (holds_any (length desk) && holds_any (length wall))

  -- the three rooms, tested from the left
  pub rooms_of : {a t : Bool} → a ≡ has_room (length entries) (length before) → (a && holds_any (length desk) && holds_any (length wall)) ≡ t → has_all ≡ t
  rooms_of e h =
      and_assoc (has_room (length entries) (length before)) (holds_any (length desk)) (holds_any (length wall)) ∙ sym (ap (λ (x : Bool). x && holds_any (length desk) && holds_any (length wall)) e) ∙ h
    where
      and_assoc : (x y z : Bool) → (x && (y && z)) ≡ (x && y && z)
      and_assoc true y z = refl
      and_assoc false y z = refl

  -- one of the three is too short, or none
  pub short_log : has_room (length entries) (length before) ≡ false → has_all ≡ false
  short_log h = rw h

  pub short_desk : length desk < I.max_image_size → has_all ≡ false
  short_desk h = rw (lt-leb I.max_image_size (length desk) h) (last_false (has_room (length entries) (length before)))

  pub short_wall : length wall < I.max_image_size → has_all ≡ false
  short_wall h = rw (lt-leb I.max_image_size (length wall) h, last_false (holds_any (length desk))) (last_false (has_room (length entries) (length before)))

  pub has_enough : has_room (length entries) (length before) ≡ true → I.max_image_size ≤ length desk → I.max_image_size ≤ length wall → has_all ≡ true
  has_enough h d w = rw (h, le-leb I.max_image_size (length desk) d, le-leb I.max_image_size (length wall) w)

  refusing : (x : Refusal) → R.number x ≡ run_both_fault image (length entries) (length before) (length desk) (length wall) → RunsBoth image mark entries order others before before desk desk wall wall (answer_of (Err x))
  refusing x e = record { number = e; kept = λ y. (refl, refl, refl, refl, refl, refl); held = λ y. absurd (nonzero x y) }

  pub run_short : has_all ≡ false → (x : Refusal) → R.number x ≡ first_fault image 25 → RunsBoth image mark entries order others before before desk desk wall wall (answer_of (Err x))
  unfolding guard_number
  run_short h x e = refusing x (e ∙ sym (nonzero_first (I.image_fault image) 25) ∙ sym (rw h))

  module _ (enough : has_all ≡ true) (d : Started) (desk₀ : List ℕ) (sd : Starts image mark 0 desk desk₀ d) where
    rooms : (holds_any (length desk) ≡ true) × (holds_any (length wall) ≡ true)
    rooms = and_both (holds_any (length desk)) (holds_any (length wall)) (and_both (has_room (length entries) (length before)) (holds_any (length desk) && holds_any (length wall)) enough).1

    room_of_log : message_size * (length entries / call_size) + max_room ≤ length before
    room_of_log = room_is (length entries) (length before) (and_both (has_room (length entries) (length before)) (holds_any (length desk) && holds_any (length wall)) enough).0

    fault_is : d.refusal ≡ I.image_fault image
    unfolding guard_number
    fault_is = sd.number ∙ ap (λ (b : Bool). first_nonzero (I.image_fault image) (guard_number b 25 0)) rooms.0 ∙ go (I.image_fault image)
      where
        go : (n : ℕ) → first_nonzero n 0 ≡ n
        go zero = refl
        go (suc n) = refl

    number_is : d.refusal ≡ run_both_fault image (length entries) (length before) (length desk) (length wall)
    unfolding guard_number
    number_is = sd.number ∙ ap (λ (b : Bool). first_nonzero (I.image_fault image) (guard_number b 25 0)) (rooms.0 ∙ sym enough)

    pub run_refused : (x : Refusal) → d.refusal ≡ R.number x → RunsBoth image mark entries order others before before desk desk₀ wall wall (answer_of (Err x))
    run_refused x e =
        subst (λ (l : List ℕ). RunsBoth image mark entries order others before before desk l wall wall (answer_of (Err x))) (sym (sd.when_refused (λ z. nonzero x (sym e ∙ z))).0)
        (refusing x (sym e ∙ number_is))

    module _ (z : d.refusal ≡ 0) (are : Bytes image) (k : Mark mark) (w : Started) (wall₀ : List ℕ) (sw : Starts image mark 0 wall wall₀ w) where
      abbrev start : Drawing
      start = I.drawing_of image

      pub wall_started : w.refusal ≡ 0
      unfolding guard_number
      wall_started = sw.number ∙ ap (λ (b : Bool). first_nonzero (I.image_fault image) (guard_number b 25 0)) rooms.1 ∙ nonzero_second (I.image_fault image) 0 (sym fault_is ∙ z)

      image_read : I.parse image ≡ I.accepted start
      image_read = result_none (I.image_fault image) start (sym fault_is ∙ z)

      at_desk : Holding mark (memory d.replica desk₀) (initial start)
      at_desk = held_at_start image are mark 0 start image_read (memory d.replica desk₀) (starts_with image mark 0 desk desk₀ d sd z)

      at_wall : Holding mark (memory w.replica wall₀) (initial start)
      at_wall = held_at_start image are mark 0 start image_read (memory w.replica wall₀) (starts_with image mark 0 wall wall₀ w sw wall_started)

      -- the state that the desk's memory shows is the image's
      same : (state_in (memory d.replica desk₀)).drawing ≡ start
      same = ap (λ (t : State Drawing). t.drawing) at_desk.state

      -- before the first number the run came to nothing yet
      pub run_begins :
          (window : Window) → window.bytes ≡ empty_window
          → Ran d.replica.mark (state_in (memory d.replica desk₀)).drawing entries others before [] (record { desk = d.replica; window = window; wall = w.replica; made = 0 }) before desk₀ wall₀
      run_begins window e =
          subst₂ (λ (m : ℕ) (u : Drawing). Ran m u entries others before [] (record { desk = d.replica; window = window; wall = w.replica; made = 0 }) before desk₀ wall₀) (sym at_desk.mark_is) (sym same)
          (record {
            mark_fits = k;
            log_fits = record { few = omega (arith, ap (λ (t : State Drawing). t.count) at_desk.state); within = omega arith; room = room_of_log };
            made_is = refl;
            steps = [];
            of_desk = subst (DeskRan mark start [] _ before before (memory d.replica desk₀)) (sym e) (desk_ran_none mark start entries before (memory d.replica desk₀) at_desk);
            of_wall = wall_ran_none mark start [] (memory w.replica wall₀) at_wall;
          })

      -- after the last number the whole claim holds
      pub run_ends :
          (last : Run) (log desk' wall' : List ℕ) → Ran d.replica.mark (state_in (memory d.replica desk₀)).drawing entries others before order last log desk' wall'
          → RunsBoth image mark entries order others before log desk desk' wall wall' (record { desk = last.desk; window = last.window; wall = last.wall; refusal = 0 })
      run_ends last log desk' wall' ran =
          let r : Ran mark start entries others before order last log desk' wall' = subst₂ (λ (m : ℕ) (u : Drawing). Ran m u entries others before order last log desk' wall') at_desk.mark_is same ran in
          let fed = fed_is mark start entries others before log last.made r.log_fits.within r.steps (memory last.desk desk') last.window.bytes r.of_desk in
          record {
            number = sym z ∙ number_is;
            kept = λ y. absurd (y refl);
            held = λ y. record {
              start = start;
              image_is = image_read;
              steps_of_desk = r.steps;
              life = r.of_wall.life;
              desk_run = r.of_desk.run;
              wall_life = r.of_wall.lived;
              desk_fed = fed ∙ ap (λ (i : ℕ). take i (calls_in entries)) r.made_is;
              wall_fed = r.of_wall.fed;
              desk_ends = r.of_desk.ends;
              wall_ends = r.of_wall.ends;
              desk_mark = r.of_desk.mark_is;
              wall_mark = r.of_wall.mark_is;
              log_is = log_after mark start entries others before log last.made r.log_fits.within r.steps (memory last.desk desk') last.window.bytes r.of_desk;
              window_of = catch_up_of mark last.window.bytes _ r.of_desk.numbered r.of_desk.keeps;
              correct = demand_3 image are mark k start image_read r.steps r.of_wall.life r.of_desk.run r.of_wall.lived r.of_wall.from;
            };
          }
