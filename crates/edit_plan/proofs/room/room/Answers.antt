-- `edit_plan::room` meets its contract: what each test passes holds for the next.
use Rattle.std.proofs.Common.{◌≡◌, sym, ap, ◌∙◌, ℕ, suc, ◌+◌, Bool, true, false, not, add-one, arith}
use Rattle.std.proofs.lemmas.Result.{err_from_is_err_and}
use Rattle.sketch.specs.Lists.{guard_number}
use Rattle.sketch.specs.Drawing.{limits}
use Rattle.edit_plan.specs.Room.{curve_room, room_with}
use Rattle.edit_plan.proofs.Rooms.{point_refused, point_passed, curve_refused, curve_passed}
use Rattle.edit_plan.proofs.room.room.Goals as goal

-- the code adds 1 where the definition takes the successor
third_is : (a i n : ℕ) → a ≡ curve_room limits (i + 1) n 0 → a ≡ curve_room limits (suc i) n 0
third_is a i n e = e ∙ ap (λ j. curve_room limits j n 0) (add-one i)

fourth_is : (a i k n : ℕ) → a ≡ curve_room limits (i + 1 + k) n 0 → a ≡ curve_room limits (suc i + k) n 0
fourth_is a i k n e = e ∙ ap (λ j. curve_room limits (j + k) n 0) (add-one i)

-- the last test, of the relations
too_many : (full : Bool) → full ≡ true → guard_number (not full) 22 0 ≡ 22
unfolding guard_number
too_many full e = rw e

few_enough : (full : Bool) → full ≡ false → guard_number (not full) 22 0 ≡ 0
unfolding guard_number
few_enough full e = rw e

pub returns-in_err-point_room : goal.returns-in_err-point_room
unfolding room_with
returns-in_err-point_room c =
    let p = err_from_is_err_and c.from_residual.result c.from_residual.ensures.1 in
    rw (p.1, p.2) (point_refused limits _ _ _ _ _ c.in_err-point_room.ensures)

pub overflow_add-next : goal.overflow_add-next
overflow_add-next c =
    let first = point_passed limits _ _ _ c.in_ok-point_room.ensures in
    omega (arith, first.0, c.requires.0)

pub overflow_add-points : goal.overflow_add-points
overflow_add-points c =
    let first = point_passed limits _ _ _ c.in_ok-point_room.ensures in
    omega (arith, first.1, c.requires.0)

pub returns-in_err-point_room-2 : goal.returns-in_err-point_room-2
unfolding room_with
returns-in_err-point_room-2 c =
    let p = err_from_is_err_and c.from_residual-in_err-point_room-2.result c.from_residual-in_err-point_room-2.ensures.1 in
    let first = point_passed limits _ _ _ c.in_ok-point_room.ensures in
    rw (p.1, p.2) (point_refused limits _ _ _ _ _ c.in_err-point_room-2.ensures ∙ sym (first.2 _))

pub overflow_add-i : goal.overflow_add-i
overflow_add-i c =
    let second = point_passed limits _ _ _ c.in_ok-point_room-2.ensures in
    omega (arith, second.0)

pub overflow_add-i-2 : goal.overflow_add-i-2
overflow_add-i-2 c =
    let second = point_passed limits _ _ _ c.in_ok-point_room-2.ensures in
    omega (arith, second.0)

pub returns-in_err-curve_room : goal.returns-in_err-curve_room
unfolding room_with
returns-in_err-curve_room c =
    let p = err_from_is_err_and c.from_residual-in_err-curve_room.result c.from_residual-in_err-curve_room.ensures.1 in
    let first = point_passed limits _ _ _ c.in_ok-point_room.ensures in
    let second = point_passed limits _ _ _ c.in_ok-point_room-2.ensures in
    rw (p.1, p.2) (curve_refused limits _ _ _ _ (third_is _ _ _ c.in_err-curve_room.ensures) ∙ sym (first.2 _ ∙ second.2 _))

pub overflow_add-i-3 : goal.overflow_add-i-3
overflow_add-i-3 c =
    let third = curve_passed limits _ _ (third_is _ _ _ c.in_ok-curve_room.ensures) in
    omega (arith, third.0, c.requires.1)

pub overflow_add-curves : goal.overflow_add-curves
overflow_add-curves c =
    let third = curve_passed limits _ _ (third_is _ _ _ c.in_ok-curve_room.ensures) in
    omega (arith, third.1, c.requires.1)

pub returns-in_err-curve_room-2 : goal.returns-in_err-curve_room-2
unfolding room_with
returns-in_err-curve_room-2 c =
    let p = err_from_is_err_and c.from_residual-in_err-curve_room-2.result c.from_residual-in_err-curve_room-2.ensures.1 in
    let first = point_passed limits _ _ _ c.in_ok-point_room.ensures in
    let second = point_passed limits _ _ _ c.in_ok-point_room-2.ensures in
    let third = curve_passed limits _ _ (third_is _ _ _ c.in_ok-curve_room.ensures) in
    rw (p.1, p.2) (curve_refused limits _ _ _ _ (fourth_is _ _ _ _ c.in_err-curve_room-2.ensures) ∙ sym (first.2 _ ∙ second.2 _ ∙ third.2 _))

pub returns-then-full : goal.returns-then-full
unfolding room_with
returns-then-full c =
    let first = point_passed limits _ _ _ c.in_ok-point_room.ensures in
    let second = point_passed limits _ _ _ c.in_ok-point_room-2.ensures in
    let third = curve_passed limits _ _ (third_is _ _ _ c.in_ok-curve_room.ensures) in
    let fourth = curve_passed limits _ _ (fourth_is _ _ _ _ c.in_ok-curve_room-2.ensures) in
    sym (first.2 _ ∙ second.2 _ ∙ third.2 _ ∙ fourth.2 _ ∙ too_many _ c.if-full.true)

pub returns : goal.returns
unfolding room_with
returns c =
    let first = point_passed limits _ _ _ c.in_ok-point_room.ensures in
    let second = point_passed limits _ _ _ c.in_ok-point_room-2.ensures in
    let third = curve_passed limits _ _ (third_is _ _ _ c.in_ok-curve_room.ensures) in
    let fourth = curve_passed limits _ _ (fourth_is _ _ _ _ c.in_ok-curve_room-2.ensures) in
    sym (first.2 _ ∙ second.2 _ ∙ third.2 _ ∙ fourth.2 _ ∙ few_enough _ c.if-full.false)
