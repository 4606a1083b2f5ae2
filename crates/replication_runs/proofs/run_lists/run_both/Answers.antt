-- `replication_runs::run_both` meets its contract.
use Rattle.std.proofs.Common.{refl, sym, ◌∙◌, arith}
use Rattle.std.proofs.lemmas.Result.{err_from_is_err_and}
use Rattle.replication.proofs.CallOutcomes.{nonzero}
use Rattle.replication_runs.proofs.RunBoth.{short_log, short_desk, short_wall, has_enough, run_short, run_refused, wall_started, run_begins, run_ends}
use Rattle.replication_runs.proofs.run_lists.run_both.Goals as goal
use Rattle.replication_runs.proofs.run_lists.run_both.Goals.{then-not-has_room-via-then-not-has_room, then-not-has_room-via-else-not-has_room+then-desk-lt-MAX_IMAGE_SIZE, then-not-has_room-via-else-not-has_room+else-desk-lt-MAX_IMAGE_SIZE+then-wall-lt-MAX_IMAGE_SIZE}

pub returns-then-not-has_room : goal.returns-then-not-has_room
returns-then-not-has_room c =
    let a = c.args in
    run_short a.image.now a.mark a.entries.now a.order.now a.others.now a.log.now a.desk.now a.wall.now
    (elim c.then-not-has_room.branch [
      | then-not-has_room-via-then-not-has_room w ↦ short_log a.image.now a.mark a.entries.now a.order.now a.others.now a.log.now a.desk.now a.wall.now (sym c.has_room.ensures ∙ w.if-not-has_room.true)
      | then-not-has_room-via-else-not-has_room+then-desk-lt-MAX_IMAGE_SIZE w ↦ short_desk a.image.now a.mark a.entries.now a.order.now a.others.now a.log.now a.desk.now a.wall.now w.if-desk-lt-MAX_IMAGE_SIZE.true
      | then-not-has_room-via-else-not-has_room+else-desk-lt-MAX_IMAGE_SIZE+then-wall-lt-MAX_IMAGE_SIZE w ↦ short_wall a.image.now a.mark a.entries.now a.order.now a.others.now a.log.now a.desk.now a.wall.now w.if-wall-lt-MAX_IMAGE_SIZE.true
    ])
    _ c.first_refusal.ensures

pub returns-in_err-primary : goal.returns-in_err-primary
returns-in_err-primary c =
    let a = c.args in
    let enough = has_enough a.image.now a.mark a.entries.now a.order.now a.others.now a.log.now a.desk.now a.wall.now (sym c.has_room.ensures ∙ c.if-not-has_room.false) c.if-desk-lt-MAX_IMAGE_SIZE.false c.if-wall-lt-MAX_IMAGE_SIZE.false in
    let p = err_from_is_err_and c.from_residual.result c.from_residual.ensures.1 in
    rw (p.1, p.2) (run_refused a.image.now a.mark a.entries.now a.order.now a.others.now a.log.now a.desk.now a.wall.now enough _ _ c.in_err-primary.ensures _ refl)

pub returns-in_err-second : goal.returns-in_err-second
returns-in_err-second c =
    let image-known = c.shared_slice_known-1 in
    let a = c.args in
    let enough = has_enough a.image.now a.mark a.entries.now a.order.now a.others.now a.log.now a.desk.now a.wall.now (sym c.has_room.ensures ∙ c.if-not-has_room.false) c.if-desk-lt-MAX_IMAGE_SIZE.false c.if-wall-lt-MAX_IMAGE_SIZE.false in
    absurd (nonzero _ (wall_started a.image.now a.mark a.entries.now a.order.now a.others.now a.log.now a.desk.now a.wall.now enough _ _ c.in_ok-primary.ensures refl (λ i. (image-known.given i).fits) (omega (arith, c.ranges.mark)) _ _ c.in_err-second.ensures))

pub run_order-last-requires : goal.run_order-last-requires
run_order-last-requires c =
    let image-known = c.shared_slice_known-1 in
    let a = c.args in
    let enough = has_enough a.image.now a.mark a.entries.now a.order.now a.others.now a.log.now a.desk.now a.wall.now (sym c.has_room.ensures ∙ c.if-not-has_room.false) c.if-desk-lt-MAX_IMAGE_SIZE.false c.if-wall-lt-MAX_IMAGE_SIZE.false in
    run_begins a.image.now a.mark a.entries.now a.order.now a.others.now a.log.now a.desk.now a.wall.now enough _ _ c.in_ok-primary.ensures refl (λ i. (image-known.given i).fits) (omega (arith, c.ranges.mark)) _ _ c.in_ok-second.ensures _ c.empty.ensures

pub returns : goal.returns
returns c =
    let image-known = c.shared_slice_known-1 in
    let a = c.args in
    let enough = has_enough a.image.now a.mark a.entries.now a.order.now a.others.now a.log.now a.desk.now a.wall.now (sym c.has_room.ensures ∙ c.if-not-has_room.false) c.if-desk-lt-MAX_IMAGE_SIZE.false c.if-wall-lt-MAX_IMAGE_SIZE.false in
    run_ends a.image.now a.mark a.entries.now a.order.now a.others.now a.log.now a.desk.now a.wall.now enough _ _ c.in_ok-primary.ensures refl (λ i. (image-known.given i).fits) (omega (arith, c.ranges.mark)) _ _ c.in_ok-second.ensures _ _ _ _ c.run_order-last.ensures
