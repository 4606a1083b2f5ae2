-- `apply::write_staying` meets its contract.
use Rattle.std.proofs.Common.{◌≡◌, ℕ, List, [], get_or, length, ◌+◌, ◌*◌, ◌≤◌, ◌<◌, ap, ◌∙◌, arith}
use Rattle.apply.proofs.Turns.{stay, staying_is, stay_long, stays_so, goes_so, all_stay, all_put}
use Rattle.apply.proofs.Walks.{walk_starts, run_fits, walk_runs, walk_drops, walk_ends}
use Rattle.apply.specs.Clauses.{row_bytes}
use Rattle.image.specs.Records.{point_size}
use Rattle.edit_plan.specs.Changes.{orphan_list}
use Rattle.image.specs.Image.{row_id}
use Rattle.rows.proofs.Rows.{length_rows_in}
use Rattle.rows.proofs.Search.{rows_are}
use Rattle.rows.specs.Rows.{rows_in, row_in}
use Rattle.sketch.specs.Lists.{concat_map}
use Rattle.big_endian.specs.Fields.{over}
use Rattle.apply.proofs.points.write_staying.Goals as goal

pub put_rows-requires : goal.put_rows-requires
put_rows-requires c =
    let a = c.args in
    let s = ap length (all_stay a.os a.points.now (c.is_empty.ensures.0 c.if-is_empty.true)) in
    (omega arith, omega (arith, c.as_chunks.ensures.front_len), omega (arith, s, length_rows_in point_size a.points.now, c.as_chunks.ensures.front_len, c.requires))

pub returns-then-is_empty : goal.returns-then-is_empty
returns-then-is_empty c =
    let a = c.args in
    all_put a.os a.points.now a.out.now a.at _ _ _ c.as_chunks.ensures.front_len (c.is_empty.ensures.0 c.if-is_empty.true) c.put_rows.ensures.0 c.put_rows.ensures.1

pub loop-i-init : goal.loop-i-init
loop-i-init c =
    let a = c.args in
    walk_starts (stay (orphan_list a.os)) point_size (rows_in point_size a.points.now) a.out.now a.at

pub put_rows-to-requires : goal.put_rows-to-requires
put_rows-to-requires c =
    let a = c.args in
    let l = c.loop-i in
    let w = l.invariant in
    let os = orphan_list a.os in
    let t = a.points.now in
    let rows = rows_in point_size t in
    let h : a.at + length (concat_map (stay os) rows) * point_size ≤ length a.out.now = rw (staying_is os t) c.requires in
    let f = run_fits (stay os) point_size rows (stay_long os t) a.out.now a.at l.from l.i l.out l.to w h in
    (omega (arith, w.low), omega (arith, c.as_chunks.ensures.front_len), omega (arith, f))

pub loop-i-preserved-then-not-contains : goal.loop-i-preserved-then-not-contains
loop-i-preserved-then-not-contains c =
    let a = c.args in
    let l = c.loop-i in
    let w = l.invariant in
    let os = orphan_list a.os in
    let t = a.points.now in
    let rows = rows_in point_size t in
    let h : a.at + length (concat_map (stay os) rows) * point_size ≤ length a.out.now = rw (staying_is os t) c.requires in
    let i : l.i < length rows = omega (arith, length_rows_in point_size t, c.as_chunks.ensures.front_len) in
    let row : row_id (get_or c.as_chunks.result.0.now l.i []) ≡ row_id (row_in point_size t l.i) = ap (λ (rows : List (List ℕ)). row_id (get_or rows l.i [])) (rows_are point_size t _ c.as_chunks.ensures.front) in
    walk_runs (stay os) point_size rows (stay_long os t) a.out.now a.at l.from l.i l.out l.to w i (stays_so os (row_in point_size t l.i) _ _ (c.get4.ensures ∙ row) c.contains.ensures c.if-not-contains.true)

pub loop-i-preserved : goal.loop-i-preserved
loop-i-preserved c =
    let a = c.args in
    let l = c.loop-i in
    let w = l.invariant in
    let os = orphan_list a.os in
    let t = a.points.now in
    let rows = rows_in point_size t in
    let h : a.at + length (concat_map (stay os) rows) * point_size ≤ length a.out.now = rw (staying_is os t) c.requires in
    let i : l.i < length rows = omega (arith, length_rows_in point_size t, c.as_chunks.ensures.front_len) in
    let row : row_id (get_or c.as_chunks.result.0.now l.i []) ≡ row_id (row_in point_size t l.i) = ap (λ (rows : List (List ℕ)). row_id (get_or rows l.i [])) (rows_are point_size t _ c.as_chunks.ensures.front) in
    walk_drops (stay os) point_size rows (stay_long os t) a.out.now a.at l.from l.i l.out l.to w _ _ _ (omega arith) i h (goes_so os (row_in point_size t l.i) _ _ (c.get4.ensures ∙ row) c.contains.ensures c.if-not-contains.false) c.put_rows-to.ensures.0 c.put_rows-to.ensures.1

pub put_rows-requires-2 : goal.put_rows-requires-2
put_rows-requires-2 c =
    let a = c.args in
    let l = c.loop-i in
    let w = l.invariant in
    let os = orphan_list a.os in
    let t = a.points.now in
    let rows = rows_in point_size t in
    let h : a.at + length (concat_map (stay os) rows) * point_size ≤ length a.out.now = rw (staying_is os t) c.requires in
    let f = run_fits (stay os) point_size rows (stay_long os t) a.out.now a.at l.from l.i l.out l.to w h in
    (omega (arith, w.low), omega (arith, c.as_chunks.ensures.front_len), omega (arith, f))

pub shape_of-out : goal.shape_of-out
shape_of-out c = omega (arith, c.loop-i.invariant.long)

pub returns : goal.returns
returns c =
    let a = c.args in
    let l = c.loop-i in
    let w = l.invariant in
    let os = orphan_list a.os in
    let t = a.points.now in
    let rows = rows_in point_size t in
    let h : a.at + length (concat_map (stay os) rows) * point_size ≤ length a.out.now = rw (staying_is os t) c.requires in
    let n : length rows ≤ l.i = omega (arith, length_rows_in point_size t, c.as_chunks.ensures.front_len) in
    let q = walk_ends (stay os) point_size rows (stay_long os t) a.out.now a.at l.from l.i l.out l.to w _ _ _ (omega arith) n (omega arith) c.put_rows-2.ensures.0 c.put_rows-2.ensures.1 in
    (q.0 ∙ ap (λ x. over a.out.now a.at (row_bytes x)) (staying_is os t), q.1 ∙ ap (λ x. a.at + length x * point_size) (staying_is os t))
