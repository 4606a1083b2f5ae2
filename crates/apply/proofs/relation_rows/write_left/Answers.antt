-- `apply::write_left` meets its contract.
use Rattle.std.proofs.Common.{◌≡◌, ℕ, List, [], true, map, get_or, subst, ap, length, ◌+◌, ◌*◌, ◌≤◌, ◌<◌, sym, ◌∙◌, arith}
use Rattle.apply.proofs.Parts.{left_put}
use Rattle.apply.proofs.Turns.{lefts_long, left_stays, left_count}
use Rattle.apply.proofs.Walks.{walk_starts, run_fits, walk_runs, walk_writes, row_fits, walk_ends}
use Rattle.apply.specs.Clauses.{row_bytes, concerned, left_row, left_rows}
use Rattle.image.specs.Records.{relation_size}
use Rattle.edit_plan.specs.Changes.{orphan_list}
use Rattle.big_endian.specs.Fields.{over}
use Rattle.image.specs.Decode.{read_relation}
use Rattle.image.specs.Encode.{encode_relation}
use Rattle.edit_plan.specs.Changes.{left_of}
use Rattle.rows.proofs.Rows.{length_rows_in}
use Rattle.rows.proofs.Search.{rows_are}
use Rattle.rows.specs.Rows.{rows_in, row_in}
use Rattle.sketch.specs.Lists.{concat_map}
use Rattle.apply.proofs.relation_rows.write_left.Goals as goal

pub loop-i-init : goal.loop-i-init
loop-i-init c =
    let a = c.args in
    walk_starts (left_row a.e (orphan_list a.os)) relation_size (rows_in relation_size a.relations.now) a.out.now a.at

pub put_rows-to-requires : goal.put_rows-to-requires
unfolding left_rows
put_rows-to-requires c =
    let a = c.args in
    let l = c.loop-i in
    let w = l.invariant in
    let os = orphan_list a.os in
    let t = a.relations.now in
    let rows = rows_in relation_size t in
    let h : a.at + length (concat_map (left_row a.e os) rows) * relation_size ≤ length a.out.now = c.requires in
    let f = run_fits (left_row a.e os) relation_size rows (lefts_long a.e os t) a.out.now a.at l.from l.i l.out l.to w h in
    (omega (arith, w.low), omega (arith, c.as_chunks.ensures.front_len), omega (arith, f))

pub write_kept-to-requires : goal.write_kept-to-requires
unfolding left_rows
write_kept-to-requires c =
    let a = c.args in
    let l = c.loop-i in
    let w = l.invariant in
    let os = orphan_list a.os in
    let t = a.relations.now in
    let rows = rows_in relation_size t in
    let h : a.at + length (concat_map (left_row a.e os) rows) * relation_size ≤ length a.out.now = c.requires in
    let i : l.i < length rows = omega (arith, length_rows_in relation_size t, c.as_chunks.ensures.front_len) in
    let f = row_fits (left_row a.e os) relation_size rows (lefts_long a.e os t) a.out.now a.at l.from l.i l.out l.to w i h in
    let row : get_or c.as_chunks.result.0.now l.i [] ≡ row_in relation_size t l.i = ap (λ (rows : List (List ℕ)). get_or rows l.i []) (rows_are relation_size t _ c.as_chunks.ensures.front) in
    let seen : concerned a.e os (row_in relation_size t l.i) ≡ true = ap (concerned a.e os) (sym row) ∙ sym c.is_concerned.ensures ∙ c.if-not-is_concerned.false in
    let k = ap (λ r. length (left_of a.e os (read_relation r))) row ∙ left_count a.e os (row_in relation_size t l.i) seen in
    omega (arith, f, k, c.put_rows-to.ensures.1, w.long)

pub loop-i-preserved-then-not-is_concerned : goal.loop-i-preserved-then-not-is_concerned
unfolding left_rows
loop-i-preserved-then-not-is_concerned c =
    let a = c.args in
    let l = c.loop-i in
    let w = l.invariant in
    let os = orphan_list a.os in
    let t = a.relations.now in
    let rows = rows_in relation_size t in
    let h : a.at + length (concat_map (left_row a.e os) rows) * relation_size ≤ length a.out.now = c.requires in
    let i : l.i < length rows = omega (arith, length_rows_in relation_size t, c.as_chunks.ensures.front_len) in
    let row : get_or c.as_chunks.result.0.now l.i [] ≡ row_in relation_size t l.i = ap (λ (rows : List (List ℕ)). get_or rows l.i []) (rows_are relation_size t _ c.as_chunks.ensures.front) in
    walk_runs (left_row a.e os) relation_size rows (lefts_long a.e os t) a.out.now a.at l.from l.i l.out l.to w i (left_stays a.e os (row_in relation_size t l.i) (ap (concerned a.e os) (sym row) ∙ sym c.is_concerned.ensures ∙ c.if-not-is_concerned.true))

pub loop-i-preserved : goal.loop-i-preserved
unfolding left_rows
loop-i-preserved c =
    let a = c.args in
    let l = c.loop-i in
    let w = l.invariant in
    let os = orphan_list a.os in
    let t = a.relations.now in
    let rows = rows_in relation_size t in
    let h : a.at + length (concat_map (left_row a.e os) rows) * relation_size ≤ length a.out.now = c.requires in
    let i : l.i < length rows = omega (arith, length_rows_in relation_size t, c.as_chunks.ensures.front_len) in
    let row : get_or c.as_chunks.result.0.now l.i [] ≡ row_in relation_size t l.i = ap (λ (rows : List (List ℕ)). get_or rows l.i []) (rows_are relation_size t _ c.as_chunks.ensures.front) in
    let seen : concerned a.e os (row_in relation_size t l.i) ≡ true = ap (concerned a.e os) (sym row) ∙ sym c.is_concerned.ensures ∙ c.if-not-is_concerned.false in
    let q = subst (λ r. (c.write_kept-to.new.out ≡ over c.put_rows-to.new.out c.put_rows-to.result (row_bytes (map encode_relation (left_of a.e os (read_relation r))))) × (c.write_kept-to.result ≡ c.put_rows-to.result + length (left_of a.e os (read_relation r)) * relation_size)) row c.write_kept-to.ensures in
    let p = left_put a.e os (row_in relation_size t l.i) _ _ _ _ seen q.0 q.1 in
    walk_writes (left_row a.e os) relation_size rows (lefts_long a.e os t) a.out.now a.at l.from l.i l.out l.to w _ _ _ _ _ (omega arith) i h c.put_rows-to.ensures.0 c.put_rows-to.ensures.1 p.0 p.1

pub put_rows-requires : goal.put_rows-requires
unfolding left_rows
put_rows-requires c =
    let a = c.args in
    let l = c.loop-i in
    let w = l.invariant in
    let os = orphan_list a.os in
    let t = a.relations.now in
    let rows = rows_in relation_size t in
    let h : a.at + length (concat_map (left_row a.e os) rows) * relation_size ≤ length a.out.now = c.requires in
    let f = run_fits (left_row a.e os) relation_size rows (lefts_long a.e os t) a.out.now a.at l.from l.i l.out l.to w h in
    (omega (arith, w.low), omega (arith, c.as_chunks.ensures.front_len), omega (arith, f))

pub shape_of-out : goal.shape_of-out
shape_of-out c = omega (arith, c.loop-i.invariant.long)

pub returns : goal.returns
unfolding left_rows
returns c =
    let a = c.args in
    let l = c.loop-i in
    let w = l.invariant in
    let os = orphan_list a.os in
    let t = a.relations.now in
    let rows = rows_in relation_size t in
    let h : a.at + length (concat_map (left_row a.e os) rows) * relation_size ≤ length a.out.now = c.requires in
    let n : length rows ≤ l.i = omega (arith, length_rows_in relation_size t, c.as_chunks.ensures.front_len) in
    walk_ends (left_row a.e os) relation_size rows (lefts_long a.e os t) a.out.now a.at l.from l.i l.out l.to w _ _ _ (omega arith) n (omega arith) c.put_rows.ensures.0 c.put_rows.ensures.1
