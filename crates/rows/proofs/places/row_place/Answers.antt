use Rattle.std.proofs.Common.{sym, ap, ◌∙◌, arith}
use Rattle.image.specs.Image.{row_id}
use Rattle.rows.proofs.Search.{row_read}
use Rattle.rows.proofs.Rows.{found_at_row}
use Rattle.rows.proofs.places.row_place.Goals as goal

pub as_chunks-requires : goal.as_chunks-requires
as_chunks-requires g c = omega arith

pub returns-then-get4-id : goal.returns-then-get4-id
returns-then-get4-id g c =
    let a = c.args in
    let i = c.guess_of-guess.result in
    let e = row_read g.row.SIZE a.t.now _ c.as_chunks.ensures.front i _ c.if-guess-rows.true c.index-rows-guess.is in
    found_at_row g.row.SIZE a.t.now i (omega (arith, c.as_chunks.ensures.front_len)) a.id (ap row_id (sym e) ∙ sym c.get4.ensures ∙ c.if-get4-id.true)
