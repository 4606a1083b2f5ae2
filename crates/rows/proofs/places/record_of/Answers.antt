use Rattle.std.proofs.Common.{subst, sym, ap, ◌∙◌, List, ℕ}
use Rattle.image.specs.Image.{row_id}
use Rattle.rows.specs.Rows.{RecordOf}
use Rattle.rows.proofs.RecordById.{record_taken}
use Rattle.rows.proofs.places.record_of.Goals as goal

pub returns-in-Some : goal.returns-in-Some
returns-in-Some g c =
    let a = c.args in
    let w = c.in-Some.ensures.lookup.0 in
    subst (λ (r : List ℕ). RecordOf g.row.SIZE a.t.now a.id r) (sym w.2)
    (record_taken g.row.SIZE a.t.now a.id c.guess_of-at.result c.requires.0 w.1 (ap row_id (sym w.2) ∙ sym c.get4.ensures ∙ c.if-get4-id.true))
