use Rattle.std.proofs.Common.{◌≡◌, subst, sym, Option, ℕ, arith, rules}
use Rattle.std.proofs.lemmas.Fn.{always_returns_same}
use Rattle.sketch.specs.Lookup.{FoundAt}
use Rattle.image.specs.Image.{row_id}
use Rattle.rows.specs.Rows.{ids_in}
use Rattle.rows.proofs.Search.{found_row}
use Rattle.rows.proofs.places.bisected_place.Goals as goal

pub as_chunks-requires : goal.as_chunks-requires
as_chunks-requires g c = omega arith

pub binary_search_by_key-requires-room-F-FnMut : goal.binary_search_by_key-requires-room-F-FnMut
binary_search_by_key-requires-room-F-FnMut g c = λ κs. omega arith

pub binary_search_by_key-requires-room-F-FnOnce : goal.binary_search_by_key-requires-room-F-FnOnce
binary_search_by_key-requires-room-F-FnOnce g c = λ κs. omega arith

pub returns : goal.returns
returns g c =
    let a = c.args in
    let b = c.binary_search_by_key.ensures in
    subst (λ (r : Option ℕ). FoundAt a.id (ids_in g.row.SIZE a.t.now) r) (sym c.ok.ensures.value)
    (found_row g.row.SIZE a.t.now _ c.as_chunks.ensures.front a.id _ b.bound (b.position row_id (always_returns_same _ (λ a r. r ≡ row_id a.0.now) _ (λ a r f k. search rules))))
