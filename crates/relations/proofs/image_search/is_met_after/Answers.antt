-- `relations::is_met_after` meets its contract.
use Rattle.sketch_geometry.specs.Positions.{points_after_move}
use Rattle.std.proofs.Common.{Some}
use Rattle.relations.proofs.RowSearch.{met_in_image}
use Rattle.relations.proofs.image_search.is_met_after.Goals as goal

pub returns : goal.returns
unfolding points_after_move
returns c =
    let a = c.args in
    λ e. met_in_image _ e a.t.now.own_points a.t.now.own_curves (Some (record { point = a.p; to = a.v })) a.relation c.is_met.ensures
