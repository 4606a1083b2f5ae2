use Rattle.std.proofs.Common.{◌≡◌, List, length}
use Rattle.sketch.specs.declared.Point.{Point}
use Rattle.rows.specs.Rows.{HoldsPoints}
use Rattle.hit_search.proofs.CurveHits.{Front}
use Rattle.hit_search.proofs.image_hits.controls.Given as goal

abbrev pub invariant-loop-i : goal.invariant-loop-i
invariant-loop-i l = (length l.xs ≡ 8) × (length l.ys ≡ 8) × ((ps : List Point) → HoldsPoints ps l.t.points.now → Front ps l.slots l.xs l.ys l.i)
