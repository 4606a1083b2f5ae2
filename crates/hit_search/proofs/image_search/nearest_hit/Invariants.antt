use Rattle.std.proofs.Common.{List}
use Rattle.sketch.specs.declared.Point.{Point}
use Rattle.rows.specs.Rows.{curves_in, HoldsPoints}
use Rattle.hit_search.specs.Values.{support_in, best_in}
use Rattle.hit_search.proofs.CurveHits.{Sweep}
use Rattle.hit_search.proofs.image_search.nearest_hit.Given as goal

abbrev pub invariant-loop-i : goal.invariant-loop-i
invariant-loop-i l =
    (ps : List Point) → HoldsPoints ps l.t.points.now → Sweep ps (support_in l.line) l.foot l.id (curves_in l.t.curves.now) l.i (best_in l.so_far.best) l.so_far.budget
