use Rattle.std.proofs.Common.{◌≡◌}
use Rattle.support.specs.Pieces.{zip_points}
use Rattle.hit_search.specs.NearestHit.{best_of}
use Rattle.hit_search.specs.Values.{support_in, best_in}
use Rattle.hit_search.proofs.search.best_along.Given as goal

-- the best of all is the best of what is left, after the best so far
abbrev pub invariant-loop-x : goal.invariant-loop-x
invariant-loop-x l = best_of (support_in l.line) l.by (best_in l.fn.best) (zip_points l.hx l.hy) ≡ best_of (support_in l.line) l.by (best_in l.nearest) (zip_points l.x-iterator.a.rest.now l.x-iterator.b.rest.now)
