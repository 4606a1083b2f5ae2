-- The values of the search as definitions see them. Definitions only.
use Rattle.std.specs.Prelude.{Bool, Result, Ok, Err}
use Rattle.std.specs.Prelude as R
use Rattle.std.proofs.Math.Option.{Option, some, none}
use Rattle.geom.specs.declared.Vec2.{Vec2}
use Rattle.refusal.specs.declared.Refusal.{Refusal}
use Rattle.refusal.specs.Refusals.{number}
use Rattle.hit_search.specs.declared.Nearest.{Nearest}
use Rattle.hit_search.specs.declared.SupportLine.{SupportLine}
use Rattle.hit_search.specs.NearestHit.{Support, Best, Search, stopped, finished}

abbrev pub support : Vec2 → Vec2 → Bool → Support
support a b at_b = record { a = a; b = b; at_b = at_b }

abbrev pub support_in : SupportLine → Support
support_in l = support l.a l.b l.at_b

abbrev pub some_best : Nearest → Option Best
some_best n = some record { gap = n.gap; at = n.at; by = n.by; tied = n.tied }

abbrev pub best_in : R.Option Nearest → Option Best
best_in R.None = none
best_in (R.Some n) = some_best n

abbrev pub search_in : Result (R.Option Nearest) Refusal → Search
search_in (Err r) = stopped (number r)
search_in (Ok best) = finished (best_in best)
