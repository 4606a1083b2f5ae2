use Rattle.std.proofs.Common.{sym, ◌∙◌, inl, inr}
use Rattle.hit_search.proofs.NearestHit.{best_at_end}
use Rattle.hit_search.proofs.search.best_along.Goals as goal

pub returns : goal.returns
returns c = sym (c.loop-x.invariant ∙ elim c.in-None.ensures.steps [ inl h ↦ best_at_end _ _ _ _ _ (inl h.1.0) | inr h ↦ best_at_end _ _ _ _ _ (inr h.1.0) ])
