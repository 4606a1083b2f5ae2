use Rattle.cuts.proofs.Among.{from_first, from_second}
use Rattle.cuts.proofs.gather.candidate_at.Goals as goal

pub returns-then-k-first : goal.returns-then-k-first
returns-then-k-first c = from_first c.args.c c.args.d _ _ _ c.count-first.ensures c.if-k-first.true c.nth.ensures

pub returns : goal.returns
returns c = from_second c.args.c c.args.d _ _ _ c.count-first.ensures c.if-k-first.false c.requires c.nth-2.ensures
