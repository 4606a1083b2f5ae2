use Rattle.bernstein.proofs.OrderWalks.{tidied}
use Rattle.bernstein.proofs.sort_dedup.sort_dedup.Goals as goal

pub returns : goal.returns
returns c = tidied _ _ _ _ _ c.sort.ensures c.dedup.ensures.0 c.dedup.ensures.1
