-- `report::by_outcome` writes text before each refusal.
use denote.Shadow.{shadow}
use denote.Text.{Utf8}
use Rattle.replay.proofs.report.by_outcome.Given as goal

abbrev pub invariant-loop-refusal : goal.invariant-loop-refusal
invariant-loop-refusal g l = shadow (Utf8 l.words)
