-- What an edit answers: the sketch that it leaves, the number of a refusal with its place, and what it removed. Definitions only.
use Rattle.std.specs.Prelude.{ℕ}
use Rattle.sketch.specs.declared.Sketch.{Sketch}
use Rattle.edit_plan.specs.declared.Removed.{Removed}

-- Where it is refused, by a number other than 0, the sketch is the one it was given. A place comes with the numbers 13 and 19: that of
-- the first relation that is not met, with 19 in the table that the edit would have left.
pub record Edited : Type 0 where
  pub sketch : Sketch
  pub refusal : ℕ
  pub place : ℕ
  pub removed : Removed
