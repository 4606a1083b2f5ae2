-- The contract of a private function, which nothing outside needs: the answer written.
use Rattle.std.specs.Prelude.{ℕ, List, set}
use Rattle.edit_plan.specs.declared.Removed.{Removed}

-- a count, a size and a report
abbrev pub answer_with : List ℕ → ℕ → ℕ → Removed → List ℕ
answer_with a count size r = set (set (set (set (set a 0 count) 1 size) 2 r.curve) 3 r.from) 4 r.to
