-- What an edit of a sketch answers, with the number of its refusal. Definitions only.
use Rattle.std.specs.Prelude.{Result, Ok, Err}
use Rattle.refusal.specs.declared.Refusal.{Refusal}
use Rattle.refusal.specs.Refusals.{number, place}
use Rattle.sketch.specs.declared.Sketch.{Sketch}
use Rattle.edit_plan.specs.Edited as E
use Rattle.edit_plan.specs.Steps.{nothing}
use Rattle.modify.specs.declared.Edited.{Edited}

-- a refused edit leaves the sketch that was given, and reports nothing
abbrev pub edited_of : Sketch → Result Edited Refusal → E.Edited
edited_of s (Ok e) = record { sketch = e.sketch; refusal = 0; place = 0; removed = e.removed }
edited_of s (Err r) = record { sketch = s; refusal = number r; place = place r; removed = nothing }
