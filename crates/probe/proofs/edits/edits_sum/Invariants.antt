use Rattle.std.proofs.Common.{◌≡◌, length}
use Rattle.image.specs.Image.{image_fault, drawing_of}
use Rattle.probe.specs.Edits.{edit_adds, repeated}
use Rattle.probe.proofs.edits.edits_sum.Given as goal

abbrev pub invariant-loop-i : goal.invariant-loop-i
invariant-loop-i l = (length l.out ≡ 21135) × (image_fault l.bytes ≡ 0 → l.sum ≡ repeated l.i (edit_adds l.operation (drawing_of l.bytes) l.curve l.at))
