-- `probe::catching_up::mulkefi_catch_up_repeated` meets its contract. The invariant: the sum of those so far.
use Rattle.std.proofs.Common.{◌≡◌, length}
use Rattle.probe.specs.Edits.{repeated}
use Rattle.window.specs.Window.{window_size, catch_up_fault}
use Rattle.probe.proofs.catching_up.mulkefi_catch_up_repeated.Given as goal

abbrev pub invariant-loop-i : goal.invariant-loop-i
invariant-loop-i l = (length l.messages ≡ window_size) × (l.sum ≡ repeated l.i (catch_up_fault l.mark l.window l.count l.wall window_size))
