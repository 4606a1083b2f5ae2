use Rattle.probe.proofs.numbers.mulkefi_turn.Goals as goal

pub returns : goal.returns
returns c = simp (c.turn.ensures, c.new.ensures)
