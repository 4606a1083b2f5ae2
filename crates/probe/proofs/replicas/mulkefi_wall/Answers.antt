use Rattle.std.proofs.Common.{ℕ, List, subst, rules}
use Rattle.wall_program.specs.Program.{program_outcome, WritesOutcome}
use Rattle.probe.proofs.ReplicaSums.{read_front}
use Rattle.probe.proofs.replicas.mulkefi_wall.Goals as goal

pub returns : goal.returns
returns c =
    let e = read_front c.args.input.now c.min.result (λ h. search rules) (λ h. search rules) in
    subst (λ (l : List ℕ). WritesOutcome (program_outcome l) c.args.out.now c.run_program.new.out c.run_program.result) e c.run_program.ensures
