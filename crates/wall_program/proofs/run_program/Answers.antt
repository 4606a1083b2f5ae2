-- `wall_program::run_program` meets its contract.
use Rattle.std.proofs.Common.{take, drop, ℕ, ◌+◌, refl, rules}
use Rattle.replication.proofs.CallOutcomes.{nonzero}
use Rattle.wall_program.proofs.Program.{by_length, outcome_refused, program_start, program_outcome_lem}
use Rattle.big_endian.specs.Fields.{field}
use Rattle.message.specs.Message.{mark_size}
use Rattle.wall_program.proofs.run_program.Goals as goal

pub returns-in-Err : goal.returns-in-Err
returns-in-Err c = let s = c.args.input.now in let n = c.get4.ensures in outcome_refused s _ _ (by_length (λ (k : ℕ). take (4 + k) s) n c.front.ensures) (by_length (λ (k : ℕ). field s (4 + k) mark_size) n c.get8.ensures) _ _ _ c.in-Err.ensures (search rules) (nonzero _) _ c.number.ensures _ _ _ c.write_bytes.ensures

pub deliver_all-last-requires : goal.deliver_all-last-requires
deliver_all-last-requires c = let s = c.args.input.now in let n = c.get4.ensures in (program_start s _ _ (by_length (λ (k : ℕ). take (4 + k) s) n c.front.ensures) (by_length (λ (k : ℕ). field s (4 + k) mark_size) n c.get8.ensures) _ _ _ c.in-Ok.ensures refl (λ k. (c.type_inv.input k).fits)).ready

pub returns : goal.returns
returns c = let s = c.args.input.now in let n = c.get4.ensures in program_outcome_lem s _ _ (by_length (λ (k : ℕ). take (4 + k) s) n c.front.ensures) (by_length (λ (k : ℕ). field s (4 + k) mark_size) n c.get8.ensures) _ _ _ c.in-Ok.ensures refl (λ k. (c.type_inv.input k).fits) _ (by_length (λ (k : ℕ). drop (4 + k + mark_size) s) n c.rest.ensures) _ c.deliver_all-last.ensures _ c.front-2.ensures _ _ _ c.write_bytes-2.ensures
