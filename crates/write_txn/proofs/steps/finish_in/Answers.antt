use Rattle.std.proofs.Common.{arith}
use Rattle.txn_state.specs.Prepared.{PreparedValue}
use Rattle.write_txn.specs.Ledger.{state_applied, part_in}
use Rattle.write_txn.proofs.SameTxn.{part_own, applied_keeps}
use Rattle.write_txn.proofs.Taken.{inside, step_placed, step_becomes, answer_known, answer_own}
use Rattle.write_txn.proofs.steps.finish_in.Goals as goal

pub put-requires-clause-place : goal.put-requires-clause-place
put-requires-clause-place c =
    omega (arith, c.swap_remove-held.ensures.len, inside c.args.statuses.now c.args.under_way.now.items c.args.txn c.in-Some.place c.swap_remove-held.result c.requires c.in-Some.ensures c.swap_remove-held.ensures.value)

pub returns-in-Some-clause-placed : goal.returns-in-Some-clause-placed
returns-in-Some-clause-placed c =
    step_placed c.args.statuses.now c.args.under_way.now.items c.args.txn c.in-Some.place c.swap_remove-held.result c.requires c.in-Some.ensures c.swap_remove-held.ensures.value
    state_applied applied_keeps c.swap_remove-held.new.self.items c.put.new.statuses c.put.new.under_way.items c.finished-next.result.0 c.swap_remove-held.ensures.items c.finished-next.ensures.next c.put.ensures

pub returns-in-Some-clause-becomes : goal.returns-in-Some-clause-becomes
returns-in-Some-clause-becomes c =
    step_becomes c.args.statuses.now c.args.under_way.now.items c.args.txn c.in-Some.place c.swap_remove-held.result c.requires c.in-Some.ensures c.swap_remove-held.ensures.value
    state_applied c.swap_remove-held.new.self.items c.put.new.statuses c.put.new.under_way.items c.finished-next.result.0 c.swap_remove-held.ensures.items c.finished-next.ensures.next c.put.ensures

pub returns-in-Some-clause-part : goal.returns-in-Some-clause-part
returns-in-Some-clause-part c =
    answer_known c.args.statuses.now c.args.under_way.now.items c.args.txn c.in-Some.place c.swap_remove-held.result c.requires c.in-Some.ensures c.swap_remove-held.ensures.value
    part_in c.finished-next.result.1 c.finished-next.ensures.part

pub returns-in-Some-clause-own : goal.returns-in-Some-clause-own
returns-in-Some-clause-own c =
    answer_own c.args.statuses.now c.args.under_way.now.items c.args.txn c.in-Some.place c.swap_remove-held.result c.requires c.in-Some.ensures c.swap_remove-held.ensures.value
    part_in (λ (x : PreparedValue). x.part.writer.txn) part_own c.finished-next.result.1 c.finished-next.ensures.part
