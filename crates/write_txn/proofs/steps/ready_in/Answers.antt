use Rattle.std.proofs.lemmas.Grind.{elements}
use Rattle.std.proofs.Common.{arith}
use Rattle.txn_state.specs.Ballot.{CompleteValue}
use Rattle.write_txn.specs.Ledger.{state_ready, readied_by}
use Rattle.write_txn.proofs.SameTxn.{ready_own, ready_keeps}
use Rattle.write_txn.proofs.Taken.{inside, step_placed, step_becomes, answer_known, answer_own}
use Rattle.write_txn.proofs.steps.ready_in.Goals as goal

pub put-requires-clause-place : goal.put-requires-clause-place
put-requires-clause-place c =
    omega (arith, c.swap_remove-held.ensures.len, inside c.args.statuses.now c.args.under_way.now.items c.args.txn c.in-Some.place c.swap_remove-held.result c.requires c.in-Some.ensures c.swap_remove-held.ensures.value)

pub returns-in-Some-clause-placed : goal.returns-in-Some-clause-placed
returns-in-Some-clause-placed c =
    step_placed c.args.statuses.now c.args.under_way.now.items c.args.txn c.in-Some.place c.swap_remove-held.result c.requires c.in-Some.ensures c.swap_remove-held.ensures.value
    (state_ready c.args.time) (ready_keeps c.args.time) c.swap_remove-held.new.self.items c.put.new.statuses c.put.new.under_way.items c.readied-next.result.0 c.swap_remove-held.ensures.items c.readied-next.ensures.next c.put.ensures

pub returns-in-Some-clause-becomes : goal.returns-in-Some-clause-becomes
returns-in-Some-clause-becomes c =
    step_becomes c.args.statuses.now c.args.under_way.now.items c.args.txn c.in-Some.place c.swap_remove-held.result c.requires c.in-Some.ensures c.swap_remove-held.ensures.value
    (state_ready c.args.time) c.swap_remove-held.new.self.items c.put.new.statuses c.put.new.under_way.items c.readied-next.result.0 c.swap_remove-held.ensures.items c.readied-next.ensures.next c.put.ensures

pub returns-in-Some-clause-complete : goal.returns-in-Some-clause-complete
returns-in-Some-clause-complete c =
    answer_known c.args.statuses.now c.args.under_way.now.items c.args.txn c.in-Some.place c.swap_remove-held.result c.requires c.in-Some.ensures c.swap_remove-held.ensures.value
    (readied_by c.args.time) c.readied-next.result.1 c.readied-next.ensures.complete

pub returns-in-Some-clause-own : goal.returns-in-Some-clause-own
returns-in-Some-clause-own c =
    answer_own c.args.statuses.now c.args.under_way.now.items c.args.txn c.in-Some.place c.swap_remove-held.result c.requires c.in-Some.ensures c.swap_remove-held.ensures.value
    (readied_by c.args.time) (λ (x : CompleteValue). x.own.part.writer.txn) (ready_own c.args.time) c.readied-next.result.1 c.readied-next.ensures.complete

pub swap_remove-held-requires : goal.swap_remove-held-requires
swap_remove-held-requires c = grind (arith, elements)
