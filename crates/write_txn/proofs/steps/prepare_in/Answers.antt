use Rattle.std.proofs.Common.{arith}
use Rattle.write_txn.specs.Ledger.{state_prepared}
use Rattle.write_txn.proofs.SameTxn.{prepared_keeps}
use Rattle.write_txn.proofs.Taken.{inside, back_is_set, stay_placed, stay_becomes}
use Rattle.write_txn.proofs.steps.prepare_in.Goals as goal

pub put_back-requires-clause-place : goal.put_back-requires-clause-place
put_back-requires-clause-place c =
    omega (arith, c.swap_remove-held.ensures.len, inside c.args.statuses.now c.args.under_way.now.items c.args.txn c.in-Some.place c.swap_remove-held.result c.requires c.in-Some.ensures c.swap_remove-held.ensures.value)

pub returns-in-Some-clause-placed : goal.returns-in-Some-clause-placed
returns-in-Some-clause-placed c =
    stay_placed c.args.statuses.now c.args.under_way.now.items c.args.txn c.in-Some.place c.swap_remove-held.result c.requires c.in-Some.ensures c.swap_remove-held.ensures.value
    (state_prepared c.args.time) (prepared_keeps c.args.time) c.put_back.new.under_way.items c.prepared.result
    (back_is_set c.args.statuses.now c.args.under_way.now.items c.args.txn c.in-Some.place c.swap_remove-held.result c.requires c.in-Some.ensures c.swap_remove-held.ensures.value c.swap_remove-held.new.self.items c.put_back.new.under_way.items c.prepared.result c.swap_remove-held.ensures.items c.put_back.ensures) c.prepared.ensures

pub returns-in-Some-clause-becomes : goal.returns-in-Some-clause-becomes
returns-in-Some-clause-becomes c =
    stay_becomes c.args.statuses.now c.args.under_way.now.items c.args.txn c.in-Some.place c.swap_remove-held.result c.requires c.in-Some.ensures c.swap_remove-held.ensures.value
    (state_prepared c.args.time) c.put_back.new.under_way.items c.prepared.result
    (back_is_set c.args.statuses.now c.args.under_way.now.items c.args.txn c.in-Some.place c.swap_remove-held.result c.requires c.in-Some.ensures c.swap_remove-held.ensures.value c.swap_remove-held.new.self.items c.put_back.new.under_way.items c.prepared.result c.swap_remove-held.ensures.items c.put_back.ensures) c.prepared.ensures
