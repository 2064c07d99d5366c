use Rattle.std.proofs.Common.{arith, refl, set}
use Rattle.std.proofs.lemmas.Grind.{elements}
use Rattle.write_txn.specs.Ledger.{state_with}
use Rattle.write_txn.proofs.SameTxn.{with_keeps}
use Rattle.write_txn.proofs.Taken.{stay_placed, stay_becomes}
use Rattle.write_txn.proofs.steps.count_in.Goals as goal

pub returns-in-Some-clause-placed : goal.returns-in-Some-clause-placed
returns-in-Some-clause-placed c =
    stay_placed c.args.statuses.now c.args.under_way.now.items c.args.txn c.in-Some.place c.index_mut.result.now c.requires c.in-Some.ensures c.index_mut.ensures.value
    (state_with c.args.missing) (with_keeps c.args.missing) (set c.args.under_way.now.items c.in-Some.place c.count.new.held) c.count.new.held refl c.count.ensures

pub returns-in-Some-clause-becomes : goal.returns-in-Some-clause-becomes
returns-in-Some-clause-becomes c =
    stay_becomes c.args.statuses.now c.args.under_way.now.items c.args.txn c.in-Some.place c.index_mut.result.now c.requires c.in-Some.ensures c.index_mut.ensures.value
    (state_with c.args.missing) (set c.args.under_way.now.items c.in-Some.place c.count.new.held) c.count.new.held refl c.count.ensures

pub index_mut-requires : goal.index_mut-requires
index_mut-requires c = grind (arith, elements)
