use Rattle.std.proofs.Common.{◌∙◌, refl, set, sym, ap, Option}
use Rattle.write_txn.specs.Ledger.{State, lacks_nothing, state_with}
use Rattle.write_txn.proofs.SameTxn.{with_keeps}
use Rattle.write_txn.proofs.Taken.{known, stay_placed, stay_becomes}
use Rattle.write_txn.proofs.steps.count_early_in.Goals as goal

pub returns-clause-placed : goal.returns-clause-placed
returns-clause-placed c =
    stay_placed c.args.statuses.now c.args.under_way.now.items c.args.txn c.in-Some.place c.index_mut.result.now c.requires c.in-Some.ensures c.index_mut.ensures.value
    (state_with c.args.missing) (with_keeps c.args.missing) (set c.args.under_way.now.items c.in-Some.place c.count.new.held) c.count.new.held refl c.count.ensures

pub returns-clause-counted : goal.returns-clause-counted
returns-clause-counted c = λ quiet.
    stay_becomes c.args.statuses.now c.args.under_way.now.items c.args.txn c.in-Some.place c.index_mut.result.now c.requires c.in-Some.ensures c.index_mut.ensures.value
    (state_with c.args.missing) (set c.args.under_way.now.items c.in-Some.place c.count.new.held) c.count.new.held refl c.count.ensures

pub returns-clause-last : goal.returns-clause-last
returns-clause-last c =
    sym c.if-is_last.false ∙ c.is_last.ensures
    ∙ ap (λ (s : Option State). lacks_nothing (state_with c.args.missing s))
    (sym (known c.args.statuses.now c.args.under_way.now.items c.args.txn c.in-Some.place c.index.result.now c.requires c.in-Some.ensures c.index.ensures))
