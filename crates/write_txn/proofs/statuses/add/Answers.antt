use Rattle.std.proofs.Common.{◌∙◌, sym, ap, refl, Some}
use Rattle.std.specs.Option.{option_copied_mut}
use Rattle.std.proofs.lemmas.Result.{on_ok_weaker, on_err_weaker}
use Rattle.write_txn.proofs.Blocks.{slots_are, replaced_at, same_in}
use Rattle.write_txn.proofs.statuses.add.Goals as goal

pub returns-in-Some-clause-ok : goal.returns-in-Some-clause-ok
returns-in-Some-clause-ok c =
    let bs = c.args.blocks.now.entries in
    let has = sym c.get_mut.ensures.value ∙ ap option_copied_mut c.in-Some.is in
    on_ok_weaker c.add.result (λ each u.
    replaced_at bs (c.get_mut.follows.lender c.add.new.self).entries c.args.txn c.block_id-2.result c.in-Some.block.now c.add.new.self c.number_in.result (λ _. Some c.args.status) c.block_id-2.ensures c.number_in.ensures
    (slots_are bs c.args.txn c.block_id-2.result c.in-Some.block.now c.block_id-2.ensures has)
    (λ b. ((c.get_mut.follows.holds c.add.new.self).3 (rw has refl)).0 b) each u)
    c.add.ensures.ok

pub returns-in-Some-clause-err : goal.returns-in-Some-clause-err
returns-in-Some-clause-err c =
    let bs = c.args.blocks.now.entries in
    let has = sym c.get_mut.ensures.value ∙ ap option_copied_mut c.in-Some.is in
    on_err_weaker c.add.result (λ same u.
    same_in bs (c.get_mut.follows.lender c.add.new.self).entries c.args.txn c.block_id-2.result c.add.new.self c.block_id-2.ensures
    (slots_are bs c.args.txn c.block_id-2.result c.in-Some.block.now c.block_id-2.ensures has ∙ sym same)
    (λ b. ((c.get_mut.follows.holds c.add.new.self).3 (rw has refl)).0 b) u)
    c.add.ensures.err
