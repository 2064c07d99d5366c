use Rattle.std.proofs.Common.{◌∙◌, sym, Some}
use Rattle.write_txn.proofs.Blocks.{replaced_at}
use Rattle.write_txn.proofs.statuses.add_first.Goals as goal

pub returns-clause-ok : goal.returns-clause-ok
returns-clause-ok c =
    replaced_at c.args.blocks.now.entries c.insert.new.self.entries c.args.txn c.block_id.result c.new-block.result c.add.new.self c.number_in.result (λ _. Some c.args.status) c.block_id.ensures c.number_in.ensures
    (c.requires ∙ sym c.new-block.ensures) (λ b. (c.in_ok-insert.ensures.updates).0 b) c.in_ok-add.ensures.ok
