use Rattle.std.proofs.Common.{◌∙◌, ap, sym}
use Rattle.std.specs.Option.{option_copied}
use Rattle.write_txn.specs.Ledger.{status_in}
use Rattle.write_txn.proofs.Blocks.{found_in, none_in}
use Rattle.write_txn.proofs.statuses.Statuses.get.Goals as goal

pub returns-in-Some : goal.returns-in-Some
returns-in-Some c =
    let has = sym c.get.ensures.value ∙ ap option_copied c.in-Some.is in
    c.get-in-Some.ensures
    ∙ found_in c.self.inside.blocks.entries c.args.txn c.block_id.result c.number_in.result c.in-Some.block.now c.block_id.ensures c.number_in.ensures has
    ∙ ap (λ bs. status_in bs c.args.txn) c.self.view_is

pub returns-in-None : goal.returns-in-None
returns-in-None c =
    let none = sym c.get.ensures.value ∙ ap option_copied c.in-None.is in
    none_in c.self.inside.blocks.entries c.args.txn c.block_id.result c.block_id.ensures none
    ∙ ap (λ bs. status_in bs c.args.txn) c.self.view_is
