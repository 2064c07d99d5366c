use Rattle.std.proofs.Common.{◌∙◌, sym, ap, refl}
use Rattle.std.specs.Prelude.{option_map}
use Rattle.std.specs.Option.{option_copied_mut}
use Rattle.write_txn.proofs.Blocks.{slots_are, replaced_at, none_set}
use Rattle.write_txn.proofs.statuses.Statuses.set.Goals.{in-Some, in_default}
use Rattle.write_txn.proofs.statuses.Statuses.set.Goals as goal

pub returns : goal.returns
returns c = λ u. elim c.match-get_mut.branch [
  | in-Some w ↦
      let has = sym c.get_mut.ensures.value ∙ ap option_copied_mut w.in-Some.is in
      let bs = c.self.inside.blocks.entries in
      rw (w.self-inside-is, sym c.self.view_is)
      (replaced_at bs (c.get_mut.follows.lender w.set.new.self).entries c.args.txn c.block_id.result w.in-Some.block.now w.set.new.self w.number_in.result (option_map (λ _. c.args.status)) c.block_id.ensures w.number_in.ensures
      (slots_are bs c.args.txn c.block_id.result w.in-Some.block.now c.block_id.ensures has)
      (λ b. ((c.get_mut.follows.holds w.set.new.self).3 (rw has refl)).0 b) w.set.ensures u)
  | in_default w ↦
      let none = sym c.get_mut.ensures.value ∙ ap option_copied_mut w.in_default.is in
      rw (w.self-inside-is, sym c.self.view_is, c.get_mut.follows.holds-at-none)
      (none_set c.self.inside.blocks.entries c.args.txn c.block_id.result c.args.status c.block_id.ensures none u)
]
