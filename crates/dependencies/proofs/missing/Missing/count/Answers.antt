use Rattle.std.proofs.Common.{◌∙◌, ap}
use Rattle.messages.specs.SessionEvents.{is_left, left_after}
use Rattle.dependencies.proofs.Left.{counted_out, counted_asked, missing_known}
use Rattle.dependencies.proofs.missing.Missing.count.Goals as goal

pub invariant_of-self : goal.invariant_of-self
invariant_of-self c = counted_asked c.self.inside.txns c.remove.new.self c.self.inside.writers c.args.txn c.remove.ensures.updates.0 c.self.invariant

pub returns-clause-counted : goal.returns-clause-counted
returns-clause-counted c =
    counted_out c.self.inside.txns c.remove.new.self c.self.inside.writers c.args.txn c.remove.ensures.updates.0 ∙ ap (left_after c.args.txn) c.self.view_is

pub returns-clause-missing : goal.returns-clause-missing
returns-clause-missing c =
    c.remove.ensures.test ∙ missing_known c.self.inside.txns c.self.inside.writers c.args.txn c.self.invariant ∙ ap (is_left c.args.txn) c.self.view_is
