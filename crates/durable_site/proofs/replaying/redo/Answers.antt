use Rattle.std.proofs.Common.{ℕ, [], ◌∷◌, ◌∙◌, ap, sym}
use Rattle.site.specs.Steps.{Asked, Came, Collected}
use Rattle.site_ledger.specs.Steps.{steps_of}
use Rattle.durable_site.proofs.Redone.{stuck_at}
use Rattle.durable_site.proofs.replaying.redo.Goals as goal

pub returns-in-Asked-clause-refused : goal.returns-in-Asked-clause-refused
returns-in-Asked-clause-refused g c =
    stuck_at c.ask.result g.M.Machine.refuses c.args.site.now (Asked c.new.result c.in-Asked.op) (steps_of c.args.entry) (ap steps_of c.in-Asked.is ∙ ap (λ (n : ℕ). Asked n c.in-Asked.op ∷ []) (sym c.new.ensures)) c.ask.ensures.refused

pub returns-in-Came-clause-refused : goal.returns-in-Came-clause-refused
returns-in-Came-clause-refused g c = stuck_at c.come.result g.M.Machine.refuses c.args.site.now (Came c.in-Came.from c.in-Came.envelope) (steps_of c.args.entry) (ap steps_of c.in-Came.is) c.come.ensures.refused

pub returns-in-Collected-clause-refused : goal.returns-in-Collected-clause-refused
returns-in-Collected-clause-refused g c =
    stuck_at c.collect.result g.M.Machine.refuses c.args.site.now (Collected c.new-in-Collected.result c.in-Collected.time) (steps_of c.args.entry)
    (ap steps_of c.in-Collected.is ∙ ap (λ (n : ℕ). Collected n c.in-Collected.time ∷ []) (sym c.new-in-Collected.ensures)) c.collect.ensures.refused
