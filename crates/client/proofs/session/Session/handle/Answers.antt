use Rattle.std.proofs.Common.{arith, ◌≡◌, false, sym, subst, rules}
use Rattle.std.proofs.lemmas.Grind.{common_steps}
use Rattle.client.proofs.HeardNow.{handled, handle_refused}
use Rattle.client.proofs.RightAnswers.{answers_right}
use Rattle.client.proofs.SameNode.{node_stays}
use Rattle.client.specs.declared.kept.SessionKept.{SessionKept}
use Rattle.client.specs.Ignored.{heeds}
use Rattle.client.proofs.Ignored.{ignored_rests}
use Rattle.client.proofs.session.Session.handle.Goals.{in-Ok, in-Err}
use Rattle.client.proofs.session.Session.handle.Goals as goal

pub returns-clause-ignored : goal.returns-clause-ignored
returns-clause-ignored c = λ top a r ignored.
    let e = c.args.envelope in
    let unheeded = subst (λ (k : SessionKept). heeds k e.from e.body ≡ false) (sym c.self.view_is) (ignored_rests c.args.self.now e top a r ignored) in
    let spent = c.handle.ensures.ignored unheeded in
    elim (c.match-handle.branch) [ in-Ok w ↦ search rules | in-Err w ↦ search rules ]

pub returns-clause-refused : goal.returns-clause-refused
returns-clause-refused c = grind (arith, common_steps)

pub returns-clause-step : goal.returns-clause-step
returns-clause-step c = grind (arith, handled, handle_refused, answers_right, node_stays)

pub returns-clause-right : goal.returns-clause-right
returns-clause-right c = grind (arith, handled, handle_refused, answers_right, node_stays)
