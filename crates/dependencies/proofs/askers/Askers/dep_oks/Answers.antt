use Rattle.std.proofs.Common.{◌≡◌, ◌∙◌, ap, map}
use Rattle.std.proofs.lemmas.Result.{IfOk-weaker}
use Rattle.messages.specs.Commits.{dep_oks}
use Rattle.dependencies.specs.Waiting.{dep_ok}
use Rattle.dependencies.specs.Askers.{AskersValue, waiting_for}
use Rattle.dependencies.proofs.DepOks.{answers_all}
use Rattle.dependencies.proofs.askers.Askers.dep_oks.Goals as goal

pub returns-clause-ok : goal.returns-clause-ok
returns-clause-ok c = λ all kept.
    let to = dep_ok c.args.from c.args.time c.args.dependency in
    IfOk-weaker c.answers.result (λ es. es.items ≡ map to (waiting_for c.self.inside.waiters.entries c.args.dependency)) (λ es. es.items ≡ dep_oks c.args.from c.args.time c.args.dependency all)
    (λ es e. e ∙ (ap (λ (kept_now : AskersValue). map to (waiting_for kept_now c.args.dependency)) c.self.view_is ∙ answers_all c.args.self.now c.args.from c.args.time c.args.dependency all kept))
    c.answers.ensures.ok
