use Rattle.std.proofs.Common.{◌≡◌, Err, subst}
use Rattle.std.specs.Prelude.{IfErr}
use Rattle.messages.specs.Session.{SessionState}
use Rattle.messages.specs.Submitting.{session_submit}
use Rattle.messages.specs.Topology.{TopologyValue}
use Rattle.client.specs.Represents.{Represents}
use Rattle.client.specs.declared.kept.SessionKept.{SessionKept}
use Rattle.client.proofs.Submitted.{refused_so}
use Rattle.client.proofs.session.Session.check.Goals as goal

pub returns-clause-refused : goal.returns-clause-refused
returns-clause-refused c =
    subst
    (λ (k : SessionKept). (top : TopologyValue) (a : SessionState) → Represents k top a → IfErr c.would_accept.result (λ e. session_submit top k.node a c.args.op.now ≡ Err e))
    c.self.view_is
    (refused_so c.would_accept.result c.self.inside.kept c.args.op.now c.would_accept.ensures.refused)
