use Rattle.std.proofs.Common.{◌∙◌, ◌+◌, ap, subst, sym}
use Rattle.messages.specs.Session.{SessionState}
use Rattle.messages.specs.Submitting.{session_submit}
use Rattle.client.specs.Represents.{IsStepOf, IsRefusalOf}
use Rattle.world.proofs.lists.Replacing.{item_at}
use Rattle.present.proofs.Sessions.{session_did}
use Rattle.present.proofs.actors.begin.Goals as goal

pub returns-in-Ok-clause-ok : goal.returns-in-Ok-clause-ok
returns-in-Ok-clause-ok c =
    λ top from states are.
    let at = item_at c.args.sessions.now.items c.args.place c.index_mut-session.result.now c.requires c.index_mut-session.ensures.value in
    let u = are c.args.place c.index_mut-session.result.now at in (
      session_did top from states c.args.sessions.now.items c.args.place c.index_mut-session.result.now c.submit.new.self c.take_answer.new.self
          (session_submit top (from + c.args.place) (states (from + c.args.place)) c.args.op) c.args.sent.now.sent c.submit.new.outbox.sent c.take_answer.result c.requires at are
          (subst (λ n. IsStepOf (session_submit top n (states (from + c.args.place)) c.args.op) top c.submit.new.self c.args.sent.now.sent c.submit.new.outbox.sent) u.node
          (c.in-Ok.ensures.step top (states (from + c.args.place)) u.stands))
          c.take_answer.ensures.taken c.in-Ok.ensures.node c.take_answer.ensures.node c.take_answer.ensures.answer,
      c.in-Ok.ensures.number ∙ ap (λ (z : SessionState). z.count + 1) (sym u.stands.state),
    )

pub returns-in-Err-clause-refused : goal.returns-in-Err-clause-refused
returns-in-Err-clause-refused c =
    λ top from states are.
    let at = item_at c.args.sessions.now.items c.args.place c.index_mut-session.result.now c.requires c.index_mut-session.ensures.value in
    let u = are c.args.place c.index_mut-session.result.now at in
    subst (λ n. IsRefusalOf (session_submit top n (states (from + c.args.place)) c.args.op) c.in-Err.refused.0) u.node (c.in-Err.ensures.refused top (states (from + c.args.place)) u.stands)
