use Rattle.std.proofs.Common.{rules}
use Rattle.std.proofs.Common.{◌≡◌, ◌⊎◌, ◌++◌, ◌∷◌, [], sym, subst}
use Rattle.logical_time.specs.declared.fault.Fault.TheVariants.{Memory, StrangerEnd}
use Rattle.threaded.specs.declared.actor.Actor.TheVariants as actor
use Rattle.threaded.specs.Machines.{CameFrom, Refuses}
use Rattle.threaded.proofs.Machines.{session_heard, session_submitted}
use Rattle.threaded.proofs.Refusing.{session_handle_refused, session_submit_refused, session_collect_refused}
use Rattle.threaded.proofs.actor.step_session.Goals as goal

pub returns-in-Ok-clause-came : goal.returns-in-Ok-clause-came
returns-in-Ok-clause-came c top node journal before outcomes came =
    subst (λ x. CameFrom top node (journal ++ x ∷ []) (before ++ c.handle.new.outbox.sent) outcomes (actor.Session c.end.new.session c.end.new.waits c.end.new.ended))
    (sym c.in-Handle.is)
    (session_heard c.in-Handle.envelope c.args.session.now c.handle.new.self c.end.new.session c.args.waits.now c.end.new.waits c.args.ended.now c.end.new.ended
    c.args.outbox.now.sent c.handle.new.outbox.sent c.in-Ok.ensures.step c.handle.ensures.node
    c.end.ensures.taken (record { kept = c.end.ensures.kept; ends = c.end.ensures.ended; stays = c.end.ensures.stays; over = c.end.ensures.over }) c.requires top node journal before outcomes came)

pub returns-in-Ok-submit-clause-came : goal.returns-in-Ok-submit-clause-came
returns-in-Ok-submit-clause-came c top node journal before outcomes came =
    subst (λ x. CameFrom top node (journal ++ x ∷ []) (before ++ c.submit.new.outbox.sent) outcomes (actor.Session c.end-in-Ok-submit.new.session c.end-in-Ok-submit.new.waits c.end-in-Ok-submit.new.ended))
    (sym c.in-Submit.is)
    (session_submitted c.in-Submit.op c.args.session.now c.submit.new.self c.end-in-Ok-submit.new.session c.args.waits.now c.end-in-Ok-submit.new.waits c.args.ended.now c.end-in-Ok-submit.new.ended
    c.args.outbox.now.sent c.submit.new.outbox.sent c.in-Ok-submit.ensures.step c.submit.ensures.node
    c.end-in-Ok-submit.ensures.taken (record { kept = c.end-in-Ok-submit.ensures.kept; ends = c.end-in-Ok-submit.ensures.ended; stays = c.end-in-Ok-submit.ensures.stays; over = c.end-in-Ok-submit.ensures.over })
    c.requires top node journal before outcomes came)

pub returns-in-Err-clause-refused : goal.returns-in-Err-clause-refused
returns-in-Err-clause-refused c top node journal sent outcomes came =
    let e = c.in-Err.refused.fault in
    subst (λ x. (e ≡ Memory) ⊎ Refuses top node journal x e) (sym c.in-Handle.is)
    (session_handle_refused c.args.session.now c.args.waits.now c.args.ended.now top node journal sent outcomes came c.in-Handle.envelope e (c.in-Err.ensures.refused top))

pub returns-in-Err-submit-clause-refused : goal.returns-in-Err-submit-clause-refused
returns-in-Err-submit-clause-refused c top node journal sent outcomes came =
    let e = c.in-Err-submit.fault in
    subst (λ x. (e ≡ Memory) ⊎ Refuses top node journal x e) (sym c.in-Submit.is)
    (session_submit_refused c.args.session.now c.args.waits.now c.args.ended.now top node journal sent outcomes came c.in-Submit.op e (c.in-Err-submit.ensures.refused top))

pub returns-in-Collect-clause-refused : goal.returns-in-Collect-clause-refused
returns-in-Collect-clause-refused c top node journal sent outcomes came =
    subst (λ x. (StrangerEnd ≡ Memory) ⊎ Refuses top node journal x StrangerEnd) (sym c.in-Collect.is)
    (session_collect_refused c.args.session.now c.args.waits.now c.args.ended.now top node journal sent outcomes came c.in-Collect.time)

pub returns-in-Ok-submit-clause-number : goal.returns-in-Ok-submit-clause-number
returns-in-Ok-submit-clause-number c = search rules
