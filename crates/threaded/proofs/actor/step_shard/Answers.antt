use Rattle.std.proofs.Common.{◌≡◌, ◌⊎◌, ◌++◌, ◌∷◌, [], sym, subst}
use Rattle.logical_time.specs.declared.fault.Fault.TheVariants.{Memory, StrangerEnd}
use Rattle.threaded.specs.declared.actor.Actor.TheVariants as actor
use Rattle.threaded.specs.Machines.{CameFrom, Refuses}
use Rattle.threaded.proofs.Machines.{shard_handled, shard_collected, shard_still}
use Rattle.threaded.proofs.Refusing.{shard_handle_refused, shard_collect_refused, shard_submit_refused}
use Rattle.threaded.proofs.actor.step_shard.Goals as goal

pub returns-in-Ok-clause-came : goal.returns-in-Ok-clause-came
returns-in-Ok-clause-came c top node journal before outcomes came =
    subst (λ x. CameFrom top node (journal ++ x ∷ []) (before ++ c.handle.new.outbox.sent) outcomes (actor.Shard c.handle.new.self)) (sym c.in-Handle.is)
    (shard_handled c.in-Handle.envelope c.args.shard.now c.handle.new.self c.args.outbox.now.sent c.handle.new.outbox.sent c.in-Ok.ensures.step top node journal before outcomes came)

pub returns-in-Err-clause-same : goal.returns-in-Err-clause-same
returns-in-Err-clause-same c = shard_still c.args.shard.now c.handle.new.self c.in-Err.ensures.same

pub returns-in-Ok-collect-clause-came : goal.returns-in-Ok-collect-clause-came
returns-in-Ok-collect-clause-came c top node journal before outcomes came =
    subst (λ x. CameFrom top node (journal ++ x ∷ []) (before ++ c.args.outbox.now.sent) outcomes (actor.Shard c.collect.new.self)) (sym c.in-Collect.is)
    (shard_collected c.in-Collect.time c.args.shard.now c.collect.new.self c.args.outbox.now.sent c.in-Ok-collect.ensures.step top node journal before outcomes came)

pub returns-in-Err-clause-refused : goal.returns-in-Err-clause-refused
returns-in-Err-clause-refused c top node journal sent outcomes came =
    let e = c.in-Err.refused.fault in
    subst (λ x. (e ≡ Memory) ⊎ Refuses top node journal x e) (sym c.in-Handle.is)
    (shard_handle_refused c.args.shard.now top node journal sent outcomes came c.in-Handle.envelope e (c.in-Err.ensures.refused top node))

pub returns-in-Err-collect-clause-refused : goal.returns-in-Err-collect-clause-refused
returns-in-Err-collect-clause-refused c top node journal sent outcomes came =
    let e = c.in-Err-collect.fault in
    subst (λ x. (e ≡ Memory) ⊎ Refuses top node journal x e) (sym c.in-Collect.is)
    (shard_collect_refused c.args.shard.now top node journal sent outcomes came c.in-Collect.time e (c.in-Err-collect.ensures.refused top node))

pub returns-in-Submit-clause-refused : goal.returns-in-Submit-clause-refused
returns-in-Submit-clause-refused c top node journal sent outcomes came =
    subst (λ x. (StrangerEnd ≡ Memory) ⊎ Refuses top node journal x StrangerEnd) (sym c.in-Submit.is)
    (shard_submit_refused c.args.shard.now top node journal sent outcomes came c.in-Submit.op)
