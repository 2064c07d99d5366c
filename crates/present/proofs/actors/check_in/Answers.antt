use Rattle.std.proofs.Common.{◌+◌, Err, ◌≡◌, subst}
use Rattle.std.specs.Prelude.{IsOk, OnOk, IfErr}
use Rattle.messages.specs.Submitting.{session_submit}
use Rattle.world.proofs.lists.Replacing.{item_at}
use Rattle.present.proofs.actors.check_in.Goals as goal

pub returns-clause-allowed : goal.returns-clause-allowed
returns-clause-allowed c =
    λ top from states are.
    let at = item_at c.args.sessions.now.items c.args.place c.index.result.now c.requires c.index.ensures in
    let u = are c.args.place c.index.result.now at in
    subst (λ n. OnOk c.check.result (IsOk (session_submit top n (states (from + c.args.place)) c.args.op.now))) u.node (c.check.ensures.allowed top (states (from + c.args.place)) u.stands)

pub returns-clause-refused : goal.returns-clause-refused
returns-clause-refused c =
    λ top from states are.
    let at = item_at c.args.sessions.now.items c.args.place c.index.result.now c.requires c.index.ensures in
    let u = are c.args.place c.index.result.now at in
    subst (λ n. IfErr c.check.result (λ e. session_submit top n (states (from + c.args.place)) c.args.op.now ≡ Err e)) u.node (c.check.ensures.refused top (states (from + c.args.place)) u.stands)
