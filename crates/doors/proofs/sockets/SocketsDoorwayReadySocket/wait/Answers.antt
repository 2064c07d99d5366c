use Rattle.std.proofs.Common.{ℕ, List, [], ◌++◌, ◌∙◌, sym, ap, append_assoc}
use Rattle.std.proofs.lemmas.List.{append-nil}
use Rattle.doors.proofs.sockets.SocketsDoorwayReadySocket.wait.Goals as goal

pub loop-event-init : goal.loop-event-init
loop-event-init c = ([], sym (append-nil c.args.ready.now.items))

pub loop-event-preserved : goal.loop-event-preserved
loop-event-preserved c =
    let more = c.in_ok-note.ensures in
    let was = c.loop-event.invariant in
    (was.0 ++ more.0, more.1 ∙ ap (λ (t : List ℕ). t ++ more.0) was.1 ∙ append_assoc c.args.ready.now.items was.0 more.0)

pub returns-clause-told : goal.returns-clause-told
returns-clause-told c = (c.loop-event.invariant.0, c.loop-event.invariant.1, tt)
