use Rattle.std.proofs.Common.{[], ◌∷◌, sym}
use Rattle.std.proofs.lemmas.List.{append-nil}
use Rattle.doors.proofs.sockets.note.Goals as goal

pub returns-then-place-eq-LISTENER : goal.returns-then-place-eq-LISTENER
returns-then-place-eq-LISTENER c = ([], sym (append-nil c.args.ready.now.items))

pub returns : goal.returns
returns c = (c.args.place ∷ [], c.in_ok-push.ensures.items)
