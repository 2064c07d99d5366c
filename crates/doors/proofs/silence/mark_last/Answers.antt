use Rattle.std.proofs.Common.{List, ℕ, subst}
use Rattle.doors.specs.Silence.{AreMarked}
use Rattle.doors.proofs.Silent.{marked_then}
use Rattle.doors.proofs.silence.mark_last.Goals as goal

pub returns : goal.returns
returns c =
    marked_then c.args.time c.args.ready.now c.args.fresh.now.items c.args.since.now.items c.mark.new.since.items c.mark-2.new.since.items c.mark.ensures
    (subst (λ (t : List ℕ). AreMarked c.args.time t c.mark.new.since.items c.mark-2.new.since.items) c.deref.ensures.value c.mark-2.ensures)
