use Rattle.std.proofs.Common.{◌≡◌, ◌-◌, length, refl}
use Rattle.std.proofs.lemmas.Result.{on_ok_weaker}
use Rattle.world.specs.World.{run_of}
use Rattle.workload.proofs.Plays.{no_fewer_ended}
use Rattle.workload.proofs.Noted.{counts_noted, adds_noted}
use Rattle.workload.proofs.simulating.play.Goals as goal

pub overflow_sub-transcript : goal.overflow_sub-transcript
overflow_sub-transcript c =
    rw (c.transcript-before.ensures.listed, c.transcript.ensures.listed) (no_fewer_ended c.args.world.now c.happen.new.world c.args.event.now _ c.in_ok-refusal.ensures.ok)

pub returns-clause-marked : goal.returns-clause-marked
returns-clause-marked c =
    let n = length c.transcript.result.now - length c.transcript-before.result.now in
    let is : n ≡ length (run_of c.happen.new.world).transcript - length (run_of c.args.world.now).transcript =
    rw (c.transcript-before.ensures.listed, c.transcript.ensures.listed) refl in
    on_ok_weaker c.note.result
    (counts_noted c.args.world.now c.happen.new.world c.args.event.now c.in_ok-refusal.refusal c.args.marks.now.items c.note.new.marks.items n c.requires.marked c.in_ok-refusal.ensures.ok is)
    c.note.ensures.ok

pub returns-clause-ok : goal.returns-clause-ok
returns-clause-ok c =
    let n = length c.transcript.result.now - length c.transcript-before.result.now in
    let is : n ≡ length (run_of c.happen.new.world).transcript - length (run_of c.args.world.now).transcript =
    rw (c.transcript-before.ensures.listed, c.transcript.ensures.listed) refl in
    on_ok_weaker c.note.result
    (adds_noted c.args.world.now c.happen.new.world c.args.event.now c.in_ok-refusal.refusal c.args.marks.now.items c.note.new.marks.items n c.requires.marked c.in_ok-refusal.ensures.ok is)
    c.note.ensures.ok
