use Rattle.std.proofs.lemmas.Result.{err_from_is_err_and}
use Rattle.site_port.proofs.Staying.{stays_then}
use Rattle.site_port.proofs.Turning.{stopped, it_ended, nothing_waits, it_goes_on}
use Rattle.site_port.proofs.turns.take_turns.Goals as goal

pub returns-in_err-went-clause-stopped : goal.returns-in_err-went-clause-stopped
returns-in_err-went-clause-stopped g c =
    let p = err_from_is_err_and c.from_residual.result c.from_residual.ensures.1 in
    rw (p.1, p.2)
    (stopped c.args.awaited.now c.loop-taken._taken c.args.site.now.site c.loop-taken.site.site c.args.late.now.items c.loop-taken.late.items c.loop-taken.invariant.taken g.M.Machine.refuses
    c.in_err-went.field-0.0 c.one_turn.new.site.site c.one_turn.new.late.items c.in_err-went.ensures.same c.in_err-went.ensures.refused)

pub returns-in-Some-clause-took : goal.returns-in-Some-clause-took
returns-in-Some-clause-took g c =
    it_ended c.args.awaited.now c.loop-taken._taken c.args.most c.args.site.now.site c.loop-taken.site.site c.one_turn.new.site.site c.args.late.now.items c.loop-taken.late.items c.one_turn.new.late.items
    c.loop-taken.invariant.taken c.in_ok-went.went c.in_ok-went.ended c.in_ok-went.ensures.went c.in_ok-went.ensures.rests c.in-Some.outcome c.in-Some.is

pub returns-then-not-went-clause-took : goal.returns-then-not-went-clause-took
returns-then-not-went-clause-took g c =
    nothing_waits c.args.awaited.now c.loop-taken._taken c.args.most c.args.site.now.site c.loop-taken.site.site c.one_turn.new.site.site c.args.late.now.items c.loop-taken.late.items c.one_turn.new.late.items
    c.loop-taken.invariant.taken c.in_ok-went.went c.in_ok-went.ended c.in_ok-went.ensures.went c.in_ok-went.ensures.rests c.if-not-went.true

pub loop-taken-preserved : goal.loop-taken-preserved
loop-taken-preserved g c = record {
  taken = it_goes_on c.args.awaited.now c.loop-taken._taken c.args.most c.args.site.now.site c.loop-taken.site.site c.one_turn.new.site.site c.args.late.now.items c.loop-taken.late.items c.one_turn.new.late.items
      c.loop-taken.invariant.taken c.in_ok-went.went c.in_ok-went.ended c.in_ok-went.ensures.went c.in_ok-went.ensures.rests c.if-not-went.false c.in_default.is;
  sound = λ q. c.in_ok-went.ensures.sound;
  kept = stays_then c.args.site.now c.loop-taken.site c.one_turn.new.site c.loop-taken.invariant.kept c.one_turn.ensures.kept;
}
