use Rattle.std.proofs.Common.{◌≡◌, false, rules, arith}
use Rattle.std.proofs.lemmas.Result.{err_from_is_err_and}
use Rattle.actors.proofs.Rounds.{taken_twice, taken_later, stopped_later, stopped_so, come_after, all_resting}
use Rattle.std.proofs.lemmas.Grind.{common_steps}
use Rattle.actors.proofs.draining.drain.Goals as goal

pub returns-in_err-rounds-clause-stopped : goal.returns-in_err-rounds-clause-stopped
returns-in_err-rounds-clause-stopped g c =
    let p = err_from_is_err_and c.from_residual.result c.from_residual.ensures.1 in
    rw (p.1, p.2) (stopped_later g.M.Machine.refuses _ c.args.seats.now c.loop.seats c.rounds.new.seats c.loop.invariant c.in_err-rounds.ensures.stopped)

pub returns-in_err-rounds-clause-later : goal.returns-in_err-rounds-clause-later
returns-in_err-rounds-clause-later g c =
    stopped_so g.M.Machine.refuses _ c.args.seats.now c.rounds.new.seats
    (stopped_later g.M.Machine.refuses _ c.args.seats.now c.loop.seats c.rounds.new.seats c.loop.invariant c.in_err-rounds.ensures.stopped)

pub loop-preserved : goal.loop-preserved
loop-preserved g c = taken_twice g.M.Machine.refuses c.args.seats.now c.loop.seats c.rounds.new.seats c.loop.invariant c.in_ok-rounds.ensures.taken

pub returns-clause-taken : goal.returns-clause-taken
returns-clause-taken g c = taken_twice g.M.Machine.refuses c.args.seats.now c.loop.seats c.rounds.new.seats c.loop.invariant c.in_ok-rounds.ensures.taken

pub returns-clause-later : goal.returns-clause-later
returns-clause-later g c =
    taken_later g.M.Machine.refuses c.args.seats.now c.rounds.new.seats
    (taken_twice g.M.Machine.refuses c.args.seats.now c.loop.seats c.rounds.new.seats c.loop.invariant c.in_ok-rounds.ensures.taken)

pub returns-clause-come : goal.returns-clause-come
returns-clause-come g c =
    let worked : c.in_ok-rounds.field-0 ≡ false = search rules in
    come_after g.M.Machine.refuses c.args.seats.now c.loop.seats c.rounds.new.seats c.loop.invariant (c.in_ok-rounds.ensures.come worked)

pub returns-clause-resting : goal.returns-clause-resting
returns-clause-resting g c =
    let worked : c.in_ok-rounds.field-0 ≡ false = search rules in
    all_resting c.loop.seats c.rounds.new.seats (c.in_ok-rounds.ensures.come worked)

pub loop-smaller : goal.loop-smaller
loop-smaller g c = grind (arith, common_steps)
