use Rattle.std.proofs.Common.{◌≡◌, ◌∙◌, subst, rules, arith}
use Rattle.std.proofs.lemmas.Result.{err_from_is_err_and}
use Rattle.actors.specs.declared.draining.Round.TheVariants.{Quiet, Stirred}
use Rattle.actors.specs.Draining.{IsRound}
use Rattle.actors.proofs.Rounds.{taken_twice, taken_later, stopped_later, stopped_so, as_much_left}
use Rattle.std.proofs.lemmas.Grind.{common_steps}
use Rattle.actors.proofs.draining.rounds.Goals as goal

pub returns-in_err-one_round-clause-stopped : goal.returns-in_err-one_round-clause-stopped
returns-in_err-one_round-clause-stopped g c =
    let p = err_from_is_err_and c.from_residual.result c.from_residual.ensures.1 in
    rw (p.1, p.2) (stopped_later g.M.Machine.refuses _ c.args.seats.now c.loop.seats c.one_round.new.seats c.loop.invariant.0 c.in_err-one_round.ensures.stopped)

pub returns-in_err-one_round-clause-later : goal.returns-in_err-one_round-clause-later
returns-in_err-one_round-clause-later g c =
    stopped_so g.M.Machine.refuses _ c.args.seats.now c.one_round.new.seats
    (stopped_later g.M.Machine.refuses _ c.args.seats.now c.loop.seats c.one_round.new.seats c.loop.invariant.0 c.in_err-one_round.ensures.stopped)

pub returns-in-Quiet-clause-taken : goal.returns-in-Quiet-clause-taken
returns-in-Quiet-clause-taken g c =
    taken_twice g.M.Machine.refuses c.args.seats.now c.loop.seats c.one_round.new.seats c.loop.invariant.0 c.in_ok-one_round.ensures.taken

pub returns-in-Quiet-clause-later : goal.returns-in-Quiet-clause-later
returns-in-Quiet-clause-later g c =
    taken_later g.M.Machine.refuses c.args.seats.now c.one_round.new.seats
    (taken_twice g.M.Machine.refuses c.args.seats.now c.loop.seats c.one_round.new.seats c.loop.invariant.0 c.in_ok-one_round.ensures.taken)

pub returns-in-Quiet-clause-come : goal.returns-in-Quiet-clause-come
returns-in-Quiet-clause-come g c = λ worked.
    let quiet : c.in_ok-one_round.field-0 ≡ Quiet = search rules in
    let idle = subst (λ r. IsRound r c.loop.seats c.one_round.new.seats) quiet c.in_ok-one_round.ensures.round in
    (c.loop.seats, taken_later g.M.Machine.refuses c.args.seats.now c.loop.seats c.loop.invariant.0, idle)

pub loop-preserved : goal.loop-preserved
loop-preserved g c =
    let stirred : c.in_ok-one_round.field-0 ≡ Stirred = search rules in
    let same = as_much_left c.in_ok-one_round.field-0 c.loop.seats c.one_round.new.seats stirred c.in_ok-one_round.ensures.round in (
      taken_twice g.M.Machine.refuses c.args.seats.now c.loop.seats c.one_round.new.seats c.loop.invariant.0 c.in_ok-one_round.ensures.taken,
      same ∙ c.loop.invariant.1,
    )

pub returns-in-Worked-clause-taken : goal.returns-in-Worked-clause-taken
returns-in-Worked-clause-taken g c =
    taken_twice g.M.Machine.refuses c.args.seats.now c.loop.seats c.one_round.new.seats c.loop.invariant.0 c.in_ok-one_round.ensures.taken

pub returns-in-Worked-clause-later : goal.returns-in-Worked-clause-later
returns-in-Worked-clause-later g c =
    taken_later g.M.Machine.refuses c.args.seats.now c.one_round.new.seats
    (taken_twice g.M.Machine.refuses c.args.seats.now c.loop.seats c.one_round.new.seats c.loop.invariant.0 c.in_ok-one_round.ensures.taken)

pub loop-smaller : goal.loop-smaller
loop-smaller g c = grind (arith, common_steps)

pub returns-in-Quiet-clause-less : goal.returns-in-Quiet-clause-less
returns-in-Quiet-clause-less g c = grind (arith, common_steps)

pub returns-in-Worked-clause-less : goal.returns-in-Worked-clause-less
returns-in-Worked-clause-less g c = grind (arith, common_steps)

pub returns-in_err-one_round-clause-less : goal.returns-in_err-one_round-clause-less
returns-in_err-one_round-clause-less g c = grind (arith, common_steps)
