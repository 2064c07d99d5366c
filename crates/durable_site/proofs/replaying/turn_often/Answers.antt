use Rattle.std.proofs.Common.{arith, rules}
use Rattle.durable_site.proofs.Redone.{redone_none, one_more_turn, stuck_turn_err}
use Rattle.durable_site.proofs.replaying.turn_often.Goals as goal

pub loop-turn-init : goal.loop-turn-init
loop-turn-init g c = redone_none c.args.site.now

pub loop-turn-preserved : goal.loop-turn-preserved
loop-turn-preserved g c = one_more_turn c.args.site.now c.loop-turn.site c.turn.new.site c.loop-turn._turn c.loop-turn.invariant c.in_ok-turn.ensures.ok

pub returns-in_err-turn-clause-refused : goal.returns-in_err-turn-clause-refused
returns-in_err-turn-clause-refused g c =
    stuck_turn_err c.from_residual.result g.M.Machine.refuses c.args.site.now c.loop-turn.site c.loop-turn._turn c.args.count c.in_err-turn.field-0.0 (search rules) (omega arith) c.loop-turn.invariant c.in_err-turn.ensures.refused
