use Rattle.std.proofs.Common.{◌+◌, sym, subst, ◌∙◌, arith}
use Rattle.actors.proofs.Sent.{IsAbove, found_to, passed_to, skipped_to, ended_to}
use Rattle.actors.proofs.recorded.nth_to.Goals as goal
use Rattle.actors.proofs.recorded.nth_to.Goals.{then-eq+else-left-eq0, else-eq}

pub returns-then-left-eq0-clause-found : goal.returns-then-left-eq0-clause-found
returns-then-left-eq0-clause-found c =
    found_to c.args.to c.args.envelopes.now c.args.number c.loop-place.place c.loop-place.left c.index-envelopes-place.result c.index-envelopes-place-then-left-eq0.result
    (omega (arith, c.loop-place-test.true)) (sym c.eq.ensures ∙ c.if-eq.true) c.index-envelopes-place-then-left-eq0.is c.if-left-eq0.true c.loop-place.invariant

pub loop-place-preserved : goal.loop-place-preserved
loop-place-preserved c = elim c.if-eq.branch [
  | then-eq+else-left-eq0 w ↦
      subst (IsAbove c.args.to c.args.envelopes.now c.args.number (c.loop-place.place + 1)) (sym w.left-is)
      (passed_to c.args.to c.args.envelopes.now c.args.number c.loop-place.place c.loop-place.left c.index-envelopes-place.result
      (omega (arith, c.loop-place-test.true)) (sym c.eq.ensures ∙ w.if-eq.true) w.if-left-eq0.false c.loop-place.invariant)
  | else-eq w ↦
      subst (IsAbove c.args.to c.args.envelopes.now c.args.number (c.loop-place.place + 1)) (sym w.left-is)
      (skipped_to c.args.to c.args.envelopes.now c.args.number c.loop-place.place c.loop-place.left c.index-envelopes-place.result
      (omega (arith, c.loop-place-test.true)) (sym c.eq.ensures ∙ w.if-eq.false) c.loop-place.invariant)
]

pub returns-clause-above : goal.returns-clause-above
returns-clause-above c = ended_to c.args.to c.args.envelopes.now c.args.number c.loop-place.place c.loop-place.left (omega (arith, c.loop-place-test.false, c.loop-place.auto.place-end)) c.loop-place.invariant
