use Rattle.std.proofs.Common.{◌≡◌, ◌∙◌, suc, ◌+◌, ◌-◌, arith, ap, refl, sym}
use Rattle.std.proofs.lemmas.Result.{err_from_is_err_and}
use Rattle.world.specs.World.{WorldValue, run_of}
use Rattle.drains.proofs.Underway.{not_begun, all_made, sent_unhandled, taken_more, whole_drain, refused_drain}
use Rattle.workload.proofs.Plays.{drain_plays, drain_ends}
use Rattle.tracing.proofs.playing.drain.Goals as goal

pub loop-delivered-init : goal.loop-delivered-init
loop-delivered-init c = record {
  topology = refl;
  underway = λ left whole. not_begun c.args.world.now.top c.args.world.now.events left;
}

pub returns-in_default-clause-ok : goal.returns-in_default-clause-ok
returns-in_default-clause-ok c =
    let left = 1000000 - c.loop-delivered.delivered in
    let whole : c.loop-delivered.delivered + left ≡ 1000000 = omega arith in
    drain_plays c.args.world.now c.loop-delivered.world c.loop-delivered.delivered c.loop-delivered.invariant.topology
    (whole_drain c.args.world.now c.loop-delivered.world c.loop-delivered.invariant.topology c.loop-delivered.delivered left (c.loop-delivered.invariant.underway left whole) whole
    (sym c.first_unhandled.ensures.exact ∙ c.in_default.is))

pub deliver-requires : goal.deliver-requires
deliver-requires c = sent_unhandled (run_of c.loop-delivered.world) c.in-Some.number (sym c.first_unhandled.ensures.exact ∙ c.in-Some.is)

pub returns-in_err-deliver-clause-ends : goal.returns-in_err-deliver-clause-ends
returns-in_err-deliver-clause-ends c =
    let left = 999999 - c.loop-delivered.delivered in
    let whole : c.loop-delivered.delivered + suc left ≡ 1000000 = omega arith in
    let p = err_from_is_err_and c.from_residual.result c.from_residual.ensures.1 in
    rw (p.1, p.2)
    (drain_ends c.args.world.now c.loop-delivered.world.events c.in_err-deliver.field-0.0
    (refused_drain c.args.world.now c.loop-delivered.world c.loop-delivered.invariant.topology c.loop-delivered.delivered left c.in-Some.number c.in_err-deliver.field-0.0
    (c.loop-delivered.invariant.underway (suc left) whole) whole (sym c.first_unhandled.ensures.exact ∙ c.in-Some.is) c.in_err-deliver.ensures.refused))

pub loop-delivered-preserved : goal.loop-delivered-preserved
loop-delivered-preserved c = record {
  topology = ap (λ (w : WorldValue). w.top) c.in_ok-deliver.ensures.taken.happened ∙ c.loop-delivered.invariant.topology;
  underway = λ left whole.
      taken_more c.args.world.now c.loop-delivered.world c.loop-delivered.invariant.topology c.loop-delivered.delivered left c.deliver.new.self c.in-Some.number
      (c.loop-delivered.invariant.underway (suc left) (omega arith)) (sym c.first_unhandled.ensures.exact ∙ c.in-Some.is) c.in_ok-deliver.ensures.taken;
}

pub returns-clause-ok : goal.returns-clause-ok
returns-clause-ok c =
    let whole : c.loop-delivered.delivered + 0 ≡ 1000000 = omega arith in
    let start = c.args.world.now in
    drain_plays start c.loop-delivered.world c.loop-delivered.delivered c.loop-delivered.invariant.topology
    (all_made start.top start.events c.loop-delivered.world.events c.loop-delivered.delivered (c.loop-delivered.invariant.underway 0 whole) whole)
