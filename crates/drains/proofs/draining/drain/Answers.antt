use Rattle.std.proofs.Common.{◌≡◌, ◌∙◌, suc, ◌+◌, ◌-◌, arith, ap, refl, subst, sym}
use Rattle.std.proofs.lemmas.Result.{err_from_is_err_and}
use Rattle.world.specs.World.{WorldValue, run_of}
use Rattle.world.proofs.quiet.Unhandled.{finds_unhandled}
use Rattle.drains.specs.Drain.{IsDrained, LeavesNothing}
use Rattle.drains.proofs.Underway.{not_begun, all_made, taken_more, whole_drain, refused_drain}
use Rattle.drains.proofs.InTime.{world_in_time, memory_alone}
use Rattle.drains.proofs.draining.drain.Goals as goal

pub loop-delivered-init : goal.loop-delivered-init
loop-delivered-init g c = record {
  topology = refl;
  underway = λ left whole. not_begun (g.D.Deliveries.world c.args.world.now).top (g.D.Deliveries.world c.args.world.now).events left;
  stays = λ start known. known;
  knows = λ session number known. known;
}

pub returns-in_err-deliver_first-clause-refused : goal.returns-in_err-deliver_first-clause-refused
returns-in_err-deliver_first-clause-refused g c =
    let left = 999999 - c.loop-delivered.delivered in
    let whole : c.loop-delivered.delivered + suc left ≡ 1000000 = omega arith in
    let p = err_from_is_err_and c.from_residual.result c.from_residual.ensures.1 in
    let s = c.in_err-deliver_first.ensures.stopped in
    rw (p.1, p.2, s.3)
    (refused_drain (g.D.Deliveries.world c.args.world.now) (g.D.Deliveries.world c.loop-delivered.world) c.loop-delivered.invariant.topology c.loop-delivered.delivered left s.0
    c.in_err-deliver_first.field-0.0 (c.loop-delivered.invariant.underway (suc left) whole) whole s.1 s.2)

pub returns-in_err-deliver_first-clause-topology : goal.returns-in_err-deliver_first-clause-topology
returns-in_err-deliver_first-clause-topology g c = ap (λ (w : WorldValue). w.top) c.in_err-deliver_first.ensures.stopped.3 ∙ c.loop-delivered.invariant.topology

pub returns-in_err-deliver_first-clause-memory_alone : goal.returns-in_err-deliver_first-clause-memory_alone
returns-in_err-deliver_first-clause-memory_alone g c =
    let left = 999999 - c.loop-delivered.delivered in
    let whole : c.loop-delivered.delivered + suc left ≡ 1000000 = omega arith in
    let p = err_from_is_err_and c.from_residual.result c.from_residual.ensures.1 in
    let s = c.in_err-deliver_first.ensures.stopped in
    let start = g.D.Deliveries.world c.args.world.now in
    let here = g.D.Deliveries.world c.loop-delivered.world in
    rw (p.1, p.2)
    (memory_alone start.top start.events here.events c.in_err-deliver_first.field-0.0 c.topology-limits.ensures.limits
    (refused_drain start here c.loop-delivered.invariant.topology c.loop-delivered.delivered left s.0 c.in_err-deliver_first.field-0.0
    (c.loop-delivered.invariant.underway (suc left) whole) whole s.1 s.2))

pub returns-in_err-deliver_first-clause-stays : goal.returns-in_err-deliver_first-clause-stays
returns-in_err-deliver_first-clause-stays g c = λ start known. c.deliver_first.ensures.stays start (c.loop-delivered.invariant.stays start known)

pub returns-in_err-deliver_first-clause-knows : goal.returns-in_err-deliver_first-clause-knows
returns-in_err-deliver_first-clause-knows g c = λ session number known. c.deliver_first.ensures.knows session number (c.loop-delivered.invariant.knows session number known)

pub returns-then-not-branch-clause-ok : goal.returns-then-not-branch-clause-ok
returns-then-not-branch-clause-ok g c =
    let left = 1000000 - c.loop-delivered.delivered in
    let whole : c.loop-delivered.delivered + left ≡ 1000000 = omega arith in
    let start = g.D.Deliveries.world c.args.world.now in
    let d = c.in_ok-deliver_first.ensures.done c.if-not-branch.true in
    subst (λ (w : WorldValue). IsDrained start.top start.events w.events c.loop-delivered.delivered) (sym d.2)
    (whole_drain start (g.D.Deliveries.world c.loop-delivered.world) c.loop-delivered.invariant.topology c.loop-delivered.delivered left (c.loop-delivered.invariant.underway left whole) whole d.0)

pub returns-then-not-branch-clause-topology : goal.returns-then-not-branch-clause-topology
returns-then-not-branch-clause-topology g c = ap (λ (w : WorldValue). w.top) (c.in_ok-deliver_first.ensures.done c.if-not-branch.true).2 ∙ c.loop-delivered.invariant.topology

pub returns-then-not-branch-clause-nothing_left : goal.returns-then-not-branch-clause-nothing_left
returns-then-not-branch-clause-nothing_left g c fewer =
    let d = c.in_ok-deliver_first.ensures.done c.if-not-branch.true in
    subst (λ (w : WorldValue). LeavesNothing w.top w.events) (sym d.2)
    (record { quiet = (finds_unhandled (run_of (g.D.Deliveries.world c.loop-delivered.world))).none.0 d.0; settled = d.1 })

pub returns-then-not-branch-clause-in_time : goal.returns-then-not-branch-clause-in_time
returns-then-not-branch-clause-in_time g c room =
    world_in_time (g.D.Deliveries.world c.args.world.now) (g.D.Deliveries.world c.deliver_first.new.self) c.topology-limits.ensures.limits (returns-then-not-branch-clause-topology g c)
    c.loop-delivered.delivered (returns-then-not-branch-clause-ok g c) room

pub returns-then-not-branch-clause-stays : goal.returns-then-not-branch-clause-stays
returns-then-not-branch-clause-stays g c = λ start known. c.deliver_first.ensures.stays start (c.loop-delivered.invariant.stays start known)

pub returns-then-not-branch-clause-knows : goal.returns-then-not-branch-clause-knows
returns-then-not-branch-clause-knows g c = λ session number known. c.deliver_first.ensures.knows session number (c.loop-delivered.invariant.knows session number known)

pub loop-delivered-preserved : goal.loop-delivered-preserved
loop-delivered-preserved g c =
    let d = c.in_ok-deliver_first.ensures.delivered c.if-not-branch.false in
    record {
      topology = ap (λ (w : WorldValue). w.top) d.2.happened ∙ c.loop-delivered.invariant.topology;
      underway = λ left whole.
          taken_more (g.D.Deliveries.world c.args.world.now) (g.D.Deliveries.world c.loop-delivered.world) c.loop-delivered.invariant.topology c.loop-delivered.delivered left
          (g.D.Deliveries.world c.deliver_first.new.self) d.0 (c.loop-delivered.invariant.underway (suc left) (omega arith)) d.1 d.2;
      stays = λ start known. c.deliver_first.ensures.stays start (c.loop-delivered.invariant.stays start known);
      knows = λ session number known. c.deliver_first.ensures.knows session number (c.loop-delivered.invariant.knows session number known);
    }

pub returns-clause-ok : goal.returns-clause-ok
returns-clause-ok g c =
    let whole : c.loop-delivered.delivered + 0 ≡ 1000000 = omega arith in
    let start = g.D.Deliveries.world c.args.world.now in
    let here = g.D.Deliveries.world c.loop-delivered.world in
    subst (λ n. IsDrained start.top start.events here.events n) (omega arith)
    (all_made start.top start.events here.events c.loop-delivered.delivered (c.loop-delivered.invariant.underway 0 whole) whole)

pub returns-clause-topology : goal.returns-clause-topology
returns-clause-topology g c = c.loop-delivered.invariant.topology

pub returns-clause-in_time : goal.returns-clause-in_time
returns-clause-in_time g c room =
    world_in_time (g.D.Deliveries.world c.args.world.now) (g.D.Deliveries.world c.loop-delivered.world) c.topology-limits.ensures.limits c.loop-delivered.invariant.topology 1000000
    (returns-clause-ok g c) room

pub returns-clause-stays : goal.returns-clause-stays
returns-clause-stays g c = c.loop-delivered.invariant.stays

pub returns-clause-knows : goal.returns-clause-knows
returns-clause-knows g c = c.loop-delivered.invariant.knows
