use Rattle.std.proofs.Common.{◌≡◌, ◌≤◌, ap, arith}
use Rattle.world.specs.World.{WorldValue, run_of}
use Rattle.workload.specs.HasTold.{HasTold}
use Rattle.workload.specs.Marks.{merged}
use Rattle.workload.proofs.Shown.{shown_moved}
use Rattle.workload.proofs.simulating.simulate_to_the_end.Goals as goal

pub returns-clause-ok : goal.returns-clause-ok
returns-clause-ok c =
    let some : 1 ≤ c.shards-limits.result = c.shards-limits.ensures.limits.0 in
    let value : c.shards-limits.result ≡ c.args.script.now.topology.shards = c.shards-limits.ensures.value in
    let w = run_of c.play_all-played.new.world in
    let entries = merged c.as_slice-2.result.now c.leave-completed.result.items in
    let told : HasTold c.in_ok-world.world.top c.as_slice.result.now w entries = rw (c.as_slice-2.ensures.value, c.leave-completed.ensures) c.in_ok-marks.ensures.ok in
    shown_moved c.with_outcomes.result c.args.script.now c.in_ok-world.world.top c.as_slice.result.now w entries
    (omega arith) (ap (λ (v : WorldValue). v.top) c.in_ok-world.ensures.made) c.as_slice.ensures told c.with_outcomes.ensures.ok
