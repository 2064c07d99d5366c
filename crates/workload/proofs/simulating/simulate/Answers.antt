use Rattle.std.proofs.Common.{◌≡◌, ◌≤◌, ap, arith}
use Rattle.world.specs.World.{WorldValue, run_of}
use Rattle.workload.specs.Marks.{merged}
use Rattle.workload.proofs.Shown.{shown_copied}
use Rattle.workload.proofs.simulating.simulate.Goals as goal

pub returns-clause-ok : goal.returns-clause-ok
returns-clause-ok c =
    let some : 1 ≤ c.shards-limits.result = c.shards-limits.ensures.limits.0 in
    let value : c.shards-limits.result ≡ c.args.script.now.topology.shards = c.shards-limits.ensures.value in
    let w = run_of c.play_all-played.new.world in
    shown_copied c.copied_transcript-transcript.result c.play_all-played.result (λ marks. merged marks.items w.transcript) c.args.script.now c.in_ok-world.world.top c.as_slice.result.now w
    (omega arith) (ap (λ (v : WorldValue). v.top) c.in_ok-world.ensures.made) c.as_slice.ensures c.play_all-played.ensures.ok c.copied_transcript-transcript.ensures.ok
