use Rattle.std.proofs.Common.{◌≡◌, ◌≤◌, true, ap, arith}
use Rattle.std.specs.Prelude.{◌↔◌}
use Rattle.world.specs.Quiet.{IsQuiet}
use Rattle.world.specs.World.{WorldValue, run_of}
use Rattle.workload.specs.Marks.{merged}
use Rattle.workload.proofs.Audits.{told_audited, in_run_of}
use Rattle.workload.proofs.auditing.simulate_audited.Goals as goal

pub returns-clause-told : goal.returns-clause-told
returns-clause-told g c =
    let some : 1 ≤ c.shards-limits.result = c.shards-limits.ensures.limits.0 in
    let value : c.shards-limits.result ≡ c.args.script.now.topology.shards = c.shards-limits.ensures.value in
    let w = run_of c.play_all-played.new.world in
    told_audited c.audited-found.result (λ r. r.0) c.play_all-played.result (λ marks. merged marks.items w.transcript) c.args.script.now c.in_ok-world.world.top c.as_slice.result.now w
    (omega arith) (ap (λ (v : WorldValue). v.top) c.in_ok-world.ensures.made) c.as_slice.ensures c.play_all-played.ensures.ok c.audited-found.ensures.told

pub returns-clause-quiet : goal.returns-clause-quiet
returns-clause-quiet g c =
    let w = run_of c.play_all-played.new.world in
    in_run_of (λ r v. (r.1 ≡ true) ↔ IsQuiet v) c.audited-found.result (λ r. r.0) c.play_all-played.result (λ marks. merged marks.items w.transcript) c.args.script.now c.in_ok-world.world.top c.as_slice.result.now w
    (ap (λ (v : WorldValue). v.top) c.in_ok-world.ensures.made) c.as_slice.ensures c.play_all-played.ensures.ok c.audited-found.ensures.told c.audited-found.ensures.quiet
