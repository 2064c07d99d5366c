use Rattle.std.proofs.Common.{◌≡◌, ◌≤◌, ap, arith}
use Rattle.world.specs.World.{WorldValue, run_of}
use Rattle.workload.specs.HasTold.{HasTold}
use Rattle.workload.specs.Text.{text_of}
use Rattle.workload.proofs.Shown.{shown_told}
use Rattle.tracing.proofs.Tracings.{run_is, was_told}
use Rattle.tracing.proofs.playing.trace.Goals as goal

pub returns-in-Ok-clause-run : goal.returns-in-Ok-clause-run
returns-in-Ok-clause-run c =
    let w = run_of c.play_all-played.new.world in
    let top = c.in_ok-world.world.top in
    let told = was_told c.play_all-played.result (λ t. c.in-Ok.text.items ≡ text_of t) (HasTold top c.as_slice.result.now w) c.in-Ok.ensures.ok c.play_all-played.ensures.ok in
    run_is c.args.script.now top c.as_slice.result.now w told.0 (ap (λ (v : WorldValue). v.top) c.in_ok-world.ensures.made) c.as_slice.ensures told.2

pub returns-in-Ok-clause-text : goal.returns-in-Ok-clause-text
returns-in-Ok-clause-text c =
    let some : 1 ≤ c.shards-limits.result = c.shards-limits.ensures.limits.0 in
    let value : c.shards-limits.result ≡ c.args.script.now.topology.shards = c.shards-limits.ensures.value in
    let w = run_of c.play_all-played.new.world in
    let top = c.in_ok-world.world.top in
    let told = was_told c.play_all-played.result (λ t. c.in-Ok.text.items ≡ text_of t) (HasTold top c.as_slice.result.now w) c.in-Ok.ensures.ok c.play_all-played.ensures.ok in (
      told.0,
      shown_told c.args.script.now top c.as_slice.result.now w told.0 (omega arith) (ap (λ (v : WorldValue). v.top) c.in_ok-world.ensures.made) c.as_slice.ensures told.2,
      told.1,
    )
