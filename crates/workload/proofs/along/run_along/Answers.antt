use Rattle.std.proofs.Common.{◌≡◌, ◌≤◌, subst, sym, arith, rules}
use Rattle.json.specs.Lex.{tokens}
use Rattle.world.specs.World.{run_of}
use Rattle.workload.specs.Marks.{merged}
use Rattle.workload.specs.Streams.{Begins}
use Rattle.workload.proofs.Since.{text_played}
use Rattle.workload.proofs.along.run_along.Goals as goal

pub returns-in-Some : goal.returns-in-Some
returns-in-Some c =
    let all : tokens c.args.text.now ≡ c.in_ok-reader.reader = grind arith in
    let begins = subst (λ ts. Begins ts c.begun.new.reader c.in_ok-topology.topology) (sym all) c.in_ok-topology.ensures in
    let some : 1 ≤ c.shards-limits.result = c.shards-limits.ensures.limits.0 in
    let value : c.shards-limits.result ≡ c.in_ok-topology.topology.shards = c.shards-limits.ensures.value in
    let w = run_of c.play_along-played.new.world in
    let is : c.in_ok-transcript-in-Some.transcript ≡ merged c.as_slice.result.now c.leave-completed.result.items = search rules in
    let moved : c.in_ok-transcript-in-Some.transcript ≡ merged c.in-Some.marks.items w.transcript = rw (← c.as_slice.ensures.value, ← c.leave-completed.ensures) is in
    text_played c.args.text.now c.begun.new.reader c.play_along-played.new.reader c.in_ok-topology.topology w c.in-Some.marks.items c.in_ok-transcript-in-Some.transcript
    begins c.in-Some.ensures (c.is_end.ensures c.if-is_end.true) (omega arith) moved
