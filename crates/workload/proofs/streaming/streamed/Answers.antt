use Rattle.std.proofs.Common.{◌≡◌, subst, sym, arith}
use Rattle.json.specs.Lex.{tokens}
use Rattle.workload.specs.Streams.{Begins}
use Rattle.workload.proofs.Members.{begun_reads}
use Rattle.workload.proofs.streaming.streamed.Goals as goal

pub returns : goal.returns
returns c =
    let all : tokens c.args.text.now ≡ c.in_ok-reader.reader = grind arith in
    let begins = subst (λ ts. Begins ts c.begun.new.reader c.in_ok-topology.topology) (sym all) c.in_ok-topology.ensures in
    rw c.from_vec.ensures (begun_reads c.args.text.now c.begun.new.reader c.events.new.reader c.in_ok-topology.topology c.in_ok-events.events.items begins c.in_ok-events.ensures (c.is_end.ensures (grind arith)) (omega (arith, c.len.ensures)))
