use Rattle.std.proofs.Common.{◌<◌, ◌≤◌, refl, subst}
use Rattle.messages.specs.Topology.{node_count}
use Rattle.running.proofs.ToldMore.{one_more_taken, all_taken, one_missing}
use Rattle.running.proofs.telling.have_taken.Goals as goal

pub returns-then-not-took : goal.returns-then-not-took
returns-then-not-took c =
    let lt : c.loop-node.node < node_count c.args.script.now.topology = subst (λ n. c.loop-node.node < n) c.node_count-node-end.ensures.value c.loop-node-test.true in (
      λ no. absurd (cc),
      λ all.
          absurd
          (one_missing c.args.script.now c.args.concluded.now.seats c.loop-node.node c.new.result c.new.ensures lt
          (λ took. let no = c.if-not-took.ensures.1 took in absurd (cc)) all),
    )

pub loop-node-preserved : goal.loop-node-preserved
loop-node-preserved c =
    one_more_taken c.args.script.now c.args.concluded.now.seats c.loop-node.node c.new.result c.new.ensures (c.if-not-took.ensures.0 refl) c.loop-node.invariant

pub returns : goal.returns
returns c =
    let le : node_count c.args.script.now.topology ≤ c.loop-node.node = subst (λ n. n ≤ c.loop-node.node) c.node_count-node-end.ensures.value c.loop-node-test.false in
    (λ on. all_taken c.args.script.now c.args.concluded.now.seats c.loop-node.node le c.loop-node.invariant, λ all. refl)
