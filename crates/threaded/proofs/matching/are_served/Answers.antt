use Rattle.std.proofs.Common.{◌≡◌, ◌&&◌, true, refl, subst, rules}
use Rattle.std.specs.Prelude.{◌↔◌}
use Rattle.messages.specs.Topology.{node_count}
use Rattle.threaded.specs.Quiet.{IsKeptAt, AreReceivedOf}
use Rattle.threaded.proofs.Counting.{one_more_served, one_more_kept_at}
use Rattle.threaded.proofs.matching.are_served.Goals as goal

pub loop-node-preserved : goal.loop-node-preserved
loop-node-preserved c =
    let count = node_count c.args.topology.now in
    let seats = c.args.seats.now in
    let node = c.loop-node.node in
    let is : c.new.result ≡ node = search rules in
    let here = subst (λ k. (c.in_ok-served.served ≡ true) ↔ AreReceivedOf count seats k) is c.in_ok-served.ensures.ok in
    let kept = subst (λ k. IsKeptAt seats k) is c.in_ok-served.ensures.kept in (
      one_more_served count seats node c.loop-node.all (c.loop-node.all && c.in_ok-served.served) c.in_ok-served.served refl here c.loop-node.invariant.0,
      one_more_kept_at seats node kept c.loop-node.invariant.1,
    )
