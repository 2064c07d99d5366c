use Rattle.std.proofs.Common.{◌∙◌, ◌<◌, ◌≤◌, length, sym, rules}
use Rattle.threaded.proofs.Gathering.{begun_next, all_lent}
use Rattle.threaded.proofs.entries.AllEndedIterator.next.Goals as goal

pub returns-then-from-homes-clause-steps : goal.returns-then-from-homes-clause-steps
returns-then-from-homes-clause-steps c =
    let i = c.loop-ended.self-inside in
    let le : length i.topology.now.homes ≤ i.sessions = search rules in (
      sym c.loop-ended.invariant ∙ all_lent i.topology.now i.seats.now i.sessions i.left c.in_default.ensures.none le,
      all_lent i.topology.now i.seats.now i.sessions c.next_of.new.left c.in_default.ensures.still le,
    )

pub loop-ended-preserved : goal.loop-ended-preserved
loop-ended-preserved c =
    let i = c.loop-ended.self-inside in
    let lt : i.sessions < length i.topology.now.homes = search rules in
    begun_next i.topology.now i.seats.now i.sessions i.left c.of_session-self-inside.result c.session_node-node.result c.in_default.ensures.none lt
    c.session_node-node.ensures c.of_session-self-inside.ensures
    ∙ c.loop-ended.invariant
