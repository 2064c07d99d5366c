use Rattle.std.proofs.Common.{arith, map}
use Rattle.std.proofs.lemmas.List.{length-map}
use Rattle.serde_json.specs.View.{view}
use Rattle.workload.specs.Script.{event_of}
use Rattle.workload.proofs.Lists.{data_of_view, all_within_short, all_within_long}
use Rattle.workload.proofs.reading.each_within.Goals as goal

pub returns : goal.returns
returns c =
    let vs = c.in_ok-items.items.now.items in
    rw (c.in_ok-items.ensures, data_of_view vs, all_within_short (event_of c.args.topology.now) 100000 (map view vs) (simp length-map (omega (arith, c.len.ensures)))) c.each_event.ensures

pub returns-then-len-gt-MOST_EVENTS : goal.returns-then-len-gt-MOST_EVENTS
returns-then-len-gt-MOST_EVENTS c =
    let vs = c.in_ok-items.items.now.items in
    rw (c.in_ok-items.ensures, data_of_view vs) (all_within_long (event_of c.args.topology.now) 100000 (map view vs) (simp length-map (omega (arith, c.len.ensures))))
