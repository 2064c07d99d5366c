use Rattle.std.proofs.Common.{◌≡◌, map}
use Rattle.std.specs.Prelude.{filter}
use Rattle.std.specs.List.{range_with_len}
use Rattle.messages.specs.Topology.{session_node}
use Rattle.site.specs.Story.{is_here}
use Rattle.site_port.proofs.sessions.sessions_here.Given as goal

abbrev pub invariant-loop-index : goal.invariant-loop-index
invariant-loop-index g l = l.here.items ≡ filter (is_here l.site.site.top l.site.site.dc) (map (session_node l.site.site.top) (range_with_len 0 l.index))
