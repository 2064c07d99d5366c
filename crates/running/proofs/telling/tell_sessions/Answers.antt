use Rattle.std.proofs.Common.{◌∙◌, ap}
use Rattle.messages.specs.Topology.{session_node}
use Rattle.running.proofs.ToldMore.{another_told}
use Rattle.running.proofs.telling.tell_sessions.Goals as goal

pub loop-session-preserved : goal.loop-session-preserved
loop-session-preserved c =
    let n = c.loop-session.session in
    another_told c.args.concluded.now.top c.args.concluded.now.seats n c.session_node.result c.args.transcript.now c.loop-session.transcript c.tell_at.new.transcript
    (c.session_node.ensures ∙ ap (λ t. session_node t n) c.topology-topology.ensures) c.loop-session.invariant c.in_ok-tell_at.ensures.told
