use Rattle.std.proofs.Common.{◌≡◌, ◌∙◌, refl, ap, inr}
use Rattle.messages.specs.Topology.{session_node}
use Rattle.ledger.specs.declared.entry.Entry.TheVariants.{Request}
use Rattle.durable.proofs.Requests.{entry_led, ready_led, submitted_event, no_submission}
use Rattle.durable.proofs.recovering.replay_request.Goals as goal

pub returns-in-Ok-clause-ok : goal.returns-in-Ok-clause-ok
returns-in-Ok-clause-ok g c = λ es led.
    let old = g.W.Deliveries.world c.args.world.now in
    let mid = g.W.Deliveries.world c.make_ready.new.world in
    let new = g.W.Deliveries.world c.submit_again.new.self in
    let ready = c.in_ok-make_ready.ensures.ok in
    let at : c.session_node-session.result ≡ session_node old.top c.args.index =
    c.session_node-session.ensures ∙ ap (λ t. session_node t c.args.index) (c.topology-2.ensures.value ∙ c.in_ok-make_ready.ensures.topology) in
    entry_led old.top mid.events new.events (Request c.args.index c.args.op) es ready.left.quiet
    (submitted_event old.top mid new c.session_node-session.result c.args.index c.args.op at c.in-Ok.ensures.taken)
    (ready_led old.top old.events mid.events es ready led)

pub returns-in-Err-clause-refused : goal.returns-in-Err-clause-refused
returns-in-Err-clause-refused g c =
    let old = g.W.Deliveries.world c.args.world.now in
    let mid = g.W.Deliveries.world c.make_ready.new.world in
    let new = g.W.Deliveries.world c.submit_again.new.self in
    let at : c.session_node-session.result ≡ session_node old.top c.args.index =
    c.session_node-session.ensures ∙ ap (λ t. session_node t c.args.index) (c.topology-2.ensures.value ∙ c.in_ok-make_ready.ensures.topology) in
    inr (new.events, no_submission old.top old mid new c.session_node-session.result c.args.index c.args.op c.in-Err.fault refl at c.in_ok-make_ready.ensures.ok c.in_ok-make_ready.ensures.topology c.in-Err.ensures.refused c.in-Err.ensures.same)
