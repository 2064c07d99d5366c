use Rattle.std.proofs.Common.{◌≡◌, ◌∙◌, List, [], ◌∷◌, ◌++◌, refl, sym, subst, append_assoc, append-nil, rules, arith}
use Rattle.std.proofs.lemmas.Grind.{common_steps}
use Rattle.std.proofs.lemmas.List.{map-id}
use Rattle.std.proofs.lemmas.Iterator.Adapters.{YieldsList-from_vec}
use Rattle.std.proofs.lemmas.Iterator.Consumers.{YieldsList-end}
use Rattle.messages.specs.Topology.{TopologyValue}
use Rattle.world.specs.Run.{run}
use Rattle.world.specs.Quiet.{IsQuiet}
use Rattle.service.specs.Port.{IsReady}
use Rattle.ledger.specs.declared.entry.Entry.{Entry}
use Rattle.durable.specs.Playing.{IsLed}
use Rattle.durable.proofs.Requests.{ready_led}
use Rattle.durable.proofs.recovering.replay_all.Goals as goal

pub loop-entry-init : goal.loop-entry-init
loop-entry-init g c = record { topology = refl; led = λ es p. subst (λ (l : List Entry). IsLed (g.W.Deliveries.world c.args.world.now).top (g.W.Deliveries.world c.args.world.now).events l) (sym (append-nil es)) p; parts = grind (arith, common_steps) }

pub loop-entry-preserved : goal.loop-entry-preserved
loop-entry-preserved g c =
    let top = (g.W.Deliveries.world c.args.world.now).top in
    let inv = c.loop-entry.invariant in
    let before = (g.W.Deliveries.world c.loop-entry.world).events in
    let after = (g.W.Deliveries.world c.replay.new.world).events in
    let done = c.loop-entry.yielded in
    let one = c.in-Some.entry ∷ [] in
    record {
      topology = c.replay.ensures.topology ∙ inv.topology;
      led = λ es p.
          subst (λ (l : List Entry). IsLed top after l) (append_assoc es done one)
          (subst (λ (t : TopologyValue). IsLed t after ((es ++ done) ++ one)) inv.topology
          (c.in_ok-replay.ensures.ok (es ++ done) (subst (λ (t : TopologyValue). IsLed t before (es ++ done)) (sym inv.topology) (inv.led es p))));
      parts = grind (arith, common_steps);
    }

pub returns-in_err-replay-clause-topology : goal.returns-in_err-replay-clause-topology
returns-in_err-replay-clause-topology g c = c.replay.ensures.topology ∙ c.loop-entry.invariant.topology

pub returns-in-Ok-clause-ok : goal.returns-in-Ok-clause-ok
returns-in-Ok-clause-ok g c = λ es p.
    let top = (g.W.Deliveries.world c.args.world.now).top in
    let inv = c.loop-entry.invariant in
    let given = c.into_iter-entry-iterator.ensures.into_iter_gives in
    let end = YieldsList-end (YieldsList-from_vec {s = c.into_iter-entry-iterator.result} c.args.entries.items given.0 (search rules)) c.loop-entry.yielded c.loop-entry.entry-iterator c.loop-entry.yielded_by c.next.result c.next.new.self c.in-None.is c.next.ensures.steps in
    let all : c.loop-entry.yielded ≡ c.args.entries.items = sym (map-id c.loop-entry.yielded) ∙ end.0 in
    let ready : IsReady top (g.W.Deliveries.world c.loop-entry.world).events (g.W.Deliveries.world c.make_ready.new.world).events =
    subst (λ (t : TopologyValue). IsReady t (g.W.Deliveries.world c.loop-entry.world).events (g.W.Deliveries.world c.make_ready.new.world).events) inv.topology c.in-Ok.ensures.ok in
    ready_led top (g.W.Deliveries.world c.loop-entry.world).events (g.W.Deliveries.world c.make_ready.new.world).events (es ++ c.args.entries.items) ready
    (subst (λ (l : List Entry). IsLed top (g.W.Deliveries.world c.loop-entry.world).events (es ++ l)) all (inv.led es p))

pub returns-in-Ok-clause-quiet : goal.returns-in-Ok-clause-quiet
returns-in-Ok-clause-quiet g c = subst (λ (t : TopologyValue). IsQuiet (run t (g.W.Deliveries.world c.make_ready.new.world).events)) (sym c.in-Ok.ensures.topology) c.in-Ok.ensures.ok.left.quiet
