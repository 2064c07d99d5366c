use Rattle.std.proofs.Common.{◌≡◌, ◌∙◌, List, [], ◌++◌, refl, sym, subst, ap, rules}
use Rattle.messages.specs.Topology.{TopologyValue}
use Rattle.world.specs.Run.{run}
use Rattle.world.specs.Quiet.{IsQuiet}
use Rattle.world.specs.World.{WorldValue}
use Rattle.world.proofs.envelopes.Addresses.{stands}
use Rattle.world.proofs.in_code.Held.{told_quiet}
use Rattle.ledger.specs.declared.entry.Entry.{Entry}
use Rattle.durable.specs.Playing.{IsLed}
use Rattle.durable.proofs.Playing.{outlives}
use Rattle.durable.proofs.recovering.recall_entries.Given as given
use Rattle.durable.proofs.recovering.recall_entries.Goals as goal

-- the entries led from the beginning to what happened
led_here : (g : given.Over) (c : goal.In-Ok g) → IsLed c.args.topology.now c.replay_all.new.world.events c.args.entries.items
led_here g c =
    subst (λ (w : WorldValue). IsLed w.top c.replay_all.new.world.events c.args.entries.items) c.in_ok-world.ensures.made
    (c.in-Ok.ensures.ok [] (subst (λ (w : WorldValue). IsLed w.top w.events []) (sym c.in_ok-world.ensures.made) refl))

pub returns-in-Ok-clause-led : goal.returns-in-Ok-clause-led
returns-in-Ok-clause-led g c = led_here g c

pub returns-in-Ok-clause-outlives : goal.returns-in-Ok-clause-outlives
returns-in-Ok-clause-outlives g c = λ before es more parts led.
    let top = c.args.topology.now in
    let after = c.replay_all.new.world.events in
    let same : c.replay_all.new.world.top ≡ top = c.in-Ok.ensures.topology ∙ ap (λ (w : WorldValue). w.top) c.in_ok-world.ensures.made in
    let quiet : IsQuiet (run top after) = subst (λ (t : TopologyValue). IsQuiet (run t after)) same c.in-Ok.ensures.quiet in
    let all : IsLed top after (es ++ more) = subst (λ (l : List Entry). IsLed top after l) parts (led_here g c) in
    outlives top before after es more (stands top (search rules)).some led all ((told_quiet top after).1 quiet)
