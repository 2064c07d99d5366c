use Rattle.std.proofs.Common.{◌≡◌, List, ◌++◌}
use Rattle.ledger.specs.declared.entry.Entry.{Entry}
use Rattle.durable.specs.Playing.{IsLed}
use Rattle.durable.proofs.recovering.replay_all.Given as goal

-- the entries so far led to what happened, and the others are left
abbrev pub invariant-loop-entry : goal.invariant-loop-entry
invariant-loop-entry g l = record {
  topology : (g.W.Deliveries.world l.world).top ≡ (g.W.Deliveries.world l.fn.world).top;
  led : (es : List Entry) → IsLed (g.W.Deliveries.world l.fn.world).top (g.W.Deliveries.world l.fn.world).events es → IsLed (g.W.Deliveries.world l.fn.world).top (g.W.Deliveries.world l.world).events (es ++ l.yielded);
  parts : l.yielded ++ l.entry-iterator.rest.items ≡ l.fn.entries.items;
}
