use Rattle.std.proofs.Common.{◌++◌, ◌∷◌, [], refl}
use Rattle.ledger.specs.declared.entry.Entry.TheVariants.{Rested}
use Rattle.durable.proofs.Logs.{notes_too}
use Rattle.durable.proofs.Requests.{entry_led, rested_event}
use Rattle.durable.proofs.resting.rest_at.Goals as goal

pub returns-in-Ok-clause-logged : goal.returns-in-Ok-clause-logged
returns-in-Ok-clause-logged g c = λ l. record {
  entries = l.entries ++ Rested c.args.shard ∷ [];
  notes = notes_too g.D.Disk.seen g.D.Disk.may_leave c.note_rest.new.log c.in_ok-mark.mark l.entries (Rested c.args.shard) (c.in_ok-mark.ensures.ok l.entries l.notes);
  led = entry_led c.args.world.now.top c.args.world.now.events c.collect.new.self.events (Rested c.args.shard) l.entries c.requires.quiet
      (rested_event c.args.world.now.top c.args.world.now c.collect.new.self c.new.result c.args.shard refl c.new.ensures c.in-Ok.ensures.taken) l.led;
}
