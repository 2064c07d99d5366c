use Rattle.std.proofs.Common.{◌≡◌, ◌-◌}
use Rattle.wire.specs.Reading.{list_at}
use Rattle.wire.proofs.Lists.{with_front}
use Rattle.wire.proofs.fields.list.Given as goal

abbrev pub invariant-loop : goal.invariant-loop
invariant-loop g l = with_front l.items.items (list_at g.T.Field.read_at (l.count - l.counter) l.rest) ≡ list_at g.T.Field.read_at l.count l.bytes
