use Rattle.std.proofs.Common.{◌≡◌}
use Rattle.slice.specs.Live.{in_name_order}
use Rattle.slice.proofs.NameOrder.{put_among}
use Rattle.slice.proofs.ordering.set_of.Given as goal

-- what is left of the names, put into the set, gives the set of all
abbrev pub invariant-loop-name : goal.invariant-loop-name
invariant-loop-name l = put_among l.name-iterator.iter.rest.now l.set.keys ≡ in_name_order l.names
