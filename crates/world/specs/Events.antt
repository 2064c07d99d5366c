-- How the events of a run are kept.
use Rattle.std.specs.Prelude.{ℕ, List, [], ◌∷◌, map, flat_map}
use Rattle.std.specs.List.{range_with_len}
use Rattle.world.specs.declared.stretches.Stretch.{Stretch}
use Rattle.world.specs.declared.stretches.Stretch.TheVariants.{Submission, Deliveries, Collection}
use Rattle.world.specs.Run.{RunEvent, Submit, Deliver, Collect}

-- the events, oldest first, and how many more fit without memory whatever they are
pub record EventsValue : Type 0 where
  pub items : List RunEvent
  pub room : ℕ

-- the events that a stretch stands for: a submission, a collection, or the deliveries of messages that follow each other
abbrev pub events_of : Stretch → List RunEvent
events_of (Submission session o) = Submit session o ∷ []
events_of (Deliveries first count) = map Deliver (range_with_len first count)
events_of (Collection shard time) = Collect shard time ∷ []

-- those of all stretches, one after the other
abbrev pub events_in : List Stretch → List RunEvent
events_in stretches = flat_map events_of stretches
