-- What a site was made to do: all on which depends what it comes to.
use Rattle.std.specs.Prelude.{ℕ, List, filter_map, Option, None, Some}
use Rattle.messages.specs.declared.envelope.Envelope.{Envelope}
use Rattle.messages.specs.declared.op.Op.{Op}
use Rattle.messages.specs.declared.event.ActorEvent.{ActorEvent}
use Rattle.messages.specs.declared.event.ActorEvent.TheVariants.{Submit, Handle, Collect}
use Rattle.site.specs.Story.{Story, Happening, Did, Heard, Given}

-- a session was asked for an operation; an envelope came from the site of another data centre; the envelope that waited first was
-- handled; or a shard collected up to a time
pub data Step : Type 0 where
  Asked : (node : ℕ) (op : Op) → Step
  Came : (from : ℕ) (envelope : Envelope) → Step
  Turned : Step
  Collected : (node time : ℕ) → Step

abbrev pub step_by : ℕ → ActorEvent → Step
step_by node (Submit o) = Asked node o
step_by node (Handle e) = Turned
step_by node (Collect time) = Collected node time

-- the step by which a thing happened; what is given to other sites happens by none
abbrev pub step_of : Happening → Option Step
step_of (Did node x sends ended) = Some (step_by node x)
step_of (Heard from e) = Some (Came from e)
step_of (Given e) = None

-- all steps of a story, oldest first
abbrev pub steps : Story → List Step
steps s = filter_map step_of s
