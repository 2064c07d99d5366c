-- What one shard met in a run: its horizon, and the envelopes that it handled.
use Rattle.std.specs.Prelude.{ℕ, ◌==◌, if◌then◌else◌, List, map, filter, filter_map, slice_get}
use Rattle.store.specs.Part.{greatest_of}
use Rattle.messages.specs.declared.envelope.Envelope.{Envelope}
use Rattle.world.specs.Run.{Run, RunEvent, Submit, Deliver, Collect}
use Rattle.world.specs.Quiet.{handled}

abbrev pub time_collected : ℕ → RunEvent → ℕ
time_collected node (Submit session op) = 0
time_collected node (Deliver k) = 0
time_collected node (Collect shard time) = if shard == node then time else 0

-- the horizon of a shard: the greatest time of its collections, 0 without any
abbrev pub horizon : Run → ℕ → ℕ
horizon w node = greatest_of (map (time_collected node) w.events)

-- the envelopes that the actor of this node handled, in order, repeats included
abbrev pub envelopes_to : Run → ℕ → List Envelope
envelopes_to w node = filter (λ e. e.to == node) (filter_map (λ k. slice_get w.sent k) (handled w))
