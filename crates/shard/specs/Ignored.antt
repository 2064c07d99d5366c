-- Events at which the machine's step only moves the clock.
use Rattle.std.specs.Prelude.{◌≡◌, ℕ}
use Rattle.messages.specs.declared.envelope.Envelope.{Envelope}
use Rattle.messages.specs.Topology.{TopologyValue}
use Rattle.messages.specs.Shard.{ShardState, ShardStep, quiet}
use Rattle.messages.specs.ShardEvents.{handled}
use Rattle.shard.specs.declared.kept.ShardKept.{ShardKept}
use Rattle.shard.specs.Kept.{Represents}

-- at every clock the machine's step at this envelope only moves the clock
abbrev pub IsIgnored : TopologyValue → ℕ → ShardState → Envelope → Type 0
IsIgnored top me a e = (n : ℕ) → handled top me n a e.from e.body ≡ quiet n a

-- this, if for a state that what is kept stands for the step at this clock moves the clock alone
abbrev pub IfIgnored : (TopologyValue → ℕ → ShardState → ShardStep) → ℕ → ShardKept → Type 0 → Type 0
IfIgnored step n k P = (top : TopologyValue) (me : ℕ) (a : ShardState) → Represents top me k a → step top me a ≡ quiet n a → P
