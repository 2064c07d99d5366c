-- Envelopes in the order of sending.
use Rattle.std.specs.Prelude.{ℕ, List}
use Rattle.messages.specs.declared.envelope.Envelope.{Envelope}

-- the envelopes that were sent, oldest first, and how many more fit without memory
pub record Posted : Type 0 where
  pub sent : List Envelope
  pub room : ℕ
