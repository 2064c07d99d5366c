-- Notices of decisions, as envelopes.
use Rattle.std.specs.Prelude.{◌≡◌, ℕ, [], ◌∷◌, ◌++◌}
use Rattle.logical_time.specs.Stamps.{StampValue, TxnValue}
use Rattle.messages.specs.declared.body.Body.TheVariants.{Commit}
use Rattle.messages.specs.declared.envelope.Envelope.{Envelope}
use Rattle.messages.specs.Words.{envelope}
use Rattle.messages.specs.Outbox.{Posted}

-- what the actor with this node sends at this time to tell a node of a decision
abbrev pub commit_to : ℕ → ℕ → TxnValue → ℕ → StampValue → ℕ → Envelope
commit_to from time txn commit stamp to = envelope from to time (Commit txn commit stamp)

-- this envelope was posted, and nothing else
abbrev pub Posts : Posted → Envelope → Posted → Type 0
Posts before e after = after.sent ≡ before.sent ++ e ∷ []
