-- What an open move misses.
use Rattle.std.specs.Prelude.{◌≡◌, ℕ, Bool, true, false, List, [], ◌∷◌, filter}
use Rattle.std.specs.BTreeSet.{BTreeSet, contains}
use Rattle.logical_time.specs.Stamps.{TxnValue, WriterValue, txn_cmp}
use Rattle.messages.specs.SessionEvents.{is_left}

-- the writers whose transactions are among these
abbrev pub still_missing : BTreeSet TxnValue → List WriterValue → List WriterValue
still_missing txns ws = filter (λ w. contains txn_cmp txns w.txn) ws

-- each of these transactions is that of a writer
abbrev pub AreAsked : BTreeSet TxnValue → List WriterValue → Type 0
AreAsked txns ws = (t : TxnValue) → contains txn_cmp txns t ≡ true → is_left t ws ≡ true

-- whether no answer is missing
abbrev pub none_left : List WriterValue → Bool
none_left [] = true
none_left (w ∷ ws) = false

-- an open move: the dependencies whose answers are missing, and the greatest commit time that was told so far
pub record MoveValue : Type 0 where
  pub left : List WriterValue
  pub floor : ℕ
