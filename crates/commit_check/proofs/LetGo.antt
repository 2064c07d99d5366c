-- How the machine lets waiting reads go, by what is freed and what goes on waiting.
use Rattle.std.proofs.Common.{◌≡◌, refl, ℕ, true, List, ◌++◌, map}
use Rattle.std.specs.Prelude.{nat_le}
use Rattle.logical_time.specs.Stamps.{TxnValue}
use Rattle.messages.specs.declared.envelope.Envelope.{Envelope}
use Rattle.messages.specs.Shard.{ShardState, ShardStep, WaitingRead}
use Rattle.messages.specs.Reads.{at_time, is_waiting, let_go, part_at}
use Rattle.commit_check.specs.declared.cause.Cause.{Cause}
use Rattle.commit_check.specs.declared.cause.Cause.TheVariants.{Applied, NotBy}
use Rattle.commit_check.specs.Waiting.{freed, is_among, reply, still}

-- a step that lets reads go, by the answers from this state
abbrev pub let_go_by : ℕ → ℕ → ShardState → TxnValue → Cause → List Envelope → ShardStep
let_go_by me n a t by sends =
    record {
      state = record a { clock = n; waiting = still t by a.waiting };
      sends = sends ++ map (reply me n (at_time a)) (freed t by a.waiting);
    }

-- at an application
pub let_go_applied : (me n : ℕ) (a : ShardState) (t : TxnValue) (sends : List Envelope) → let_go me n a t (λ x. true) sends ≡ let_go_by me n a t Applied sends
let_go_applied me n a t sends = refl

-- at a NotBy
pub let_go_not_by : (me n : ℕ) (a : ShardState) (t : TxnValue) (time : ℕ) (sends : List Envelope)
    → let_go me n a t (λ x. nat_le x.time time) sends ≡ let_go_by me n a t (NotBy time) sends
let_go_not_by me n a t time sends = refl

-- an answer from a state
pub reply_is : (me n : ℕ) (a : ShardState) (x : WaitingRead) → reply me n (at_time a) x ≡ part_at me n a x
reply_is me n a x = refl

pub waiting_is : (a : ShardState) (session number : ℕ) → is_among session number a.waiting ≡ is_waiting a session number
waiting_is a session number = refl
