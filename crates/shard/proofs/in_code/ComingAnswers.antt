-- What the store answers once a part is applied.
use Rattle.std.proofs.Common.{◌≡◌, ◌∙◌, sym, ap, refl, ℕ, List, [], ◌∷◌, map, Result, Ok, Err, IfOk}
use Rattle.logical_time.specs.declared.fault.Fault.{Fault}
use Rattle.logical_time.specs.Stamps.{TxnValue}
use Rattle.slice.specs.declared.read.Read.{Read}
use Rattle.column_family.specs.Normal.{IsNormal}
use Rattle.store.specs.declared.part.Applied.{Applied}
use Rattle.store.specs.Stored as in_store
use Rattle.store.specs.Keeps.{Keeps, IsNewStamp, AreApart}
use Rattle.messages.specs.declared.rows_at.AtTime.{AtTime}
use Rattle.messages.specs.declared.envelope.Envelope.{Envelope}
use Rattle.messages.specs.Shard.{ShardState, WaitingRead}
use Rattle.messages.specs.Reads.{at_time, part_at}
use Rattle.commit_check.specs.declared.cause.Cause.{Cause}
use Rattle.commit_check.specs.Waiting.{freed, reply}
use Rattle.shard.specs.Coming.{with_applied}
use Rattle.shard.proofs.in_code.Standing.{apart_last}

-- what is answered for each state, for whatever result
pub answered_with : (s : in_store.StoreValue) (x : Applied) (time : ℕ) (read : Read) (r : Result AtTime Fault)
    → ((a : ShardState) → Keeps s a.applied → a.low ≡ s.low → IsNormal x.part.batch → IsNewStamp x.stamp a.applied → IfOk r (λ z. z ≡ at_time (with_applied a x) time read))
    → IfOk r (λ z. (a : ShardState) → Keeps s a.applied → a.low ≡ s.low → AreApart (with_applied a x).applied → z ≡ at_time (with_applied a x) time read)
answered_with s x time read (Ok z) h = λ a keeps low apart. let p = apart_last a.applied x apart in h a keeps low p.0 p.1
answered_with s x time read (Err e) h = tt

-- the replies by what this state answers are its answers
pub replies_are : (me n : ℕ) (a : ShardState) (xs : List WaitingRead) → map (reply me n (at_time a)) xs ≡ map (part_at me n a) xs
replies_are me n a [] = refl
replies_are me n a (x ∷ xs) = ap (λ (es : List Envelope). part_at me n a x ∷ es) (replies_are me n a xs)

-- the answers of the next state to the reads that wait are those of the shard with this node
pub freed_are : (me node n : ℕ) (next : ShardState) (t u : TxnValue) (c : Cause) (waits waiting : List WaitingRead) → node ≡ me → u ≡ t → waiting ≡ waits
    → map (reply node n (at_time next)) (freed u c waits) ≡ map (part_at me n next) (freed t c waiting)
freed_are me node n next t u c waits waiting e f w =
    ap (λ (m : ℕ). map (reply m n (at_time next)) (freed u c waits)) e
    ∙ (ap (λ (v : TxnValue). map (reply me n (at_time next)) (freed v c waits)) f
    ∙ replies_are me n next (freed t c waits)
    ∙ ap (λ (ws : List WaitingRead). map (part_at me n next) (freed t c ws)) (sym w))
