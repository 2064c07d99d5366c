-- A transaction was submitted once, with one batch; what is applied of it is seen; and no shard decides it twice.
use Rattle.std.proofs.Common.{◌≡◌, true, List, [], ◌∷◌, ◌++◌, inl, inr, sym, ap, ◌∙◌}
use Rattle.std.specs.Prelude.{Contains}
use Rattle.logical_time.specs.Stamps.{TxnValue}
use Rattle.column_family.specs.declared.batch.Change.{Change}
use Rattle.messages.specs.declared.op.Op.TheVariants as op
use Rattle.messages.specs.Topology.{TopologyValue}
use Rattle.messages.specs.Shard.{Decision, ShardState}
use Rattle.messages.specs.Known.{is_applied}
use Rattle.messages.specs.Words.{is_same_txn}
use Rattle.world.specs.Run.{Run, Submission}
use Rattle.world.proofs.lists.Members.{none_in_empty, contains_first, contains_rest, last_or_old, any_found, same_txn}
use Rattle.world.proofs.safety.Facts.{IsWritten, DecidedOnce, Sees}
use Rattle.world.proofs.safety.Invariant.{SubmittedSound}

-- ## One submission

pub written_at : {w : Run} {t u : TxnValue} {b : Submission} {batch : List Change} → t ≡ u → IsWritten w t b batch → IsWritten w u b batch
written_at e k = record { among = k.among; txn = k.txn ∙ e; op = k.op }

-- a transaction was submitted once
pub submitted_one : {top : TopologyValue} {w : Run} {t : TxnValue} {b c : Submission} {batch other : List Change} → SubmittedSound top w → IsWritten w t b batch → IsWritten w t c other → b ≡ c
submitted_one {b = b} {c = c} k h i = k.one b c h.among i.among (h.txn ∙ sym i.txn)

same_batch : (batch other : List Change) → op.Batch batch ≡ op.Batch other → batch ≡ other
same_batch batch other e = cc

-- with one batch
pub batch_one : {top : TopologyValue} {w : Run} {t : TxnValue} {b c : Submission} {batch other : List Change} → SubmittedSound top w → IsWritten w t b batch → IsWritten w t c other → batch ≡ other
batch_one {batch = batch} {other = other} k h i = same_batch batch other (sym h.op ∙ ap (λ s. s.op) (submitted_one k h i) ∙ i.op)

-- ## Parts and decisions

pub applied_sees : (t : TxnValue) (a : ShardState) → is_applied t a ≡ true → Sees a.applied t
applied_sees t a e =
    let r = any_found (λ v. is_same_txn v.part.writer.txn t) a.applied e in
    (r.0, r.1, same_txn r.0.part.writer.txn t r.2)

-- one more decision
pub once_more : (ds : List Decision) (d : Decision) → DecidedOnce ds → ((e : Decision) → Contains ds e → e.txn ≡ d.txn → ⊥) → DecidedOnce (ds ++ d ∷ [])
once_more [] d once none = (λ e m. absurd (none_in_empty e m), tt)
once_more (x ∷ ds) d once none =
    (λ e m q. elim (last_or_old e d ds m) [ inl o ↦ once.0 e o q | inr r ↦ none x (contains_first x ds) (sym q ∙ ap (λ z. z.txn) r) ], once_more ds d once.1 (λ e m. none e (contains_rest x e ds m)))
