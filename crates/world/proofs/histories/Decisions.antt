-- Decisions in a run: by whom they are made, that a data centre makes one of a transaction, and their stamps.
use Rattle.std.proofs.Common.{◌≡◌, ◌∙◌, ℕ, List, sym, ap, subst}
use Rattle.std.specs.Prelude.{Contains}
use Rattle.logical_time.specs.Stamps.{StampValue, TxnValue}
use Rattle.column_family.specs.declared.batch.Change.{Change}
use Rattle.messages.specs.declared.op.Op.TheVariants as op
use Rattle.messages.specs.Topology.{TopologyValue, dc_of}
use Rattle.messages.specs.Shard.{Decision}
use Rattle.world.specs.Run.{Run, Submission}
use Rattle.world.proofs.safety.Facts.{txn_of, IsWritten, IsStamp, DecisionSound, lead}
use Rattle.world.proofs.safety.Invariant.{Inv, SubmittedSound}

-- ## One submission

-- an operation is submitted once, with one batch
pub one_batch : (top : TopologyValue) (w : Run) (t : TxnValue) (b c : Submission) (xs ys : List Change) → SubmittedSound top w → IsWritten w t b xs
    → IsWritten w t c ys → (b ≡ c) × (xs ≡ ys)
one_batch top w t b c xs ys s p q =
    let same : b ≡ c = s.one b c p.among q.among (p.txn ∙ sym q.txn) in
    let ops : op.Batch xs ≡ op.Batch ys = sym p.op ∙ ap (λ (z : Submission). z.op) same ∙ q.op in
    (same, cc)

-- the same of two names for the transaction
pub same_batch : (top : TopologyValue) (w : Run) (t u : TxnValue) (b c : Submission) (xs ys : List Change) → SubmittedSound top w → t ≡ u
    → IsWritten w t b xs → IsWritten w u c ys → (b ≡ c) × (xs ≡ ys)
same_batch top w t u b c xs ys s e p q = one_batch top w u b c xs ys s (subst (λ z. IsWritten w z b xs) e p) q

-- ## One decision

pub sound : (top : TopologyValue) (w : Run) (x : ℕ) (d : Decision) → Inv top w → Contains (w.shards x).decided d → DecisionSound top w x d
sound top w x d inv m = (inv.shards x).decided d m

-- in one data centre one shard decides a transaction
pub one_lead : (top : TopologyValue) (w : Run) (x y : ℕ) (d e : Decision) → Inv top w
    → Contains (w.shards x).decided d → Contains (w.shards y).decided e → d.txn ≡ e.txn → dc_of top x ≡ dc_of top y → x ≡ y
one_lead top w x y d e inv m n same near =
    let p = sound top w x d inv m in
    let q = sound top w y e inv n in
    let batches = same_batch top w d.txn e.txn p.submission q.submission p.batch q.batch inv.submitted same p.written q.written in
    p.here ∙ ap (λ z. lead top z p.batch) near ∙ ap (lead top (dc_of top y)) batches.1 ∙ sym q.here

-- and once
pub one_decision : (top : TopologyValue) (w : Run) (x y : ℕ) (d e : Decision) → Inv top w
    → Contains (w.shards x).decided d → Contains (w.shards y).decided e → d.txn ≡ e.txn → dc_of top x ≡ dc_of top y → d ≡ e
one_decision top w x y d e inv m n same near =
    let here = one_lead top w x y d e inv m n same near in
    sym ((sound top w x d inv m).one e (subst (λ z. Contains (w.shards z).decided e) (sym here) n) (sym same))

-- ## Stamps

stamp_of_one : (top : TopologyValue) (w : Run) (b c : Submission) (xs ys : List Change) (s t : StampValue) → Inv top w → b ≡ c → xs ≡ ys
    → IsStamp top w b xs s → IsStamp top w c ys t → s ≡ t
stamp_of_one top w b c xs ys s t inv same batches p q =
    let at : lead top b.home xs ≡ lead top c.home ys = ap (λ (z : Submission). lead top z.home xs) same ∙ ap (lead top c.home) batches in
    let d = p.decided in
    let e = q.decided in
    let m = subst (λ z. Contains (w.shards z).decided d.decision) at d.among in
    let one : d.decision ≡ e.decision = (sound top w (lead top c.home ys) e.decision inv e.among).one d.decision m (d.txn ∙ ap txn_of same ∙ sym e.txn) in
    sym d.stamp ∙ ap (λ (z : Decision). z.stamp) one ∙ e.stamp

-- a transaction has one stamp, whoever decides it
pub one_stamp : (top : TopologyValue) (w : Run) (x y : ℕ) (d e : Decision) → Inv top w
    → Contains (w.shards x).decided d → Contains (w.shards y).decided e → d.txn ≡ e.txn → d.stamp ≡ e.stamp
one_stamp top w x y d e inv m n same =
    let p = sound top w x d inv m in
    let q = sound top w y e inv n in
    let batches = same_batch top w d.txn e.txn p.submission q.submission p.batch q.batch inv.submitted same p.written q.written in
    stamp_of_one top w p.submission q.submission p.batch q.batch d.stamp e.stamp inv batches.0 batches.1 p.stamp q.stamp

txn_of_one : (top : TopologyValue) (w : Run) (b c : Submission) (xs ys : List Change) (s t : StampValue) → Inv top w → s ≡ t → IsStamp top w b xs s
    → IsStamp top w c ys t → txn_of b ≡ txn_of c
txn_of_one top w b c xs ys s t inv same p q =
    let at : lead top b.home xs ≡ lead top c.home ys = sym p.node ∙ ap (λ (z : StampValue). z.node) same ∙ q.node in
    let d = p.decided in
    let e = q.decided in
    let m = subst (λ z. Contains (w.shards z).decided d.decision) at d.among in
    let one : d.decision ≡ e.decision = (sound top w (lead top c.home ys) e.decision inv e.among).one_time d.decision m (d.commit ∙ ap (λ (z : StampValue). z.time) same ∙ sym e.commit) in
    sym d.txn ∙ ap (λ (z : Decision). z.txn) one ∙ e.txn

-- two transactions have two stamps
pub own_stamp : (top : TopologyValue) (w : Run) (x y : ℕ) (d e : Decision) → Inv top w
    → Contains (w.shards x).decided d → Contains (w.shards y).decided e → d.stamp ≡ e.stamp → d.txn ≡ e.txn
own_stamp top w x y d e inv m n same =
    let p = sound top w x d inv m in
    let q = sound top w y e inv n in
    sym p.written.txn ∙ txn_of_one top w p.submission q.submission p.batch q.batch d.stamp e.stamp inv same p.stamp q.stamp ∙ q.written.txn

-- where the transaction was submitted, its stamp is the commit time there, and its coordinator
pub home_stamp : (top : TopologyValue) (w : Run) (x : ℕ) (d : Decision) (b : Submission) (batch : List Change) → Inv top w
    → Contains (w.shards x).decided d → IsWritten w d.txn b batch → dc_of top x ≡ b.home → (d.stamp.time ≡ d.commit) × (d.stamp.node ≡ lead top b.home batch)
home_stamp top w x d b batch inv m written near =
    let p = sound top w x d inv m in
    let batches = one_batch top w d.txn p.submission b p.batch batch inv.submitted p.written written in
    let s = p.stamp in
    let o = s.decided in
    let home = ap (λ (z : Submission). z.home) batches.0 in
    let at : lead top p.submission.home p.batch ≡ x = ap (λ z. lead top z p.batch) (home ∙ sym near) ∙ sym p.here in
    let one : o.decision ≡ d = p.one o.decision (subst (λ z. Contains (w.shards z).decided o.decision) at o.among) (o.txn ∙ p.written.txn) in (
      sym o.commit ∙ ap (λ (z : Decision). z.commit) one,
      s.node ∙ ap (λ z. lead top z p.batch) home ∙ ap (lead top b.home) batches.1,
    )
