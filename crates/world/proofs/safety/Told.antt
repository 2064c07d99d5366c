-- What a shard is told of a transaction: one decision, by the transaction's coordinator in its data centre.
use Rattle.std.proofs.Common.{◌≡◌, ◌∙◌, ℕ, ◌==◌, ◌<◌, ◌≤◌, List, map, Some, inl, inr, refl, sym, ap, subst, slice_get, eqb-true}
use Rattle.std.specs.Prelude.{Contains, filter_map, filter}
use Rattle.logical_time.specs.Stamps.{StampValue, TxnValue}
use Rattle.column_family.specs.declared.batch.Change.{Change}
use Rattle.planner.specs.Plan.{coordinator_of, cohorts_of}
use Rattle.store.proofs.lists.Lists.{given_only, kept_only}
use Rattle.messages.specs.declared.body.Body.{Body}
use Rattle.messages.specs.declared.body.Body.TheVariants.{Begin, Prepare, Yes, Commit, At, NotBy, Check, Read as ReadNow, ReadAt, ReplBegin, ReplPart, Notify, PrepareRemote, DepCheck, DepOk, Done, PartNow, PartAt}
use Rattle.messages.specs.declared.envelope.Envelope.{Envelope}
use Rattle.messages.specs.Topology.{TopologyValue, dc_of, shard_of, shard_node}
use Rattle.messages.specs.Shard.{Role, Own, Cohort, Replica, PreparedPart, Decision}
use Rattle.messages.specs.Honest.{ToldCommit, told_in, all_told, StampedTxn, stamps_met}
use Rattle.messages.proofs.Numbering.{shard_again}
use Rattle.world.specs.Run.{Run}
use Rattle.world.specs.Quiet.{handled}
use Rattle.world.specs.Met.{envelopes_to}
use Rattle.world.proofs.lists.Members.{Contains-append_cases, mapped_from, contains_get}
use Rattle.world.proofs.safety.Facts.{IsDecided, Excluded, PreparedSound, RoleFits, lead, near}
use Rattle.world.proofs.safety.Invariant.{Inv, Says, IsLead}
use Rattle.world.proofs.histories.Decisions.{same_batch, sound, one_decision, own_stamp}

-- ## What the envelopes to a shard say

-- each of these envelopes was sent to this node
abbrev pub WereSent : Run → ℕ → List Envelope → Type 0
WereSent w node es = (e : Envelope) → Contains es e → Contains w.sent e × (e.to ≡ node)

-- all that was sent to it
abbrev pub sent_to : Run → ℕ → List Envelope
sent_to w node = filter (λ e. e.to == node) w.sent

pub all_were_sent : (w : Run) (node : ℕ) → WereSent w node (sent_to w node)
all_were_sent w node e has = let r = kept_only (λ e. e.to == node) w.sent e has in (r.0, eqb-true e.to node r.1)

-- what it handled
pub handled_were_sent : (w : Run) (node : ℕ) → WereSent w node (envelopes_to w node)
handled_were_sent w node e has =
    let r = kept_only (λ e. e.to == node) (filter_map (λ k. slice_get w.sent k) (handled w)) e has in
    let s = given_only (λ k. slice_get w.sent k) (handled w) e r.0 in
    (contains_get w.sent s.0 e s.2, eqb-true e.to node r.1)

pub said : (top : TopologyValue) (w : Run) (node : ℕ) (es : List Envelope) → WereSent w node es → (e : Envelope) → Inv top w → Contains es e
    → Says top w e.from node e.time e.body
said top w node es sent e inv has = let r = sent e has in subst (λ z. Says top w e.from z e.time e.body) r.1 (inv.sent e r.0)

-- a shard of this one's data centre decided what is told, not above the time of the envelope
pub record IsTrue (top : TopologyValue) (w : Run) (node : ℕ) (x : ToldCommit) : Type 0 where
  pub from : ℕ
  pub near : dc_of top from ≡ dc_of top node
  pub decided : IsDecided w from x.txn x.commit x.stamp
  pub time : x.commit ≤ x.time

true_told : (top : TopologyValue) (w : Run) (from node time n : ℕ) (t : TxnValue) (s : StampValue) (x : ToldCommit) → dc_of top from ≡ dc_of top node
    → IsDecided w from t n s → n ≤ time
    → Some (record { txn = t; commit = n; stamp = s; time = time }) ≡ Some x → IsTrue top w node x
true_told top w from node time n t s x here d le e =
    let is : record { txn = t; commit = n; stamp = s; time = time } ≡ x = cc in
    subst (IsTrue top w node) is (record { from = from; near = here; decided = d; time = le })

says_true : (top : TopologyValue) (w : Run) (from node time : ℕ) (b : Body) (x : ToldCommit) → Says top w from node time b → told_in time b ≡ Some x
    → IsTrue top w node x
says_true top w from node time (Commit t n s) x h e = true_told top w from node time n t s x h.1 h.0.decided h.0.time e
says_true top w from node time (At t n s) x h e = true_told top w from node time n t s x h.1 h.0.decided h.0.time e
says_true top w from node time (Begin t rows cohorts dependencies) x h e = absurd (cc)
says_true top w from node time (Prepare t rows coordinator) x h e = absurd (cc)
says_true top w from node time (Yes t) x h e = absurd (cc)
says_true top w from node time (NotBy t bound) x h e = absurd (cc)
says_true top w from node time (Check t bound) x h e = absurd (cc)
says_true top w from node time (ReadNow number read) x h e = absurd (cc)
says_true top w from node time (ReadAt number bound read) x h e = absurd (cc)
says_true top w from node time (ReplBegin cohorts t rows stamp dependencies) x h e = absurd (cc)
says_true top w from node time (ReplPart t rows stamp coordinator) x h e = absurd (cc)
says_true top w from node time (Notify t) x h e = absurd (cc)
says_true top w from node time (PrepareRemote t) x h e = absurd (cc)
says_true top w from node time (DepCheck dependency waiter) x h e = absurd (cc)
says_true top w from node time (DepOk dependency waiter commit) x h e = absurd (cc)
says_true top w from node time (Done t commit stamp) x h e = absurd (cc)
says_true top w from node time (PartNow number rows) x h e = absurd (cc)
says_true top w from node time (PartAt number bound rows) x h e = absurd (cc)

pub told_true : (top : TopologyValue) (w : Run) (node : ℕ) (es : List Envelope) → WereSent w node es → (x : ToldCommit) → Inv top w → Contains (all_told es) x
    → IsTrue top w node x
told_true top w node es sent x inv has =
    let r = given_only (λ e. told_in e.time e.body) es x has in
    says_true top w r.0.from node r.0.time r.0.body x (said top w node es sent r.0 inv r.1) r.2

-- ## What is told agrees

told_once : (top : TopologyValue) (w : Run) (node : ℕ) (x y : ToldCommit) → Inv top w → (p : IsTrue top w node x) → (q : IsTrue top w node y)
    → x.txn ≡ y.txn → p.decided.decision ≡ q.decided.decision
told_once top w node x y inv p q same =
    one_decision top w p.from q.from p.decided.decision q.decided.decision inv p.decided.among q.decided.among
    (p.decided.txn ∙ same ∙ sym q.decided.txn) (p.near ∙ sym q.near)

pub told_commit : (top : TopologyValue) (w : Run) (node : ℕ) (x y : ToldCommit) → Inv top w → IsTrue top w node x → IsTrue top w node y → x.txn ≡ y.txn
    → x.commit ≡ y.commit
told_commit top w node x y inv p q same =
    sym p.decided.commit ∙ ap (λ (d : Decision). d.commit) (told_once top w node x y inv p q same) ∙ q.decided.commit

pub told_stamp : (top : TopologyValue) (w : Run) (node : ℕ) (x y : ToldCommit) → Inv top w → IsTrue top w node x → IsTrue top w node y → x.txn ≡ y.txn
    → x.stamp ≡ y.stamp
told_stamp top w node x y inv p q same =
    sym p.decided.stamp ∙ ap (λ (d : Decision). d.stamp) (told_once top w node x y inv p q same) ∙ q.decided.stamp

-- ## Prepare times

-- the coordinator in a data centre, by its own number
led_by : (top : TopologyValue) (from node : ℕ) (batch : List Change) → dc_of top from ≡ dc_of top node
    → shard_of top node ≡ coordinator_of top.shards batch → from ≡ lead top (dc_of top from) batch → from ≡ node
led_by top from node batch here own is =
    is ∙ ap (λ z. lead top z batch) here ∙ ap (shard_node top (dc_of top node)) (sym own) ∙ shard_again top node

near_itself : (top : TopologyValue) (from node : ℕ) → dc_of top from ≡ dc_of top node → near top from (shard_of top node) ≡ node
near_itself top from node here = ap (λ z. shard_node top z (shard_of top node)) here ∙ shard_again top node

cohort_before : (top : TopologyValue) (w : Run) (node : ℕ) (p : PreparedPart) (x : ToldCommit) → Inv top w → (s : PreparedSound top w node p)
    → IsTrue top w node x → p.txn ≡ x.txn
    → Contains (cohorts_of top.shards s.batch) (shard_of top node) → p.time < x.commit
cohort_before top w node p x inv s q same cohort =
    let d = q.decided in
    let k = sound top w q.from d.decision inv d.among in
    let batches = same_batch top w p.txn d.decision.txn s.submission k.submission s.batch k.batch inv.submitted (same ∙ sym d.txn) s.written k.written in
    let b = k.cohorts (shard_of top node) (subst (λ z. Contains (cohorts_of top.shards z) (shard_of top node)) batches.1 cohort) in
    let here = subst (λ z. Contains (w.shards z).prepared b.part) (near_itself top q.from node q.near) b.among in
    let one : b.part ≡ p = s.one b.part here (b.txn ∙ d.txn ∙ sym same) in
    subst (λ z. p.time < z) d.commit (subst (λ (z : PreparedPart). z.time < d.decision.commit) one b.time)

own_before : (top : TopologyValue) (w : Run) (node : ℕ) (p : PreparedPart) (x : ToldCommit) → Inv top w → (s : PreparedSound top w node p)
    → IsTrue top w node x → p.txn ≡ x.txn
    → p.role ≡ Own → shard_of top node ≡ coordinator_of top.shards s.batch → p.time < x.commit
own_before top w node p x inv s q same role own =
    let d = q.decided in
    let k = sound top w q.from d.decision inv d.among in
    let batches = same_batch top w p.txn d.decision.txn s.submission k.submission s.batch k.batch inv.submitted (same ∙ sym d.txn) s.written k.written in
    let at = led_by top q.from node k.batch q.near (own ∙ ap (coordinator_of top.shards) batches.1) k.here in
    subst (λ z. p.time < z) d.commit (s.below d.decision (subst (λ z. Contains (w.shards z).decided d.decision) at d.among) (d.txn ∙ sym same))

told_after : (top : TopologyValue) (w : Run) (node : ℕ) (p : PreparedPart) (x : ToldCommit) → Inv top w → (s : PreparedSound top w node p)
    → IsTrue top w node x → p.txn ≡ x.txn
    → (r : Role) → p.role ≡ r → RoleFits r top s.batch node → p.time < x.commit
told_after top w node p x inv s q same Own role fits = own_before top w node p x inv s q same role fits
told_after top w node p x inv s q same Cohort role fits = cohort_before top w node p x inv s q same fits
told_after top w node p x inv s q same Replica role fits = cohort_before top w node p x inv s q same fits

pub told_above : (top : TopologyValue) (w : Run) (node : ℕ) (p : PreparedPart) (x : ToldCommit) → Inv top w → Contains (w.shards node).prepared p
    → IsTrue top w node x → p.txn ≡ x.txn → p.time < x.commit
told_above top w node p x inv m q same =
    let s = (inv.shards node).prepared p m in told_after top w node p x inv s q same p.role refl s.role

-- ## Exclusions

pub told_excluded : (top : TopologyValue) (w : Run) (from node time : ℕ) (x : ToldCommit) → Inv top w → IsTrue top w node x → Excluded w from x.txn time
    → IsLead top w (dc_of top node) from x.txn → time < x.commit
told_excluded top w from node time x inv q out is =
    let d = q.decided in
    let k = sound top w q.from d.decision inv d.among in
    let batches = same_batch top w d.decision.txn x.txn k.submission is.submission k.batch is.batch inv.submitted d.txn k.written is.written in
    let at = k.here ∙ ap (λ z. lead top z k.batch) q.near ∙ ap (lead top (dc_of top node)) batches.1 ∙ sym is.here in
    subst (λ z. time < z) d.commit (out.above d.decision (subst (λ z. Contains (w.shards z).decided d.decision) at d.among) d.txn)

-- ## Stamps

-- some shard decided so
pub record IsMet (w : Run) (z : StampedTxn) : Type 0 where
  pub node : ℕ
  pub decision : Decision
  pub among : Contains (w.shards node).decided decision
  pub txn : decision.txn ≡ z.txn
  pub stamp : decision.stamp ≡ z.stamp

pub stamp_met : (top : TopologyValue) (w : Run) (node : ℕ) (es : List Envelope) → WereSent w node es → (z : StampedTxn) → Inv top w
    → Contains (stamps_met (w.shards node) es) z → IsMet w z
stamp_met top w node es sent z inv has = elim (Contains-append_cases (map told_stamped (all_told es)) (map decided_stamped (w.shards node).decided) z has) [
  | inl m ↦ (let r = mapped_from told_stamped (all_told es) z m in let q = told_true top w node es sent r.0 inv r.1 in by_told r.0 r.2 q)
  | inr m ↦ (let r = mapped_from decided_stamped (w.shards node).decided z m in by_itself r.0 r.1 r.2)
]
  where
    told_stamped : ToldCommit → StampedTxn
    told_stamped x = record { txn = x.txn; stamp = x.stamp }

    decided_stamped : Decision → StampedTxn
    decided_stamped d = record { txn = d.txn; stamp = d.stamp }

    by_told : (x : ToldCommit) → z ≡ told_stamped x → IsTrue top w node x → IsMet w z
    by_told x e q = record {
      node = q.from;
      decision = q.decided.decision;
      among = q.decided.among;
      txn = q.decided.txn ∙ sym (ap (λ (y : StampedTxn). y.txn) e);
      stamp = q.decided.stamp ∙ sym (ap (λ (y : StampedTxn). y.stamp) e);
    }

    by_itself : (d : Decision) → Contains (w.shards node).decided d → z ≡ decided_stamped d → IsMet w z
    by_itself d m e = record {
      node = node;
      decision = d;
      among = m;
      txn = sym (ap (λ (y : StampedTxn). y.txn) e);
      stamp = sym (ap (λ (y : StampedTxn). y.stamp) e);
    }

pub met_apart : (top : TopologyValue) (w : Run) (y z : StampedTxn) → Inv top w → IsMet w y → IsMet w z → y.stamp ≡ z.stamp → y.txn ≡ z.txn
met_apart top w y z inv p q same =
    sym p.txn ∙ own_stamp top w p.node q.node p.decision q.decision inv p.among q.among (p.stamp ∙ same ∙ sym q.stamp) ∙ q.txn
