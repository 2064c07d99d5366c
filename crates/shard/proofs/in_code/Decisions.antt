-- A decision, as what is kept takes it.
use Rattle.std.proofs.Common.{◌≡◌, ◌∙◌, sym, ap, subst, refl, ℕ, Bool, if◌then◌else◌, List, [], ◌∷◌, ◌++◌, Some, map}
use Rattle.std.proofs.lemmas.List.{append_assoc}
use Rattle.logical_time.specs.Stamps.{StampValue, TxnValue}
use Rattle.store.specs.declared.part.Applied.{Applied}
use Rattle.store.specs.Keeps.{AreApart}
use Rattle.txn_state.specs.Prepared.{PreparedValue}
use Rattle.dependencies.specs.Askers.{askers_of}
use Rattle.messages.specs.declared.body.Body.TheVariants.{Commit}
use Rattle.messages.specs.declared.envelope.Envelope.{Envelope}
use Rattle.messages.specs.Topology.{TopologyValue, shard_of, dc_of, shard_node}
use Rattle.messages.specs.Words.{envelope}
use Rattle.messages.specs.Posting.{commit_to}
use Rattle.messages.specs.Shard.{ShardState, BegunBallot, WaitingRead, new_shard}
use Rattle.messages.specs.Commits.{announcements, commits, decide, dep_oks, stamp_for}
use Rattle.messages.specs.Reads.{part_at}
use Rattle.commit_check.specs.declared.cause.Cause.TheVariants as cause
use Rattle.commit_check.specs.Waiting.{freed, still}
use Rattle.write_txn.specs.Ledger.{IsDecided, Becomes, state_of}
use Rattle.write_txn.specs.Transactions.{TransactionsValue, GoesOnKeeping}
use Rattle.write_txn.specs.Voters.{voters_of}
use Rattle.write_txn.specs.View.{near_nodes}
use Rattle.write_txn.specs.Moves.{Moves}
use Rattle.write_txn.proofs.Finds.{own_txn}
use Rattle.write_txn.proofs.Leading.{MayDecide, decides}
use Rattle.shard.specs.declared.kept.ShardKept.{ShardKept}
use Rattle.shard.specs.Kept.{Represents, IsStep}
use Rattle.shard.specs.Effects.{IsAfter}
use Rattle.shard.specs.Coming.{with_applied}
use Rattle.shard.specs.Deciding.{own_applied, told, IsSettled}
use Rattle.shard.proofs.in_code.Standing.{moved}

-- ## What is told

pub told_is : (top : TopologyValue) (me n : ℕ) (a : ShardState) (b : BegunBallot) (x : Applied) (es oks fs all : List Envelope) → x ≡ own_applied top me n b
    → es ≡ announcements top me n b b.stamp → oks ≡ dep_oks me n b.txn a.askers
    → fs ≡ map (part_at me n (with_applied a x)) (freed x.part.writer.txn cause.Applied a.waiting) → all ≡ (es ++ oks) ++ fs
    → all ≡ told top me n a b
told_is top me n a b x es oks fs all x_is es_is oks_is fs_is all_is =
    all_is ∙ (ap (λ (ys : List Envelope). (ys ++ oks) ++ fs) es_is
    ∙ (ap (λ (ys : List Envelope). (announcements top me n b b.stamp ++ ys) ++ fs) oks_is
    ∙ ap (λ (ys : List Envelope). (announcements top me n b b.stamp ++ dep_oks me n b.txn a.askers) ++ ys)
    (fs_is ∙ ap (λ (y : Applied). map (part_at me n (with_applied a y)) (freed y.part.writer.txn cause.Applied a.waiting)) x_is)))

-- all that the answer of a state rests on
abbrev answering : ℕ → List Applied → ShardState
answering low applied = record new_shard { low = low; applied = applied }

answers_rest_on : (me n : ℕ) (a : ShardState) (xs : List WaitingRead) → map (part_at me n a) xs ≡ map (part_at me n (answering a.low a.applied)) xs
answers_rest_on me n a [] = refl
answers_rest_on me n a (x ∷ xs) = ap (λ (es : List Envelope). part_at me n a x ∷ es) (answers_rest_on me n a xs)

-- the envelopes of a decision: the Commits, then what else is told, by the state before
pub decision_sends : (top : TopologyValue) (me n : ℕ) (a c : ShardState) (b : BegunBallot) → c.applied ≡ a.applied → c.low ≡ a.low → c.askers ≡ a.askers → c.waiting ≡ a.waiting
    → (decide top me n c b).sends ≡ commits top me n b.txn (stamp_for me n b.stamp) b.cohorts ++ told top me n a b
decision_sends top me n a c b applied low askers waiting =
    let cs = commits top me n b.txn (stamp_for me n b.stamp) b.cohorts in
    let an = announcements top me n b b.stamp in
    let x = own_applied top me n b in
    let reads : map (part_at me n (decide top me n c b).state) (freed b.txn cause.Applied c.waiting) ≡ map (part_at me n (with_applied a x)) (freed b.txn cause.Applied a.waiting) =
    answers_rest_on me n (decide top me n c b).state (freed b.txn cause.Applied c.waiting)
    ∙ (ap (λ (l : ℕ). map (part_at me n (answering l (c.applied ++ x ∷ []))) (freed b.txn cause.Applied c.waiting)) low
    ∙ (ap (λ (ps : List Applied). map (part_at me n (answering a.low (ps ++ x ∷ []))) (freed b.txn cause.Applied c.waiting)) applied
    ∙ (ap (λ (ws : List WaitingRead). map (part_at me n (answering a.low (a.applied ++ x ∷ []))) (freed b.txn cause.Applied ws)) waiting
    ∙ sym (answers_rest_on me n (with_applied a x) (freed b.txn cause.Applied a.waiting))))) in
    let fs = map (part_at me n (decide top me n c b).state) (freed b.txn cause.Applied c.waiting) in
    ap (λ (es : List Envelope). es ++ fs) (append_assoc cs an (dep_oks me n b.txn c.askers))
    ∙ (append_assoc cs (an ++ dep_oks me n b.txn c.askers) fs
    ∙ ap (λ (es : List Envelope). cs ++ es)
    (ap (λ ks. (an ++ dep_oks me n b.txn ks) ++ fs) askers
    ∙ ap (λ (es : List Envelope). (an ++ dep_oks me n b.txn a.askers) ++ es) reads))

-- the Commits, as they are posted to nodes
pub commits_are : (top : TopologyValue) (me n : ℕ) (t : TxnValue) (stamp : StampValue) (shards : List ℕ) → map (commit_to me n t n stamp) (near_nodes top me shards) ≡ commits top me n t stamp shards
commits_are top me n t stamp [] = refl
commits_are top me n t stamp (s ∷ ss) = ap (λ (es : List Envelope). envelope me (shard_node top (dc_of top me) s) n (Commit t n stamp) ∷ es) (commits_are top me n t stamp ss)

-- ## What is kept

pub settled_after : (t : TxnValue) (own : PreparedValue) (n : ℕ) (stamp : StampValue) (k : ShardKept) (ts : TransactionsValue) (l : ShardKept)
    → Becomes t (Some (IsDecided n stamp)) k.transactions.ledger ts.ledger → GoesOnKeeping k.transactions.store ts.store → ts.early ≡ k.transactions.early
    → IsSettled t own n stamp (record k { transactions = ts }) l
    → IsAfter t (IsDecided n stamp) (Some (record { part = own.part; commit = n; stamp = stamp })) n (still t cause.Applied k.waiting) k l
settled_after t own n stamp k ts l becomes stores early s = record {
  place = s.place;
  clock = s.clock;
  low = s.store.low ∙ stores.low;
  state = λ u. ap (λ x. state_of x u) s.ledger ∙ becomes u;
  store = λ all keeps normal apart. s.store.keeps all (stores.keeps all keeps) normal apart;
  early = λ u other. s.early u ∙ (ap (λ (b : Bool). if b then [] else voters_of ts.early u) other ∙ ap (λ es. voters_of es u) early);
  notices = λ u other. s.notices u ∙ ap (λ (b : Bool). if b then [] else voters_of k.notices u) other;
  own_early = λ gone. s.early t ∙ ap (λ (b : Bool). if b then [] else voters_of ts.early t) (own_txn t);
  own_notices = λ gone. s.notices t ∙ ap (λ (b : Bool). if b then [] else voters_of k.notices t) (own_txn t);
  askers = λ u other. s.askers u ∙ ap (λ (b : Bool). if b then [] else askers_of k.askers u) other;
  own_askers = λ e. absurd (cc);
  waiting = s.waiting;
}

-- ## The step

pub decides_so : (top : TopologyValue) (me n : ℕ) (k l : ShardKept) (a c : ShardState) (b : BegunBallot) (own : PreparedValue) (nodes : List ℕ) (before es after : List Envelope)
    → Represents top me k a → MayDecide top me b.txn a c → c.waiting ≡ a.waiting → AreApart (decide top me n c b).state.applied
    → own.part ≡ record { writer = record { txn = b.txn; shard = shard_of top me }; batch = b.rows }
    → IsAfter b.txn (IsDecided n (stamp_for me n b.stamp)) (Some (record { part = own.part; commit = n; stamp = stamp_for me n b.stamp })) n (still b.txn cause.Applied k.waiting) k l
    → nodes ≡ near_nodes top me b.cohorts → es ≡ told top me n a b
    → after ≡ (before ++ map (commit_to me n b.txn n (stamp_for me n b.stamp)) nodes) ++ es
    → IsStep top me (decide top me n c b) l before after
decides_so top me n k l a c b own nodes before es after r may waiting apart part i nodes_are es_are sent = record {
  state = moved top me n b.txn (IsDecided n (stamp_for me n b.stamp)) (Some (record { part = own.part; commit = n; stamp = stamp_for me n b.stamp })) (still b.txn cause.Applied k.waiting) k l a (decide top me n c b).state r i
      (subst (λ p. Moves top me b.txn (Some (IsDecided n (stamp_for me n b.stamp))) (record { part = p; commit = n; stamp = stamp_for me n b.stamp } ∷ []) a (decide top me n c b).state) (sym part) (decides top me n a c b may))
      refl (ap (λ (ws : List WaitingRead). still b.txn cause.Applied ws) (waiting ∙ r.waiting)) apart;
  sends =
      sent ∙ (append_assoc before (map (commit_to me n b.txn n (stamp_for me n b.stamp)) nodes) es
      ∙ ap (λ (ys : List Envelope). before ++ ys)
      (ap (λ (ns : List ℕ). map (commit_to me n b.txn n (stamp_for me n b.stamp)) ns ++ es) nodes_are
      ∙ (ap (λ (ys : List Envelope). ys ++ es) (commits_are top me n b.txn (stamp_for me n b.stamp) b.cohorts)
      ∙ (ap (λ (ys : List Envelope). commits top me n b.txn (stamp_for me n b.stamp) b.cohorts ++ ys) es_are
      ∙ sym (decision_sends top me n a c b may.applied may.low may.askers waiting)))));
}
