-- The steps of a ballot of another data centre's write, as what is kept takes them.
use Rattle.std.proofs.Common.{◌≡◌, ◌∙◌, sym, ap, subst, refl, ℕ, Bool, true, false, if◌then◌else◌, List, [], ◌∷◌, ◌++◌, Option, Some, None, map, length, IfSome}
use Rattle.std.specs.Prelude.{◌==◌, ◌&&◌}
use Rattle.logical_time.specs.Stamps.{TxnValue}
use Rattle.column_family.proofs.Options.{by_cases}
use Rattle.store.specs.declared.part.Applied.{Applied}
use Rattle.store.specs.Keeps.{Keeps, AreApart}
use Rattle.store.specs.Stored as in_store
use Rattle.txn_state.specs.declared.part.WritePart.{WritePart}
use Rattle.txn_state.specs.Ballot.{CompleteValue}
use Rattle.txn_state.specs.Ready.{ready_for}
use Rattle.txn_state.specs.RemoteBallot.{missing_in}
use Rattle.dependencies.specs.Askers.{askers_of}
use Rattle.messages.specs.declared.envelope.Envelope.{Envelope}
use Rattle.messages.specs.declared.body.Body.TheVariants.{PrepareRemote}
use Rattle.messages.specs.Topology.{TopologyValue, shard_of, dc_of, shard_node}
use Rattle.messages.specs.Words.{envelope}
use Rattle.messages.specs.Shard.{ShardState, ShardStep, KeptBallot, WaitingRead, quiet}
use Rattle.messages.specs.Commits.{applied_part, commits, decide, hold}
use Rattle.messages.specs.Replication.{ballot_of, remote_prepare, ready_if, ready}
use Rattle.commit_check.specs.declared.cause.Cause.TheVariants as cause
use Rattle.commit_check.specs.Waiting.{still}
use Rattle.write_txn.specs.declared.open.Open.TheVariants as in_open
use Rattle.write_txn.specs.declared.open.Remote.{Remote}
use Rattle.write_txn.specs.Ledger.{State, Holds, IsDecided, LedgerValue, state_of, decided_in, Becomes, state_ready, readied_by, ready_complete}
use Rattle.write_txn.specs.Transactions.{TransactionsValue, GoesOnKeeping}
use Rattle.write_txn.specs.Voters.{VoterList, voters_of}
use Rattle.write_txn.specs.Stands.{kept_ballot_of}
use Rattle.write_txn.specs.Moves.{Moves}
use Rattle.write_txn.proofs.Finds.{own_txn}
use Rattle.write_txn.proofs.Leading.{MayDecide, decides}
use Rattle.write_txn.proofs.Replicas.{ready_if_none}
use Rattle.write_txn.proofs.Readying.{KeepsBallot, ready_decides, is_alone, led_by, state_alone, state_with_cohorts, readies_alone, readies_with_cohorts, readied_is_held, readies_later, waits_on}
use Rattle.shard.specs.declared.kept.ShardKept.{ShardKept}
use Rattle.shard.specs.Kept.{Represents, IsStep}
use Rattle.shard.specs.Effects.{IsAfter}
use Rattle.shard.specs.Deciding.{told}
use Rattle.shard.specs.Concluding.{MaySettle, IsUnderWay, IsConcluded}
use Rattle.shard.proofs.in_code.Standing.{moved}
use Rattle.shard.proofs.in_code.Decisions.{decision_sends, settled_after}

-- ## What is sent

-- a ballot's decision tells nothing to cohorts where there are none
pub alone_sends : (top : TopologyValue) (me n : ℕ) (a : ShardState) (r : KeptBallot) → r.cohorts ≡ [] → told top me n a (ballot_of r) ≡ (remote_prepare r.cohorts top me n a r).sends
alone_sends top me n a r e =
    sym (ap (λ (cs : List ℕ). (remote_prepare cs top me n a r).sends) e
    ∙ (decision_sends top me n a a (ballot_of r) refl refl refl refl
    ∙ ap (λ (cs : List ℕ). commits top me n r.txn r.stamp cs ++ told top me n a (ballot_of r)) e))

-- what is sent is the same after a step that applied nothing
same_sends : (top : TopologyValue) (me n : ℕ) (a c : ShardState) (r : KeptBallot) (b : Bool) → c.applied ≡ a.applied → c.low ≡ a.low → c.askers ≡ a.askers → c.waiting ≡ a.waiting
    → (ready_if b top me n c r).sends ≡ (ready_if b top me n a r).sends
same_sends top me n a c r false applied low askers waiting = refl
same_sends top me n a c r true applied low askers waiting = go r.cohorts
  where
    go : (cs : List ℕ) → (remote_prepare cs top me n c r).sends ≡ (remote_prepare cs top me n a r).sends
    go [] = decision_sends top me n a c (ballot_of r) applied low askers waiting ∙ sym (decision_sends top me n a a (ballot_of r) refl refl refl refl)
    go (x ∷ xs) = refl

same_applied : (top : TopologyValue) (me n : ℕ) (a c : ShardState) (r : KeptBallot) (b : Bool) → c.applied ≡ a.applied → (ready_if b top me n c r).state.applied ≡ (ready_if b top me n a r).state.applied
same_applied top me n a c r false e = e
same_applied top me n a c r true e = go r.cohorts
  where
    go : (cs : List ℕ) → (remote_prepare cs top me n c r).state.applied ≡ (remote_prepare cs top me n a r).state.applied
    go [] = ap (λ (xs : List Applied). xs ++ applied_part r.txn (shard_of top me) r.rows n r.stamp ∷ []) e
    go (x ∷ xs) = e

-- ## What is kept

-- what comes to be known of the transaction, where nothing of it is applied
under_way_after : (t : TxnValue) (s : State) (n : ℕ) (k : ShardKept) (room ts : TransactionsValue) (l : ShardKept)
    → GoesOnKeeping k.transactions.store room.store → room.ledger ≡ k.transactions.ledger → room.early ≡ k.transactions.early
    → Becomes t (Some s) room.ledger ts.ledger → ts.store ≡ room.store → ts.early ≡ room.early → IsUnderWay t n (record k { transactions = ts }) l
    → IsAfter t s None n k.waiting k l
under_way_after t s n k room ts l grown ledger room_early becomes store early u = record {
  place = u.place;
  clock = u.clock;
  low = ap (λ (x : in_store.StoreValue). x.low) (u.store ∙ store) ∙ grown.low;
  state = λ x. ap (λ (y : LedgerValue). state_of y x) u.ledger ∙ subst (λ (z : LedgerValue). Becomes t (Some s) z ts.ledger) ledger becomes x;
  store = λ all keeps. subst (λ (y : in_store.StoreValue). Keeps y all) (sym (u.store ∙ store)) (grown.keeps all keeps);
  early = λ x other. u.early x ∙ (ap (λ (b : Bool). if b then [] else voters_of ts.early x) other ∙ ap (λ (es : VoterList). voters_of es x) (early ∙ room_early));
  notices = λ x other. u.notices x ∙ ap (λ (b : Bool). if b then [] else voters_of k.notices x) other;
  own_early = λ gone. u.early t ∙ ap (λ (b : Bool). if b then [] else voters_of ts.early t) (own_txn t);
  own_notices = λ gone. u.notices t ∙ ap (λ (b : Bool). if b then [] else voters_of k.notices t) (own_txn t);
  askers = λ x other. ap (λ ks. askers_of ks x) u.askers;
  own_askers = λ e. ap (λ ks. askers_of ks t) u.askers;
  waiting = u.waiting;
}

-- only its clock moves after the ballot went on waiting
waits_at : (top : TopologyValue) (me n : ℕ) (t : TxnValue) (r : Remote) (a c : ShardState) → Moves top me t (Some (Holds (in_open.Remote r))) [] a c → Moves top me t (Some (Holds (in_open.Remote r))) [] a (record c { clock = n })
waits_at top me n t r a c m = record {
  about = let s = m.about in record {
    prepared = s.prepared;
    ballots = s.ballots;
    kept_parts = s.kept_parts;
    kept_ballots = s.kept_ballots;
    decided = s.decided;
    applied = s.applied;
    early = s.early;
    votes = s.votes;
    notices = s.notices;
    met = s.met;
  };
  own = m.own;
  applied = m.applied;
  low = m.low;
  askers = m.askers;
  once = m.once;
  kept_once = m.kept_once;
}

-- ## What is completed

-- while something is missing nothing is
pub none_later : (n : ℕ) (r : Remote) → (missing_in r.ballot == 0) ≡ false → readied_by n (Some (Holds (in_open.Remote r))) ≡ None
none_later n r e = rw e refl

pub later_stays : (n : ℕ) (r : Remote) → (missing_in r.ballot == 0) ≡ false → state_ready n (Some (Holds (in_open.Remote r))) ≡ Some (Holds (in_open.Remote r))
later_stays n r e = rw e refl

-- with cohorts nothing is
pub none_with_cohorts : (n : ℕ) (r : Remote) → (missing_in r.ballot == 0) ≡ true → is_alone r.ballot.notices.cohorts ≡ false → readied_by n (Some (Holds (in_open.Remote r))) ≡ None
none_with_cohorts n r e f = rw e (go r.ballot.notices.cohorts f)
  where
    go : (cs : List ℕ) → is_alone cs ≡ false → ready_complete (ready_for cs (record { part = r.ballot.part; time = n })) ≡ None
    go [] g = absurd (cc)
    go (x ∷ xs) g = refl

-- the ballot as it is complete without cohorts
abbrev pub alone_complete : Remote → ℕ → CompleteValue
alone_complete r n = record { own = record { part = r.ballot.part; time = n }; cohorts = [] }

pub all_alone : (n : ℕ) (r : Remote) → (missing_in r.ballot == 0) ≡ true → is_alone r.ballot.notices.cohorts ≡ true → readied_by n (Some (Holds (in_open.Remote r))) ≡ Some (alone_complete r n)
all_alone n r e f = rw e (go r.ballot.notices.cohorts f)
  where
    go : (cs : List ℕ) → is_alone cs ≡ true → ready_complete (ready_for cs (record { part = r.ballot.part; time = n })) ≡ Some (alone_complete r n)
    go [] g = refl
    go (x ∷ xs) g = absurd (cc)

alone_at_once : (b : Bool) (cs : List ℕ) → b ≡ true → is_alone cs ≡ true → (b && (length cs == 0)) ≡ true
alone_at_once true [] e f = refl
alone_at_once true (x ∷ xs) e f = absurd (cc)
alone_at_once false cs e f = absurd (cc)

-- a ballot that is completed may be settled
pub may_settle : (t : TxnValue) (n : ℕ) (r : Remote) (k : ShardKept) (room : LedgerValue) (complete : Option CompleteValue) → (kept_ballot_of r).txn ≡ t
    → complete ≡ readied_by n (Some (Holds (in_open.Remote r))) → Becomes t (state_ready n (Some (Holds (in_open.Remote r)))) room k.transactions.ledger
    → (((missing_in r.ballot == 0) && (length r.ballot.notices.cohorts == 0)) ≡ true → in_store.HasRoom k.transactions.store r.ballot.part.batch)
    → IfSome complete (λ c. MaySettle t n r.ballot.stamp k c)
may_settle t n r k room complete is completes becomes has_room = by_cases (missing_in r.ballot == 0) there (λ e. nothing (none_later n r e))
  where
    nothing : readied_by n (Some (Holds (in_open.Remote r))) ≡ None → IfSome complete (λ c. MaySettle t n r.ballot.stamp k c)
    nothing e = subst (λ (o : Option CompleteValue). IfSome o (λ c. MaySettle t n r.ballot.stamp k c)) (sym (completes ∙ e)) tt

    own_state : state_of k.transactions.ledger t ≡ state_ready n (Some (Holds (in_open.Remote r)))
    own_state = becomes t ∙ ap (λ (b : Bool). if b then state_ready n (Some (Holds (in_open.Remote r))) else state_of room t) (own_txn t)

    there : (missing_in r.ballot == 0) ≡ true → IfSome complete (λ c. MaySettle t n r.ballot.stamp k c)
    there e = by_cases (is_alone r.ballot.notices.cohorts)
        (λ f. subst (λ (o : Option CompleteValue). IfSome o (λ c. MaySettle t n r.ballot.stamp k c)) (sym (completes ∙ all_alone n r e f)) (record {
          own = is;
          alone = refl;
          decided = ap decided_in (own_state ∙ state_alone r n e f);
          room = has_room (alone_at_once (missing_in r.ballot == 0) r.ballot.notices.cohorts e f);
        }))
        (λ f. nothing (none_with_cohorts n r e f))

-- ## The step

-- the state of the step that makes a ballot ready, or goes on waiting
readied_state : (top : TopologyValue) (me n : ℕ) (t : TxnValue) (r : Remote) (k : ShardKept) (room ts : TransactionsValue) (complete : Option CompleteValue) (l : ShardKept) (a c : ShardState)
    → Represents top me k a → KeepsBallot top me t r a c → c.waiting ≡ a.waiting → AreApart (ready top me n c (kept_ballot_of r)).state.applied
    → GoesOnKeeping k.transactions.store room.store → room.ledger ≡ k.transactions.ledger → room.early ≡ k.transactions.early
    → Becomes t (state_ready n (Some (Holds (in_open.Remote r)))) room.ledger ts.ledger → ts.store ≡ room.store → ts.early ≡ room.early
    → complete ≡ readied_by n (Some (Holds (in_open.Remote r))) → IsConcluded t r.ballot.stamp n complete (record k { transactions = ts }) l
    → Represents top me l (ready top me n c (kept_ballot_of r)).state
readied_state top me n t r k room ts complete l a c represents keeps waiting apart grown ledger room_early becomes store early completes concluded =
    by_cases (missing_in r.ballot == 0) (λ e. by_cases (is_alone r.ballot.notices.cohorts) (alone e) (held e)) later
  where
    kr : KeptBallot
    kr = kept_ballot_of r

    under_way : (s : State) → readied_by n (Some (Holds (in_open.Remote r))) ≡ None → state_ready n (Some (Holds (in_open.Remote r))) ≡ Some s → IsAfter t s None n k.waiting k l
    under_way s none is = under_way_after t s n k room ts l grown ledger room_early (subst (λ (o : Option State). Becomes t o room.ledger ts.ledger) is becomes) store early
        (subst (λ (o : Option CompleteValue). IsConcluded t r.ballot.stamp n o (record k { transactions = ts }) l) (completes ∙ none) concluded)

    there : (step : ShardStep) → ready top me n c kr ≡ step → (AreApart step.state.applied → Represents top me l step.state) → Represents top me l (ready top me n c kr).state
    there step is f = subst (λ (s : ShardStep). Represents top me l s.state) (sym is) (f (subst (λ (s : ShardStep). AreApart s.state.applied) is apart))

    later : (missing_in r.ballot == 0) ≡ false → Represents top me l (ready top me n c kr).state
    later e = there (quiet n c) (readies_later top me n t r a c keeps e) (λ p.
        moved top me n t (Holds (in_open.Remote r)) None k.waiting k l a (quiet n c).state represents (under_way (Holds (in_open.Remote r)) (none_later n r e) (later_stays n r e))
        (waits_at top me n t r a c (waits_on top me n t r a c keeps e)) refl (waiting ∙ represents.waiting) p)

    asked : List Envelope
    asked = map (λ s. envelope me (shard_node top (dc_of top me) s) n (PrepareRemote kr.txn)) r.cohorts

    held : (missing_in r.ballot == 0) ≡ true → is_alone r.ballot.notices.cohorts ≡ false → Represents top me l (ready top me n c kr).state
    held e f = there (hold top me n c (ballot_of kr) [] asked) (readies_with_cohorts top me n t r a c keeps e f) (λ p.
        moved top me n t (Holds (in_open.Led (led_by r n))) None k.waiting k l a (hold top me n c (ballot_of kr) [] asked).state represents
        (under_way (Holds (in_open.Led (led_by r n))) (none_with_cohorts n r e f) (state_with_cohorts r n e f))
        (readied_is_held top me n t r a c asked keeps e f) refl (waiting ∙ represents.waiting) p)

    stores : GoesOnKeeping k.transactions.store ts.store
    stores = subst (λ y. GoesOnKeeping k.transactions.store y) (sym store) grown

    own_part : r.ballot.part ≡ record { writer = record { txn = kr.txn; shard = shard_of top me }; batch = kr.rows }
    own_part = ap (λ (s : ℕ). record { writer = record { txn = kr.txn; shard = s }; batch = kr.rows }) keeps.stands.own

    applied : Applied
    applied = record { part = r.ballot.part; commit = n; stamp = r.ballot.stamp }

    decided_moves : (missing_in r.ballot == 0) ≡ true → Moves top me t (Some (IsDecided n r.ballot.stamp)) (applied ∷ []) a (decide top me n c (ballot_of kr)).state
    decided_moves e = subst (λ (p : WritePart). Moves top me t (Some (IsDecided n r.ballot.stamp)) (record { part = p; commit = n; stamp = r.ballot.stamp } ∷ []) a (decide top me n c (ballot_of kr)).state) (sym own_part)
        (subst (λ (u : TxnValue). Moves top me u (Some (IsDecided n r.ballot.stamp)) (applied_part kr.txn (shard_of top me) kr.rows n r.ballot.stamp ∷ []) a (decide top me n c (ballot_of kr)).state) keeps.is
        (decides top me n a c (ballot_of kr) (subst (λ (u : TxnValue). MayDecide top me u a c) (sym keeps.is) (ready_decides top me t r a c keeps e))))

    decided_after : (missing_in r.ballot == 0) ≡ true → is_alone r.ballot.notices.cohorts ≡ true → IsAfter t (IsDecided n r.ballot.stamp) (Some applied) n (still t cause.Applied k.waiting) k l
    decided_after e f = settled_after t (alone_complete r n).own n r.ballot.stamp k ts l
        (subst (λ (z : LedgerValue). Becomes t (Some (IsDecided n r.ballot.stamp)) z ts.ledger) ledger (subst (λ (o : Option State). Becomes t o room.ledger ts.ledger) (state_alone r n e f) becomes))
        stores (early ∙ room_early) (subst (λ (o : Option CompleteValue). IsConcluded t r.ballot.stamp n o (record k { transactions = ts }) l) (completes ∙ all_alone n r e f) concluded)

    alone : (missing_in r.ballot == 0) ≡ true → is_alone r.ballot.notices.cohorts ≡ true → Represents top me l (ready top me n c kr).state
    alone e f = there (decide top me n c (ballot_of kr)) (readies_alone top me n t r a c keeps e f) (λ p.
        moved top me n t (IsDecided n r.ballot.stamp) (Some applied) (still t cause.Applied k.waiting) k l a (decide top me n c (ballot_of kr)).state represents (decided_after e f) (decided_moves e) refl
        (ap (λ (u : TxnValue). still u cause.Applied c.waiting) keeps.is ∙ ap (λ (ws : List WaitingRead). still t cause.Applied ws) (waiting ∙ represents.waiting)) p)

pub readies_so : (top : TopologyValue) (me n : ℕ) (t : TxnValue) (r : Remote) (k : ShardKept) (room ts : TransactionsValue) (complete : Option CompleteValue) (l : ShardKept) (a c : ShardState) (before after : List Envelope)
    → Represents top me k a → KeepsBallot top me t r a c → c.waiting ≡ a.waiting → AreApart (ready top me n c (kept_ballot_of r)).state.applied
    → GoesOnKeeping k.transactions.store room.store → room.ledger ≡ k.transactions.ledger → room.early ≡ k.transactions.early
    → Becomes t (state_ready n (Some (Holds (in_open.Remote r)))) room.ledger ts.ledger → ts.store ≡ room.store → ts.early ≡ room.early
    → complete ≡ readied_by n (Some (Holds (in_open.Remote r))) → IsConcluded t r.ballot.stamp n complete (record k { transactions = ts }) l
    → (AreApart (ready_if (missing_in r.ballot == 0) top me n a (kept_ballot_of r)).state.applied → after ≡ before ++ (ready_if (missing_in r.ballot == 0) top me n a (kept_ballot_of r)).sends)
    → IsStep top me (ready top me n c (kept_ballot_of r)) l before after
readies_so top me n t r k room ts complete l a c before after represents keeps waiting apart grown ledger room_early becomes store early completes concluded sent =
    let b = missing_in r.ballot == 0 in
    let kr = kept_ballot_of r in
    let is : ready top me n c kr ≡ ready_if b top me n c kr = ap (λ (x : Bool). ready_if x top me n c kr) (ready_if_none top me c t r keeps.is keeps.stands) in
    let there = subst AreApart (ap (λ (s : ShardStep). s.state.applied) is ∙ same_applied top me n a c kr b keeps.applied) apart in
    record {
      state = readied_state top me n t r k room ts complete l a c represents keeps waiting apart grown ledger room_early becomes store early completes concluded;
      sends = sent there ∙ ap (λ (ys : List Envelope). before ++ ys) ((sym (same_sends top me n a c kr b keeps.applied keeps.low keeps.askers waiting) ∙ ap (λ (s : ShardStep). s.sends) (sym is)));
    }
