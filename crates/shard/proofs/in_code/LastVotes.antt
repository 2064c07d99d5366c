-- Votes, as what is kept takes them.
use Rattle.std.proofs.Common.{◌≡◌, ◌∙◌, sym, ap, subst, refl, ℕ, Bool, true, false, if◌then◌else◌, List, [], ◌++◌, Option, Some, None, map, is_some, append-nil}
use Rattle.logical_time.specs.Stamps.{StampValue, TxnValue}
use Rattle.column_family.proofs.Options.{by_cases}
use Rattle.store.specs.Stored as in_store
use Rattle.store.specs.Keeps.{Keeps, AreApart}
use Rattle.txn_state.specs.Ballot.{CompleteValue}
use Rattle.txn_state.specs.Votes.{counted, are_all_there}
use Rattle.txn_state.specs.Voted.{voted, voted_if}
use Rattle.messages.specs.declared.envelope.Envelope.{Envelope}
use Rattle.messages.specs.Topology.{TopologyValue}
use Rattle.messages.specs.Posting.{commit_to}
use Rattle.messages.specs.Words.{is_same_txn}
use Rattle.messages.specs.Shard.{ShardState, ShardStep, quiet}
use Rattle.messages.specs.Commits.{decide, on_yes, stamp_for, with_vote}
use Rattle.write_txn.specs.declared.open.Open.{Open}
use Rattle.write_txn.specs.declared.open.Open.TheVariants as in_open
use Rattle.write_txn.specs.declared.open.Led.{Led}
use Rattle.write_txn.specs.Ledger.{State, Holds, IsApplied, IsDecided, LedgerValue, state_of, open_in, part_of, decided_in, state_voted, completed_by, complete_in, led_after, Becomes, HaveSameStates}
use Rattle.write_txn.specs.Transactions.{TransactionsValue, GoesOnKeeping}
use Rattle.write_txn.specs.View.{view_of}
use Rattle.write_txn.specs.Stands.{StandsLed, begun_of, own_part, with_counted}
use Rattle.write_txn.specs.Moves.{Moves}
use Rattle.write_txn.proofs.Finds.{own_txn, same_txn, found_txn}
use Rattle.write_txn.proofs.Leading.{counts}
use Rattle.write_txn.proofs.Bodies.{yes_decides, yes_ignored, voted_decides, is_led}
use Rattle.shard.specs.declared.kept.ShardKept.{ShardKept}
use Rattle.shard.specs.Kept.{Represents, IsStep}
use Rattle.shard.specs.Deciding.{node_at, told, IsSettled}
use Rattle.shard.proofs.in_code.Standing.{is_quiet}
use Rattle.shard.proofs.in_code.InPlace.{with_transactions, step_in_place, goes_on, stands_so}
use Rattle.shard.proofs.in_code.Decisions.{decides_so, settled_after}

-- ## The last vote

-- the ballot that a vote completes, and what it becomes in a ledger
pub record IsLast (node here n : ℕ) (t : TxnValue) (l m : LedgerValue) : Type 0 where
  pub led : Led
  pub held : state_of l t ≡ Some (Holds (in_open.Led led))
  pub all : are_all_there (counted led.ballot.votes node) ≡ true
  pub completed : completed_by node (state_of l t) ≡ Some (record { own = led.ballot.own; cohorts = led.ballot.votes.cohorts })
  pub becomes : Becomes t (Some (IsDecided n (stamp_for here n led.stamp))) l m

-- which ballot a vote completes
pub which_ballot : (node : ℕ) (s : Option State) → is_some (completed_by node s) ≡ true → (l : Led) × (s ≡ Some (Holds (in_open.Led l))) × (are_all_there (counted l.ballot.votes node) ≡ true)
which_ballot node None e = absurd (cc)
which_ballot node (Some (Holds (in_open.Kept k))) e = absurd (cc)
which_ballot node (Some (Holds (in_open.Part p))) e = absurd (cc)
which_ballot node (Some (Holds (in_open.Led l))) e = by_cases (are_all_there (counted l.ballot.votes node))
    (λ all. (l, refl, all))
    (λ more. absurd (let f : is_some (complete_in (voted_if false (record l.ballot { votes = counted l.ballot.votes node }))) ≡ true = subst (λ (b : Bool). is_some (complete_in (voted_if b (record l.ballot { votes = counted l.ballot.votes node }))) ≡ true) more e in cc))
which_ballot node (Some (Holds (in_open.Remote r))) e = absurd (cc)
which_ballot node (Some IsApplied) e = absurd (cc)
which_ballot node (Some (IsDecided commit stamp)) e = absurd (cc)

pub is_last : (node here n : ℕ) (t : TxnValue) (l m : LedgerValue) → is_some (completed_by node (state_of l t)) ≡ true → Becomes t (state_voted here n node (state_of l t)) l m → IsLast node here n t l m
is_last node here n t l m last becomes =
    let w = which_ballot node (state_of l t) last in
    record {
      led = w.0;
      held = w.1;
      all = w.2;
      completed = ap (completed_by node) w.1 ∙ ap (λ (b : Bool). complete_in (voted_if b (record w.0.ballot { votes = counted w.0.ballot.votes node }))) w.2;
      becomes = subst (λ (s : Option State). Becomes t s l m) (ap (state_voted here n node) w.1 ∙ ap (λ (b : Bool). Some (led_after w.0 here n (voted_if b (record w.0.ballot { votes = counted w.0.ballot.votes node })))) w.2) becomes;
    }

-- what the ledger then says
pub decided_so : (t : TxnValue) (n : ℕ) (stamp : StampValue) (l m : LedgerValue) → Becomes t (Some (IsDecided n stamp)) l m → decided_in (state_of m t) ≡ Some (n, stamp)
decided_so t n stamp l m becomes = ap decided_in (becomes t ∙ ap (λ (b : Bool). if b then Some (IsDecided n stamp) else state_of l t) (own_txn t))

-- the step of the last vote, where the transaction is named by its ballot
core : (top : TopologyValue) (me n node : ℕ) (k : ShardKept) (ts : TransactionsValue) (l : ShardKept) (a : ShardState) (led : Led) (before es after : List Envelope)
    → Represents top me k a → state_of k.transactions.ledger (begun_of led).txn ≡ Some (Holds (in_open.Led led)) → are_all_there (counted led.ballot.votes node) ≡ true
    → AreApart (on_yes top me n a node (begun_of led).txn).state.applied
    → Becomes (begun_of led).txn (Some (IsDecided n (stamp_for me n led.stamp))) k.transactions.ledger ts.ledger → GoesOnKeeping k.transactions.store ts.store → ts.early ≡ k.transactions.early
    → IsSettled (begun_of led).txn led.ballot.own n (stamp_for me n led.stamp) (record k { transactions = ts }) l
    → (AreApart (decide top me n a (begun_of led)).state.applied → es ≡ told top me n a (begun_of led))
    → after ≡ (before ++ map (commit_to me n (begun_of led).txn n (stamp_for me n led.stamp)) led.ballot.votes.cohorts) ++ es
    → IsStep top me (on_yes top me n a node (begun_of led).txn) l before after
core top me n node k ts l a led before es after r held all apart becomes stores early settled es_are sent =
    subst (λ (s : ShardStep). IsStep top me s l before after) (sym step_is)
    (decides_so top me n k l a (with_vote a t node) (begun_of led) led.ballot.own led.ballot.votes.cohorts before es after r (voted_decides top me a t led node stands) refl there
    (ap (λ (s : ℕ). record { writer = record { txn = t; shard = s }; batch = led.ballot.own.part.batch }) stands.own)
    (settled_after t led.ballot.own n (stamp_for me n led.stamp) k ts l becomes stores early settled) stands.cohorts (es_are there) sent)
  where
    t : TxnValue
    t = (begun_of led).txn

    stands : StandsLed top me (view_of t a) led
    stands = stands_so top me k a t (Some (Holds (in_open.Led led))) r held

    step_is : on_yes top me n a node t ≡ decide top me n (with_vote a t node) (begun_of led)
    step_is = yes_decides top me n a t led node refl stands all

    there : AreApart (decide top me n (with_vote a t node) (begun_of led)).state.applied
    there = subst (λ (s : ShardStep). AreApart s.state.applied) step_is apart

pub last_vote_so : (top : TopologyValue) (me n node : ℕ) (t : TxnValue) (k : ShardKept) (ts : TransactionsValue) (l : ShardKept) (a : ShardState) (led : Led) (before es after : List Envelope)
    → Represents top me k a → state_of k.transactions.ledger t ≡ Some (Holds (in_open.Led led)) → are_all_there (counted led.ballot.votes node) ≡ true
    → AreApart (on_yes top me n a node t).state.applied
    → Becomes t (Some (IsDecided n (stamp_for me n led.stamp))) k.transactions.ledger ts.ledger → GoesOnKeeping k.transactions.store ts.store → ts.early ≡ k.transactions.early
    → IsSettled t led.ballot.own n (stamp_for me n led.stamp) (record k { transactions = ts }) l
    → (AreApart (decide top me n a (begun_of led)).state.applied → es ≡ told top me n a (begun_of led))
    → after ≡ (before ++ map (commit_to me n t n (stamp_for me n led.stamp)) led.ballot.votes.cohorts) ++ es
    → IsStep top me (on_yes top me n a node t) l before after
last_vote_so top me n node t k ts l a led before es after r held all apart becomes stores early settled es_are sent =
    subst StepOf (found_txn a.prepared t (own_part led) (stands_so top me k a t (Some (Holds (in_open.Led led))) r held).prepared)
    (λ h p b s z. core top me n node k ts l a led before es after r h all p b stores early s es_are z) held apart becomes settled sent
  where
    StepOf : TxnValue → Type 0
    StepOf u = state_of k.transactions.ledger u ≡ Some (Holds (in_open.Led led)) → AreApart (on_yes top me n a node u).state.applied
        → Becomes u (Some (IsDecided n (stamp_for me n led.stamp))) k.transactions.ledger ts.ledger
        → IsSettled u led.ballot.own n (stamp_for me n led.stamp) (record k { transactions = ts }) l
        → after ≡ (before ++ map (commit_to me n u n (stamp_for me n led.stamp)) led.ballot.votes.cohorts) ++ es
        → IsStep top me (on_yes top me n a node u) l before after

-- there is room for what the last vote completes
pub room_for_own : (l m : LedgerValue) (t : TxnValue) (node : ℕ) (own : CompleteValue) (made kept : in_store.StoreValue) → is_some (completed_by node (state_of l t)) ≡ true
    → m ≡ l → Some own ≡ completed_by node (state_of m t) → kept ≡ made
    → ((o : Open) → open_in (state_of l t) ≡ Some o → in_store.HasRoom made (part_of o).batch) → in_store.HasRoom kept own.own.part.batch
room_for_own l m t node own made kept last same is stays room =
    let w = which_ballot node (state_of l t) last in
    let completed : completed_by node (state_of l t) ≡ Some (record { own = w.0.ballot.own; cohorts = w.0.ballot.votes.cohorts }) =
    ap (completed_by node) w.1 ∙ ap (λ (b : Bool). complete_in (voted_if b (record w.0.ballot { votes = counted w.0.ballot.votes node }))) w.2 in
    let eq : Some own ≡ Some (record { own = w.0.ballot.own; cohorts = w.0.ballot.votes.cohorts }) = is ∙ (ap (λ (x : LedgerValue). completed_by node (state_of x t)) same ∙ completed) in
    let own_is : own ≡ record { own = w.0.ballot.own; cohorts = w.0.ballot.votes.cohorts } = cc in
    subst (λ (x : CompleteValue). in_store.HasRoom kept x.own.part.batch) (sym own_is)
    (subst (λ (s : in_store.StoreValue). in_store.HasRoom s w.0.ballot.own.part.batch) (sym stays) (room (in_open.Led w.0) (ap open_in w.1)))

-- the whole step of the last vote, by what the calls did
pub decides_by_vote : (top : TopologyValue) (me n node here : ℕ) (t : TxnValue) (k : ShardKept) (room ts : TransactionsValue) (l : ShardKept) (a : ShardState) (own : CompleteValue) (stamp : StampValue) (before es after : List Envelope)
    → Represents top me k a → AreApart (on_yes top me n a node t).state.applied → is_some (completed_by node (state_of k.transactions.ledger t)) ≡ true
    → room.ledger ≡ k.transactions.ledger → GoesOnKeeping k.transactions.store room.store → room.early ≡ k.transactions.early
    → here ≡ node_at k.place → Becomes t (state_voted here n node (state_of room.ledger t)) room.ledger ts.ledger → ts.store ≡ room.store → ts.early ≡ room.early
    → Some own ≡ completed_by node (state_of room.ledger t)
    → ((led : Led) → state_of k.transactions.ledger t ≡ Some (Holds (in_open.Led led)) → stamp ≡ stamp_for (node_at k.place) n led.stamp)
    → ((led : Led) → state_of k.transactions.ledger t ≡ Some (Holds (in_open.Led led)) → AreApart (decide top me n a (begun_of led)).state.applied → es ≡ told top me n a (begun_of led))
    → IsSettled t own.own n stamp (record k { transactions = ts }) l
    → after ≡ (before ++ map (commit_to me n t n stamp) own.cohorts) ++ es
    → IsStep top me (on_yes top me n a node t) l before after
decides_by_vote top me n node here t k room ts l a own stamp before es after r apart last same grown room_early here_is voted stays early is stamp_is es_are settled sent =
    last_vote_so top me n node t k ts l a w.led before es after r w.held w.all apart becomes
    (record { low = ap (λ (s : in_store.StoreValue). s.low) stays ∙ grown.low; keeps = λ all keeps. subst (λ (s : in_store.StoreValue). Keeps s all) (sym stays) (grown.keeps all keeps) }) (early ∙ room_early)
    (subst (λ s. IsSettled t w.led.ballot.own n s (record k { transactions = ts }) l) stamped (subst (λ (x : CompleteValue). IsSettled t x.own n stamp (record k { transactions = ts }) l) own_is settled))
    (es_are w.led w.held)
    (sent ∙ (ap (λ (s : StampValue). (before ++ map (commit_to me n t n s) own.cohorts) ++ es) stamped ∙ ap (λ (x : CompleteValue). (before ++ map (commit_to me n t n (stamp_for me n w.led.stamp)) x.cohorts) ++ es) own_is))
  where
    in_k : Becomes t (state_voted here n node (state_of k.transactions.ledger t)) k.transactions.ledger ts.ledger
    in_k = subst (λ (x : LedgerValue). Becomes t (state_voted here n node (state_of x t)) x ts.ledger) same voted

    w : IsLast node here n t k.transactions.ledger ts.ledger
    w = is_last node here n t k.transactions.ledger ts.ledger last in_k

    at_me : here ≡ me
    at_me = here_is ∙ sym r.place.node

    stamped : stamp ≡ stamp_for me n w.led.stamp
    stamped = stamp_is w.led w.held ∙ ap (λ (m : ℕ). stamp_for m n w.led.stamp) (sym r.place.node)

    becomes : Becomes t (Some (IsDecided n (stamp_for me n w.led.stamp))) k.transactions.ledger ts.ledger
    becomes = subst (λ (m : ℕ). Becomes t (Some (IsDecided n (stamp_for m n w.led.stamp))) k.transactions.ledger ts.ledger) at_me w.becomes

    own_is : own ≡ record { own = w.led.ballot.own; cohorts = w.led.ballot.votes.cohorts }
    own_is = let eq : Some own ≡ Some (record { own = w.led.ballot.own; cohorts = w.led.ballot.votes.cohorts }) = is ∙ (ap (λ (x : LedgerValue). completed_by node (state_of x t)) same ∙ w.completed) in cc

-- ## A vote that isn't the last

-- what the clock shows doesn't matter for how a transaction comes to stand
clocked : (top : TopologyValue) (me n : ℕ) (t : TxnValue) (s : Option State) (a b : ShardState) → Moves top me t s [] a b → Moves top me t s [] a (record b { clock = n })
clocked top me n t s a b m =
    let i = m.about in
    record {
      about = record { prepared = i.prepared; ballots = i.ballots; kept_parts = i.kept_parts; kept_ballots = i.kept_ballots; decided = i.decided; applied = i.applied; early = i.early; votes = i.votes; notices = i.notices; met = i.met };
      own = m.own;
      applied = m.applied;
      low = m.low;
      askers = m.askers;
      once = m.once;
      kept_once = m.kept_once;
    }

-- a ledger in which a transaction comes to be what it was
same_states : (t : TxnValue) (s : State) (l m : LedgerValue) → state_of l t ≡ Some s → Becomes t (Some s) l m → HaveSameStates l m
same_states t s l m is becomes u = by_cases (is_same_txn t u)
    (λ same. becomes u ∙ (ap (λ (b : Bool). if b then Some s else state_of l u) same ∙ (sym is ∙ ap (state_of l) (same_txn t u same))))
    (λ other. becomes u ∙ ap (λ (b : Bool). if b then Some s else state_of l u) other)

-- what is ignored changes nothing but the clock
passes : (top : TopologyValue) (me n : ℕ) (t : TxnValue) (s : State) (k : ShardKept) (ts : TransactionsValue) (a : ShardState) (step : ShardStep) (sent : List Envelope)
    → Represents top me k a → state_of k.transactions.ledger t ≡ Some s → Becomes t (Some s) k.transactions.ledger ts.ledger → ts.store ≡ k.transactions.store → ts.early ≡ k.transactions.early
    → step ≡ quiet n a → IsStep top me step (with_transactions k ts n) sent sent
passes top me n t s k ts a step sent r is becomes stays early e =
    is_quiet top me n (record k { transactions = ts }) a step sent (goes_on k ts (same_states t s k.transactions.ledger ts.ledger is becomes) stays early top me a r) e

pub counts_so : (top : TopologyValue) (me n node here : ℕ) (t : TxnValue) (k : ShardKept) (ts : TransactionsValue) (a : ShardState) (sent : List Envelope)
    → Represents top me k a → AreApart (on_yes top me n a node t).state.applied → is_some (state_of k.transactions.ledger t) ≡ true → is_some (completed_by node (state_of k.transactions.ledger t)) ≡ false
    → Becomes t (state_voted here n node (state_of k.transactions.ledger t)) k.transactions.ledger ts.ledger → ts.store ≡ k.transactions.store → ts.early ≡ k.transactions.early
    → IsStep top me (on_yes top me n a node t) (with_transactions k ts n) sent sent
counts_so top me n node here t k ts a sent r apart known not_last becomes stays early = go (state_of k.transactions.ledger t) refl known not_last becomes
  where
    ignored : (s : State) → is_led (Some s) ≡ false → state_of k.transactions.ledger t ≡ Some s → Becomes t (Some s) k.transactions.ledger ts.ledger
        → IsStep top me (on_yes top me n a node t) (with_transactions k ts n) sent sent
    ignored s e is b = passes top me n t s k ts a (on_yes top me n a node t) sent r is b stays early (yes_ignored top me n a t node s (stands_so top me k a t (Some s) r is) e)

    counted_one : (l : Led) → state_of k.transactions.ledger t ≡ Some (Holds (in_open.Led l)) → are_all_there (counted l.ballot.votes node) ≡ false
        → Becomes t (state_voted here n node (Some (Holds (in_open.Led l)))) k.transactions.ledger ts.ledger
        → IsStep top me (on_yes top me n a node t) (with_transactions k ts n) sent sent
    counted_one l is left b =
        let stands = stands_so top me k a t (Some (Holds (in_open.Led l))) r is in
        let c = counts top me n a t l node (found_txn a.prepared t (own_part l) stands.prepared) stands left in
        let held = subst (λ (s : Option State). Becomes t s k.transactions.ledger ts.ledger) (ap (λ (x : Bool). Some (led_after l here n (voted_if x (record l.ballot { votes = counted l.ballot.votes node })))) left) b in
        subst (λ (s : ShardStep). IsStep top me s (with_transactions k ts n) sent sent) (sym c.1)
        (step_in_place top me n t (Holds (in_open.Led (with_counted l node))) k ts a (quiet n c.0) sent sent r (ap (λ (s : Option State). is_some s) is) held stays early (clocked top me n t (Some (Holds (in_open.Led (with_counted l node)))) a c.0 c.2) refl c.3
        (subst (λ (s : ShardStep). AreApart s.state.applied) c.1 apart) (sym (append-nil sent)))

    go : (o : Option State) → state_of k.transactions.ledger t ≡ o → is_some o ≡ true → is_some (completed_by node o) ≡ false → Becomes t (state_voted here n node o) k.transactions.ledger ts.ledger
        → IsStep top me (on_yes top me n a node t) (with_transactions k ts n) sent sent
    go None is e f b = absurd (cc)
    go (Some (Holds (in_open.Kept x))) is e f b = ignored (Holds (in_open.Kept x)) refl is b
    go (Some (Holds (in_open.Part x))) is e f b = ignored (Holds (in_open.Part x)) refl is b
    go (Some (Holds (in_open.Led l))) is e f b = by_cases (are_all_there (counted l.ballot.votes node))
        (λ all. absurd (let g : is_some (complete_in (voted_if true (record l.ballot { votes = counted l.ballot.votes node }))) ≡ false = subst (λ (x : Bool). is_some (complete_in (voted_if x (record l.ballot { votes = counted l.ballot.votes node }))) ≡ false) all f in cc))
        (λ left. counted_one l is left b)
    go (Some (Holds (in_open.Remote x))) is e f b = ignored (Holds (in_open.Remote x)) refl is b
    go (Some IsApplied) is e f b = ignored IsApplied refl is b
    go (Some (IsDecided commit stamp)) is e f b = ignored (IsDecided commit stamp) refl is b
