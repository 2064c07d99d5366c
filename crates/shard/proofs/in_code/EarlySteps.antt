-- The steps of votes and notices for transactions of which nothing is known.
use Rattle.std.proofs.Common.{◌≡◌, ◌∙◌, sym, ap, subst, refl, ℕ, Bool, true, false, if◌then◌else◌, List, [], ◌∷◌, ◌++◌, Option, None, is_some, append-nil}
use Rattle.logical_time.specs.Stamps.{TxnValue}
use Rattle.column_family.proofs.Options.{by_cases}
use Rattle.store.specs.Stored as in_store
use Rattle.store.specs.Keeps.{Keeps}
use Rattle.txn_state.specs.Votes.{is_among}
use Rattle.messages.specs.declared.envelope.Envelope.{Envelope}
use Rattle.messages.specs.Topology.{TopologyValue}
use Rattle.messages.specs.Words.{is_same_txn}
use Rattle.messages.specs.Shard.{ShardState, ShardStep, Vote}
use Rattle.messages.specs.Commits.{early_if, on_yes}
use Rattle.messages.specs.Replication.{early_notice_if, on_notify}
use Rattle.write_txn.specs.Ledger.{LedgerValue, State, state_of}
use Rattle.write_txn.specs.Voters.{VoterList, voters_of}
use Rattle.write_txn.specs.View.{View, view_of, nodes_for}
use Rattle.write_txn.specs.Stands.{Stands}
use Rattle.write_txn.specs.Moves.{IsExtended, IsAbout}
use Rattle.write_txn.specs.Transactions.{TransactionsValue}
use Rattle.write_txn.proofs.Finds.{own_txn, same_txn, nodes_one, stays, adds}
use Rattle.write_txn.proofs.Views.{view_of_others}
use Rattle.write_txn.proofs.Leading.{same_about}
use Rattle.write_txn.proofs.Bodies.{yes_early}
use Rattle.write_txn.proofs.Answering.{notice_early}
use Rattle.shard.specs.declared.kept.ShardKept.{ShardKept}
use Rattle.shard.specs.Kept.{Represents, IsStep}
use Rattle.shard.specs.Effects.{OthersHaveSameVoters}
use Rattle.shard.proofs.in_code.InPlace.{stands_so}

-- what is kept, with these transactions and these notices, at this clock
abbrev with_voters : ShardKept → ℕ → TransactionsValue → VoterList → ShardKept
with_voters k n ts ns = record k { clock = n; transactions = ts; notices = ns }

-- a state with these early votes and these notices, at this clock
abbrev with_lists : ShardState → ℕ → List Vote → List Vote → ShardState
with_lists a n es os = record a { clock = n; early = es; notices = os }

-- nothing but early votes and notices of an unknown transaction changes
stays_unknown : (top : TopologyValue) (me n : ℕ) (t : TxnValue) (k : ShardKept) (ts : TransactionsValue) (ns : VoterList) (a : ShardState) (es os : List Vote)
    → Represents top me k a → state_of k.transactions.ledger t ≡ None → ts.ledger ≡ k.transactions.ledger → ts.store ≡ k.transactions.store → IsAbout t a (with_lists a n es os)
    → voters_of ts.early t ≡ nodes_for es t → OthersHaveSameVoters t k.transactions.early ts.early
    → voters_of ns t ≡ nodes_for os t → OthersHaveSameVoters t k.notices ns
    → Represents top me (with_voters k n ts ns) (with_lists a n es os)
stays_unknown top me n t k ts ns a es os r unknown ledger store about own_early other_early own_notices other_notices = record {
  place = r.place;
  clock = refl;
  low = r.low ∙ ap (λ (x : in_store.StoreValue). x.low) (sym store);
  store = subst (λ x. Keeps x a.applied) (sym store) r.store;
  stands = λ u. subst (λ (l : LedgerValue). Stands top me u (view_of u (with_lists a n es os)) (state_of l u)) (sym ledger) (by_cases (is_same_txn t u)
      (λ yes. subst (λ (v : TxnValue). Stands top me v (view_of v (with_lists a n es os)) (state_of k.transactions.ledger v)) (same_txn t u yes) own)
      (λ no. subst (λ (v : View). Stands top me u v (state_of k.transactions.ledger u)) (sym (others u no)) (r.stands u)));
  early = λ u e. by_cases (is_same_txn t u)
      (λ yes. subst (λ (v : TxnValue). voters_of ts.early v ≡ nodes_for es v) (same_txn t u yes) own_early)
      (λ no. other_early u no ∙ (r.early u (before u e) ∙ ap (λ (v : View). v.early) (sym (others u no))));
  notices = λ u e. by_cases (is_same_txn t u)
      (λ yes. subst (λ (v : TxnValue). voters_of ns v ≡ nodes_for os v) (same_txn t u yes) own_notices)
      (λ no. other_notices u no ∙ (r.notices u (before u e) ∙ ap (λ (v : View). v.notices) (sym (others u no))));
  early_forgotten = λ u e. by_cases (is_same_txn t u)
      (λ yes. absurd (not_known u yes e))
      (λ no. other_early u no ∙ r.early_forgotten u (known_before u e));
  notices_forgotten = λ u e. by_cases (is_same_txn t u)
      (λ yes. absurd (not_known u yes e))
      (λ no. other_notices u no ∙ r.notices_forgotten u (known_before u e));
  askers = r.askers;
  waiting = r.waiting;
  once = r.once;
  kept_once = r.kept_once;
}
  where
    others : (u : TxnValue) → is_same_txn t u ≡ false → view_of u (with_lists a n es os) ≡ view_of u a
    others u d = view_of_others t u a (with_lists a n es os) d about

    before : (u : TxnValue) → state_of ts.ledger u ≡ None → state_of k.transactions.ledger u ≡ None
    before u e = ap (λ (l : LedgerValue). state_of l u) (sym ledger) ∙ e

    known_before : (u : TxnValue) → is_some (state_of ts.ledger u) ≡ true → is_some (state_of k.transactions.ledger u) ≡ true
    known_before u e = ap (λ (l : LedgerValue). is_some (state_of l u)) (sym ledger) ∙ e

    not_known : (u : TxnValue) → is_same_txn t u ≡ true → is_some (state_of ts.ledger u) ≡ true → ⊥
    not_known u same e =
        let known : is_some (state_of k.transactions.ledger t) ≡ true = subst (λ (v : TxnValue). is_some (state_of k.transactions.ledger v) ≡ true) (sym (same_txn t u same)) (known_before u e) in
        let none : is_some (state_of k.transactions.ledger t) ≡ false = ap (λ (o : Option State). is_some o) unknown in
        let f : false ≡ true = sym none ∙ known in
        cc

    own : Stands top me t (view_of t (with_lists a n es os)) (state_of k.transactions.ledger t)
    own =
        let h = stands_so top me k a t None r unknown in
        subst (Stands top me t (view_of t (with_lists a n es os))) (sym unknown) (record {
          unled = record { ballot = h.unled.ballot; kept_ballot = h.unled.kept_ballot; decision = h.unled.decision };
          prepared = h.prepared;
          kept_part = h.kept_part;
          applied = h.applied;
          votes = h.votes;
          met = h.met;
        })

-- what only lists of early votes and notices change is about the transaction
about_lists : (t : TxnValue) (a : ShardState) (n : ℕ) (es os : List Vote) → IsExtended (λ v. is_same_txn v.txn t) a.early es → IsExtended (λ v. is_same_txn v.txn t) a.notices os → IsAbout t a (with_lists a n es os)
about_lists t a n es os early notices = let s = same_about t a in record {
  prepared = s.prepared;
  ballots = s.ballots;
  kept_parts = s.kept_parts;
  kept_ballots = s.kept_ballots;
  decided = s.decided;
  applied = s.applied;
  early = early;
  votes = s.votes;
  notices = notices;
  met = s.met;
}

-- ## One more

-- the voters with this node's, once
abbrev pub AreWith : TxnValue → ℕ → VoterList → VoterList → Type 0
AreWith t node old new = (u : TxnValue) → voters_of new u ≡ (if is_same_txn t u then (if is_among (voters_of old u) node then voters_of old u else voters_of old u ++ node ∷ []) else voters_of old u)

-- the votes with this one, unless it came already
abbrev with_one : Bool → List Vote → TxnValue → ℕ → List Vote
with_one true vs t node = vs
with_one false vs t node = vs ++ record { txn = t; node = node } ∷ []

own_voters : (t : TxnValue) (node : ℕ) (old new : VoterList) (vs : List Vote) (b : Bool) → is_among (nodes_for vs t) node ≡ b → AreWith t node old new → voters_of old t ≡ nodes_for vs t
    → voters_of new t ≡ nodes_for (with_one b vs t node) t
own_voters t node old new vs b e is h = is t ∙ (rw (own_txn t) (ap (λ (ns : List ℕ). if is_among ns node then ns else ns ++ node ∷ []) h) ∙ (ap (λ (c : Bool). if c then nodes_for vs t else nodes_for vs t ++ node ∷ []) e ∙ go b))
  where
    go : (c : Bool) → (if c then nodes_for vs t else nodes_for vs t ++ node ∷ []) ≡ nodes_for (with_one c vs t node) t
    go true = refl
    go false = sym (nodes_one t vs node)

other_voters : (t : TxnValue) (node : ℕ) (old new : VoterList) → AreWith t node old new → OthersHaveSameVoters t old new
other_voters t node old new is u d = is u ∙ rw d refl

extended_by : (b : Bool) (vs : List Vote) (t : TxnValue) (node : ℕ) → IsExtended (λ v. is_same_txn v.txn t) vs (with_one b vs t node)
extended_by true vs t node = stays (λ v. is_same_txn v.txn t) vs
extended_by false vs t node = adds (λ v. is_same_txn v.txn t) vs (record { txn = t; node = node }) (own_txn t)

-- an early vote is kept, once
pub notes_vote : (top : TopologyValue) (me n : ℕ) (k : ShardKept) (ts : TransactionsValue) (a : ShardState) (t : TxnValue) (node : ℕ) (sent : List Envelope)
    → Represents top me k a → state_of k.transactions.ledger t ≡ None → AreWith t node k.transactions.early ts.early → ts.ledger ≡ k.transactions.ledger → ts.store ≡ k.transactions.store
    → IsStep top me (on_yes top me n a node t) (with_voters k n ts k.notices) sent sent
notes_vote top me n k ts a t node sent r unknown is ledger store =
    subst (λ (s : ShardStep). IsStep top me s (with_voters k n ts k.notices) sent sent) (sym (yes_early top me n a t node (stands_so top me k a t None r unknown)))
    (go (is_among (nodes_for a.early t) node) refl)
  where
    state : (b : Bool) → is_among (nodes_for a.early t) node ≡ b → Represents top me (with_voters k n ts k.notices) (with_lists a n (with_one b a.early t node) a.notices)
    state b e = stays_unknown top me n t k ts k.notices a (with_one b a.early t node) a.notices r unknown ledger store
        (about_lists t a n (with_one b a.early t node) a.notices (extended_by b a.early t node) (stays (λ v. is_same_txn v.txn t) a.notices))
        (own_voters t node k.transactions.early ts.early a.early b e is (r.early t unknown)) (other_voters t node k.transactions.early ts.early is)
        (r.notices t unknown) (λ u no. refl)

    go : (b : Bool) → is_among (nodes_for a.early t) node ≡ b → IsStep top me (early_if false b n a t node) (with_voters k n ts k.notices) sent sent
    go true e = record { state = state true e; sends = sym (append-nil sent) }
    go false e = record { state = state false e; sends = sym (append-nil sent) }

-- an early notice is kept, once
pub notes_notice : (top : TopologyValue) (me n : ℕ) (k : ShardKept) (ns : VoterList) (a : ShardState) (t : TxnValue) (node : ℕ) (sent : List Envelope)
    → Represents top me k a → state_of k.transactions.ledger t ≡ None → AreWith t node k.notices ns
    → IsStep top me (on_notify top me n a node t) (with_voters k n k.transactions ns) sent sent
notes_notice top me n k ns a t node sent r unknown is =
    subst (λ (s : ShardStep). IsStep top me s (with_voters k n k.transactions ns) sent sent) (sym (notice_early top me n a t node (stands_so top me k a t None r unknown)))
    (go (is_among (nodes_for a.notices t) node) refl)
  where
    state : (b : Bool) → is_among (nodes_for a.notices t) node ≡ b → Represents top me (with_voters k n k.transactions ns) (with_lists a n a.early (with_one b a.notices t node))
    state b e = stays_unknown top me n t k k.transactions ns a a.early (with_one b a.notices t node) r unknown refl refl
        (about_lists t a n a.early (with_one b a.notices t node) (stays (λ v. is_same_txn v.txn t) a.early) (extended_by b a.notices t node))
        (r.early t unknown) (λ u no. refl)
        (own_voters t node k.notices ns a.notices b e is (r.notices t unknown)) (other_voters t node k.notices ns is)

    go : (b : Bool) → is_among (nodes_for a.notices t) node ≡ b → IsStep top me (early_notice_if false b n a t node) (with_voters k n k.transactions ns) sent sent
    go true e = record { state = state true e; sends = sym (append-nil sent) }
    go false e = record { state = state false e; sends = sym (append-nil sent) }
