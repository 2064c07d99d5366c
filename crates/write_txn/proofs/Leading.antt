-- Steps of a coordinator: a ballot is held, a vote is counted, the transaction is decided.
use Rattle.std.proofs.Common.{◌≡◌, ◌∙◌, sym, ap, subst, refl, ℕ, Bool, true, false, not, List, [], ◌∷◌, ◌++◌, Some, None, length, append-nil}
use Rattle.std.specs.Prelude.{filter, ◌==◌}
use Rattle.std.specs.List.{list_all}
use Rattle.logical_time.specs.Stamps.{TxnValue}
use Rattle.column_family.proofs.Options.{by_cases}
use Rattle.txn_state.specs.Votes.{is_among, counted, are_all_there}
use Rattle.messages.specs.declared.envelope.Envelope.{Envelope}
use Rattle.messages.specs.Topology.{TopologyValue, shard_of}
use Rattle.messages.specs.Words.{is_same_txn}
use Rattle.messages.specs.Shard.{ShardState, PreparedPart, Own, BegunBallot, KeptPart, KeptBallot, Vote, quiet}
use Rattle.messages.specs.Known.{prepared_part, decision_of, standing_ballot, is_awaited, all_voted}
use Rattle.messages.specs.Commits.{applied_part, stamp_for, decide, hold, with_vote, yes_for, on_yes, vote_if, counted_if}
use Rattle.write_txn.specs.declared.open.Open.TheVariants as in_open
use Rattle.write_txn.specs.declared.open.Led.{Led}
use Rattle.write_txn.specs.Ledger.{Holds, IsDecided}
use Rattle.write_txn.specs.View.{view_of, near_nodes, left_of, nodes_for, is_ready_by}
use Rattle.write_txn.specs.Stands.{StandsLed, begun_of, own_part, with_counted}
use Rattle.write_txn.specs.Moves.{IsExtended, IsAbout, Moves}
use Rattle.messages.specs.Known.{AreOnce}
use Rattle.write_txn.proofs.Finds.{own_txn, find_last, any_last, nodes_append, nodes_one, stays, adds, others_if_none, once_more}
use Rattle.write_txn.proofs.Counting.{voted_left, awaited_left, left_counted, stranger_left}

-- ## One list after another

all_append : {T : Type 0} (q : T → Bool) (xs ys : List T) → list_all q xs ≡ true → list_all q ys ≡ true → list_all q (xs ++ ys) ≡ true
all_append q [] ys e f = f
all_append q (x ∷ xs) ys e f = by_cases (q x) (λ yes. rw yes (all_append q xs ys (rw yes at e) f)) (λ no. absurd (let g = rw no at e in cc))

append_assoc : {T : Type 0} (xs ys zs : List T) → (xs ++ ys) ++ zs ≡ xs ++ (ys ++ zs)
append_assoc [] ys zs = refl
append_assoc (x ∷ xs) ys zs = ap (λ ws. x ∷ ws) (append_assoc xs ys zs)

pub then_extended : {T : Type 0} (q : T → Bool) (xs ys zs : List T) → IsExtended q xs ys → IsExtended q ys zs → IsExtended q xs zs
then_extended q xs ys zs i j = record {
  more = i.more ++ j.more;
  is = j.is ∙ (ap (λ ws. ws ++ j.more) i.is ∙ append_assoc xs i.more j.more);
  all = all_append q i.more j.more i.all j.all;
}

pub then_about : (t : TxnValue) (a b c : ShardState) → IsAbout t a b → IsAbout t b c → IsAbout t a c
then_about t a b c i j = record {
  prepared = then_extended (λ p. is_same_txn p.txn t) a.prepared b.prepared c.prepared i.prepared j.prepared;
  ballots = then_extended (λ p. is_same_txn p.txn t) a.ballots b.ballots c.ballots i.ballots j.ballots;
  kept_parts = then_extended (λ p. is_same_txn p.txn t) a.kept_parts b.kept_parts c.kept_parts i.kept_parts j.kept_parts;
  kept_ballots = then_extended (λ p. is_same_txn p.txn t) a.kept_ballots b.kept_ballots c.kept_ballots i.kept_ballots j.kept_ballots;
  decided = then_extended (λ p. is_same_txn p.txn t) a.decided b.decided c.decided i.decided j.decided;
  applied = then_extended (λ p. is_same_txn p.part.writer.txn t) a.applied b.applied c.applied i.applied j.applied;
  early = then_extended (λ p. is_same_txn p.txn t) a.early b.early c.early i.early j.early;
  votes = then_extended (λ p. is_same_txn p.txn t) a.votes b.votes c.votes i.votes j.votes;
  notices = then_extended (λ p. is_same_txn p.txn t) a.notices b.notices c.notices i.notices j.notices;
  met = then_extended (λ p. is_same_txn p.waiter t) a.met b.met c.met i.met j.met;
}

pub same_about : (t : TxnValue) (a : ShardState) → IsAbout t a a
same_about t a = record {
  prepared = stays (λ p. is_same_txn p.txn t) a.prepared;
  ballots = stays (λ p. is_same_txn p.txn t) a.ballots;
  kept_parts = stays (λ p. is_same_txn p.txn t) a.kept_parts;
  kept_ballots = stays (λ p. is_same_txn p.txn t) a.kept_ballots;
  decided = stays (λ p. is_same_txn p.txn t) a.decided;
  applied = stays (λ p. is_same_txn p.part.writer.txn t) a.applied;
  early = stays (λ p. is_same_txn p.txn t) a.early;
  votes = stays (λ p. is_same_txn p.txn t) a.votes;
  notices = stays (λ p. is_same_txn p.txn t) a.notices;
  met = stays (λ p. is_same_txn p.waiter t) a.met;
}

-- ## A decision

decide_about : (top : TopologyValue) (me n : ℕ) (a : ShardState) (b : BegunBallot) → IsAbout b.txn a (decide top me n a b).state
decide_about top me n a b = record {
  prepared = stays (λ p. is_same_txn p.txn b.txn) a.prepared;
  ballots = stays (λ p. is_same_txn p.txn b.txn) a.ballots;
  kept_parts = stays (λ p. is_same_txn p.txn b.txn) a.kept_parts;
  kept_ballots = stays (λ p. is_same_txn p.txn b.txn) a.kept_ballots;
  decided = adds (λ d. is_same_txn d.txn b.txn) a.decided (record { txn = b.txn; commit = n; stamp = stamp_for me n b.stamp }) (own_txn b.txn);
  applied = adds (λ x. is_same_txn x.part.writer.txn b.txn) a.applied (applied_part b.txn (shard_of top me) b.rows n (stamp_for me n b.stamp)) (own_txn b.txn);
  early = stays (λ p. is_same_txn p.txn b.txn) a.early;
  votes = stays (λ p. is_same_txn p.txn b.txn) a.votes;
  notices = stays (λ p. is_same_txn p.txn b.txn) a.notices;
  met = stays (λ p. is_same_txn p.waiter b.txn) a.met;
}

-- a state in which a coordinator may decide this ballot: after another one, and about its transaction alone
pub record MayDecide (top : TopologyValue) (me : ℕ) (t : TxnValue) (a c : ShardState) : Type 0 where
  pub about : IsAbout t a c
  pub applied : c.applied ≡ a.applied
  pub low : c.low ≡ a.low
  pub askers : c.askers ≡ a.askers
  pub once : AreOnce (λ (x : PreparedPart). x.txn) a.prepared → AreOnce (λ (x : PreparedPart). x.txn) c.prepared
  pub same_kept : c.kept_parts ≡ a.kept_parts
  pub undecided : decision_of t c ≡ None
  pub own : (p : PreparedPart) → prepared_part t c ≡ Some p → p.role ≡ Own
  pub kept_part : (view_of t c).kept_part ≡ None
  pub readied : (r : KeptBallot) → (view_of t c).kept_ballot ≡ Some r → is_ready_by top me (view_of t c) r ≡ true

pub decides : (top : TopologyValue) (me n : ℕ) (a c : ShardState) (b : BegunBallot) → MayDecide top me b.txn a c
    → Moves top me b.txn (Some (IsDecided n (stamp_for me n b.stamp))) (applied_part b.txn (shard_of top me) b.rows n (stamp_for me n b.stamp) ∷ []) a (decide top me n c b).state
decides top me n a c b h = record {
  about = then_about b.txn a c (decide top me n c b).state h.about (decide_about top me n c b);
  own = record {
    decision = find_last (λ d. is_same_txn d.txn b.txn) c.decided (record { txn = b.txn; commit = n; stamp = stamp_for me n b.stamp }) h.undecided (own_txn b.txn);
    prepared = h.own;
    applied = any_last (λ x. is_same_txn x.part.writer.txn b.txn) c.applied (applied_part b.txn (shard_of top me) b.rows n (stamp_for me n b.stamp)) (own_txn b.txn);
    kept_part = h.kept_part;
    readied = h.readied;
  };
  applied = ap (λ xs. xs ++ applied_part b.txn (shard_of top me) b.rows n (stamp_for me n b.stamp) ∷ []) h.applied;
  low = h.low;
  askers = h.askers;
  once = h.once;
  kept_once = λ o. subst (AreOnce (λ (x : KeptPart). x.txn)) (sym h.same_kept) o;
}

-- ## A ballot is held

hold_about : (top : TopologyValue) (me n : ℕ) (a : ShardState) (b : BegunBallot) (counted : List Vote) (sends : List Envelope) → list_all (λ v. is_same_txn v.txn b.txn) counted ≡ true
    → IsAbout b.txn a (hold top me n a b counted sends).state
hold_about top me n a b counted sends e = record {
  prepared = adds (λ p. is_same_txn p.txn b.txn) a.prepared (record { txn = b.txn; rows = b.rows; coordinator = shard_of top me; time = n; role = Own }) (own_txn b.txn);
  ballots = adds (λ p. is_same_txn p.txn b.txn) a.ballots b (own_txn b.txn);
  kept_parts = stays (λ p. is_same_txn p.txn b.txn) a.kept_parts;
  kept_ballots = stays (λ p. is_same_txn p.txn b.txn) a.kept_ballots;
  decided = stays (λ d. is_same_txn d.txn b.txn) a.decided;
  applied = stays (λ x. is_same_txn x.part.writer.txn b.txn) a.applied;
  early = stays (λ p. is_same_txn p.txn b.txn) a.early;
  votes = record { more = counted; is = refl; all = e };
  notices = stays (λ p. is_same_txn p.txn b.txn) a.notices;
  met = stays (λ p. is_same_txn p.waiter b.txn) a.met;
}

-- a state in which a coordinator may hold this ballot
pub record MayHold (top : TopologyValue) (me : ℕ) (t : TxnValue) (a c : ShardState) : Type 0 where
  pub about : IsAbout t a c
  pub applied : c.applied ≡ a.applied
  pub low : c.low ≡ a.low
  pub askers : c.askers ≡ a.askers
  pub same_parts : c.prepared ≡ a.prepared
  pub same_kept : c.kept_parts ≡ a.kept_parts
  pub unbegun : (view_of t c).ballot ≡ None
  pub undecided : decision_of t c ≡ None
  pub unprepared : prepared_part t c ≡ None
  pub unapplied : (view_of t c).applied ≡ false
  pub unvoted : (view_of t c).votes ≡ []
  pub kept_part : (view_of t c).kept_part ≡ None
  pub readied : (r : KeptBallot) → (view_of t c).kept_ballot ≡ Some r → is_ready_by top me (view_of t c) r ≡ true

pub holds : (top : TopologyValue) (me n : ℕ) (a c : ShardState) (l : Led) (counted : List Vote) (sends : List Envelope) → MayHold top me (begun_of l).txn a c
    → list_all (λ v. is_same_txn v.txn (begun_of l).txn) counted ≡ true
    → l.ballot.own.part.writer.shard ≡ shard_of top me → l.ballot.own.time ≡ n
    → l.ballot.votes.cohorts ≡ near_nodes top me l.cohorts → l.ballot.votes.missing ≡ left_of (near_nodes top me l.cohorts) (nodes_for counted (begun_of l).txn)
    → are_all_there l.ballot.votes ≡ false
    → Moves top me (begun_of l).txn (Some (Holds (in_open.Led l))) [] a (hold top me n c (begun_of l) counted sends).state
holds top me n a c l counted sends h e shard time cohorts missing left = record {
  about = then_about t a c b h.about (hold_about top me n c (begun_of l) counted sends e);
  own = record {
    ballot = find_last (λ x. is_same_txn x.txn t) c.ballots (begun_of l) h.unbegun (own_txn t);
    prepared = find_last (λ p. is_same_txn p.txn t) c.prepared own h.unprepared (own_txn t) ∙ ap (λ (p : PreparedPart). Some p) own_is;
    own = shard;
    cohorts = cohorts;
    missing = missing ∙ ap (left_of (near_nodes top me l.cohorts)) (sym (nodes_append t c.votes counted ∙ ap (λ ns. ns ++ nodes_for counted t) h.unvoted));
    open_yet = left;
    decision = h.undecided;
    applied = h.unapplied;
    kept_part = h.kept_part;
    readied = h.readied;
  };
  applied = h.applied ∙ sym (append-nil a.applied);
  low = h.low;
  askers = h.askers;
  once = λ o. once_more (λ (x : PreparedPart). x.txn) c.prepared own (subst (AreOnce (λ (x : PreparedPart). x.txn)) (sym h.same_parts) o) (others_if_none (λ (x : PreparedPart). x.txn) c.prepared t h.unprepared);
  kept_once = λ o. subst (AreOnce (λ (x : KeptPart). x.txn)) (sym h.same_kept) o;
}
  where
    t : TxnValue
    t = (begun_of l).txn

    b : ShardState
    b = (hold top me n c (begun_of l) counted sends).state

    own : PreparedPart
    own = record { txn = (begun_of l).txn; rows = (begun_of l).rows; coordinator = shard_of top me; time = n; role = Own }

    own_is : own ≡ own_part l
    own_is = ap (λ (s : ℕ). record { txn = (begun_of l).txn; rows = (begun_of l).rows; coordinator = s; time = n; role = Own }) (sym shard)
        ∙ ap (λ (m : ℕ). record { txn = (begun_of l).txn; rows = (begun_of l).rows; coordinator = l.ballot.own.part.writer.shard; time = m; role = Own }) (sym time)

-- ## A vote is counted

pub with_vote_about : (a : ShardState) (t : TxnValue) (node : ℕ) → IsAbout t a (with_vote a t node)
with_vote_about a t node =
    let s = same_about t a in
    record {
      prepared = s.prepared;
      ballots = s.ballots;
      kept_parts = s.kept_parts;
      kept_ballots = s.kept_ballots;
      decided = s.decided;
      applied = s.applied;
      early = s.early;
      votes = adds (λ v. is_same_txn v.txn t) a.votes (record { txn = t; node = node }) (own_txn t);
      notices = s.notices;
      met = s.met;
    }

pub standing : (top : TopologyValue) (me : ℕ) (a : ShardState) (t : TxnValue) (l : Led) → StandsLed top me (view_of t a) l → standing_ballot t a ≡ Some (begun_of l)
standing top me a t l h = rw h.decision h.ballot

-- a vote that isn't awaited, and one that isn't the last
pub counts : (top : TopologyValue) (me n : ℕ) (a : ShardState) (t : TxnValue) (l : Led) (node : ℕ) → (begun_of l).txn ≡ t → StandsLed top me (view_of t a) l → are_all_there (counted l.ballot.votes node) ≡ false
    → (b : ShardState) × (on_yes top me n a node t ≡ quiet n b) × Moves top me t (Some (Holds (in_open.Led (with_counted l node)))) [] a b × (b.waiting ≡ a.waiting)
counts top me n a t l node is h left = by_cases (is_among l.ballot.votes.missing node) awaited passed_over
  where
    at_it : on_yes top me n a node t ≡ vote_if (is_awaited top me l.cohorts a.votes t node) top me n a (begun_of l) node
    at_it = ap (λ o. yes_for o top me n a t node) (standing top me a t l h)

    awaited_is : is_awaited top me l.cohorts a.votes t node ≡ is_among l.ballot.votes.missing node
    awaited_is = awaited_left top me l.cohorts a.votes t node ∙ ap (λ (ns : List ℕ). is_among ns node) (sym h.missing)

    passed_over : is_among l.ballot.votes.missing node ≡ false
        → (b : ShardState) × (on_yes top me n a node t ≡ quiet n b) × Moves top me t (Some (Holds (in_open.Led (with_counted l node)))) [] a b × (b.waiting ≡ a.waiting)
    passed_over absent = (
      a,
      at_it ∙ ap (λ (b : Bool). vote_if b top me n a (begun_of l) node) (awaited_is ∙ absent),
      subst (λ (x : Led). Moves top me t (Some (Holds (in_open.Led x))) [] a a)
          (ap (λ (ns : List ℕ). record l { ballot = record l.ballot { votes = record l.ballot.votes { missing = ns } } }) (sym (stranger_left l.ballot.votes.missing node absent)))
          (record { about = same_about t a; own = h; applied = sym (append-nil a.applied); low = refl; askers = refl; once = λ o. o; kept_once = λ o. o }),
      refl,
    )

    missing_is : (counted l.ballot.votes node).missing ≡ left_of (near_nodes top me l.cohorts) (view_of t (with_vote a t node)).votes
    missing_is = ap (filter (λ n. not (n == node))) h.missing
        ∙ (sym (left_counted (near_nodes top me l.cohorts) (nodes_for a.votes t) node) ∙ ap (left_of (near_nodes top me l.cohorts)) (sym (nodes_one t a.votes node)))

    all_is : all_voted top me l.cohorts (with_vote a t node).votes t ≡ are_all_there (counted l.ballot.votes node)
    all_is = voted_left top me l.cohorts (with_vote a t node).votes t ∙ ap (λ (ns : List ℕ). length ns == 0) (sym missing_is)

    awaited : is_among l.ballot.votes.missing node ≡ true
        → (b : ShardState) × (on_yes top me n a node t ≡ quiet n b) × Moves top me t (Some (Holds (in_open.Led (with_counted l node)))) [] a b × (b.waiting ≡ a.waiting)
    awaited there = (
      with_vote a t node,
      at_it ∙ (ap (λ (b : Bool). vote_if b top me n a (begun_of l) node) (awaited_is ∙ there)
          ∙ (ap (λ (u : TxnValue). counted_if (all_voted top me l.cohorts (with_vote a u node).votes u) top me n (with_vote a u node) (begun_of l)) is
          ∙ ap (λ (b : Bool). counted_if b top me n (with_vote a t node) (begun_of l)) (all_is ∙ left))),
      record {
        about = with_vote_about a t node;
        own = record {
          ballot = h.ballot;
          prepared = h.prepared;
          own = h.own;
          cohorts = h.cohorts;
          missing = missing_is;
          open_yet = left;
          decision = h.decision;
          applied = h.applied;
          kept_part = h.kept_part;
          readied = h.readied;
        };
        applied = sym (append-nil a.applied);
        low = refl;
        askers = refl;
        once = λ o. o;
        kept_once = λ o. o;
      },
      refl,
    )
