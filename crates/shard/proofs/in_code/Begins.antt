-- Begin, as what is kept takes it.
use Rattle.std.proofs.Common.{◌≡◌, ◌∙◌, sym, ap, subst, refl, ℕ, ◌<◌, true, false, List, [], ◌∷◌, ◌++◌, Some, None, map, length, append-nil, arith}
use Rattle.std.specs.Prelude.{filter, ◌==◌}
use Rattle.std.specs.List.{list_all}
use Rattle.std.proofs.lemmas.Bool.Decides.{nat_tests}
use Rattle.logical_time.specs.Stamps.{TxnValue}
use Rattle.column_family.proofs.Options.{by_cases}
use Rattle.store.specs.Keeps.{AreApart}
use Rattle.txn_state.specs.Ballot.{CompleteValue}
use Rattle.txn_state.specs.Votes.{VotesValue, votes_after}
use Rattle.messages.specs.declared.envelope.Envelope.{Envelope}
use Rattle.messages.specs.Topology.{TopologyValue}
use Rattle.messages.specs.Posting.{commit_to}
use Rattle.messages.specs.Words.{is_same_txn}
use Rattle.messages.specs.Shard.{ShardState, ShardStep, Vote}
use Rattle.messages.specs.Known.{decision_of}
use Rattle.messages.specs.Commits.{decide, hold, on_begin}
use Rattle.messages.proofs.Places.{shard_at_place}
use Rattle.write_txn.specs.declared.open.Open.TheVariants as in_open
use Rattle.write_txn.specs.declared.open.Led.{Led}
use Rattle.write_txn.specs.Ledger.{Holds, IsDecided, state_of, Becomes}
use Rattle.write_txn.specs.Transactions.{TransactionsValue}
use Rattle.write_txn.specs.Voters.{VoterList, voters_of}
use Rattle.write_txn.specs.View.{view_of, near_nodes, left_of}
use Rattle.write_txn.specs.Stands.{IsUnknown}
use Rattle.write_txn.specs.Moves.{Moves}
use Rattle.write_txn.proofs.Leading.{holds}
use Rattle.write_txn.proofs.Bodies.{begin_voted, begin_unvoted, early_nodes, unknown_decides, unknown_holds}
use Rattle.shard.specs.declared.kept.ShardKept.{ShardKept}
use Rattle.shard.specs.declared.begun.Begun.{Begun}
use Rattle.shard.specs.Kept.{Represents, IsStep}
use Rattle.shard.specs.Effects.{IsWithout, IsAfter}
use Rattle.shard.specs.Deciding.{node_at, told, IsSettled}
use Rattle.shard.specs.Begun.{ballot_of, IsDecidedNow}
use Rattle.shard.proofs.in_code.Standing.{moved}
use Rattle.shard.proofs.in_code.InPlace.{with_both, after_forgetting, stands_so}
use Rattle.shard.proofs.in_code.Decisions.{decides_so, settled_after}

-- the ballot that is held of what a Begin says
abbrev pub led_of : ShardKept → ℕ → Begun → VotesValue → Led
led_of k n b votes =
    record {
      ballot = record { own = record { part = record { writer = record { txn = b.txn; shard = k.place.shard }; batch = b.rows }; time = n }; votes = votes };
      cohorts = b.cohorts;
      dependencies = b.dependencies;
      stamp = None;
    }

all_of : (t : TxnValue) (vs : List Vote) → list_all (λ v. is_same_txn v.txn t) (filter (λ v. is_same_txn v.txn t) vs) ≡ true
all_of t [] = refl
all_of t (v ∷ vs) = by_cases (is_same_txn v.txn t) (λ same. rw (same, same) (all_of t vs)) (λ other. rw other (all_of t vs))

some_missing : (ns : List ℕ) → 0 < length ns → (length ns == 0) ≡ false
some_missing ns h = grind (arith, nat_tests)

-- ## A ballot is held

pub holds_begun : (top : TopologyValue) (me n : ℕ) (k : ShardKept) (held ts : TransactionsValue) (ns : VoterList) (a : ShardState) (b : Begun) (votes : VotesValue) (sent : List Envelope)
    → Represents top me k a → AreApart (on_begin top me n a (ballot_of b)).state.applied → state_of k.transactions.ledger b.txn ≡ None
    → votes ≡ votes_after (near_nodes top me b.cohorts) (voters_of k.transactions.early b.txn) → 0 < length votes.missing
    → Becomes b.txn (Some (Holds (in_open.Led (led_of k n b votes)))) k.transactions.ledger held.ledger → held.store ≡ k.transactions.store → held.early ≡ k.transactions.early
    → ts.ledger ≡ held.ledger → ts.store ≡ held.store → IsWithout b.txn held.early ts.early → IsWithout b.txn k.notices ns
    → IsStep top me (on_begin top me n a (ballot_of b)) (with_both k ts ns n) sent sent
holds_begun top me n k held ts ns a b votes sent r apart unknown votes_are missing becomes stays early same_ledger same_store forgotten notices =
    subst (λ (s : ShardStep). IsStep top me s (with_both k ts ns n) sent sent) (sym step_is) (record {
      state = moved top me n b.txn (Holds (in_open.Led led)) None k.waiting k (with_both k ts ns n) a (hold top me n a (ballot_of b) counted []).state r after_it moves refl r.waiting
          (subst (λ (s : ShardStep). AreApart s.state.applied) step_is apart);
      sends = sym (append-nil sent);
    })
  where
    led : Led
    led = led_of k n b votes

    counted : List Vote
    counted = filter (λ v. is_same_txn v.txn b.txn) a.early

    stands : IsUnknown (view_of b.txn a)
    stands = stands_so top me k a b.txn None r unknown

    votes_of_view : votes ≡ votes_after (near_nodes top me b.cohorts) (view_of b.txn a).early
    votes_of_view = votes_are ∙ ap (λ (vs : List ℕ). votes_after (near_nodes top me b.cohorts) vs) (r.early b.txn unknown)

    left : (length votes.missing == 0) ≡ false
    left = some_missing votes.missing missing

    step_is : on_begin top me n a (ballot_of b) ≡ hold top me n a (ballot_of b) counted []
    step_is = begin_unvoted top me n a (ballot_of b) stands (ap (λ (v : VotesValue). length v.missing == 0) (sym votes_of_view) ∙ left)

    moves : Moves top me b.txn (Some (Holds (in_open.Led led))) [] a (hold top me n a (ballot_of b) counted []).state
    moves = holds top me n a a led counted [] (unknown_holds top me a b.txn stands) (all_of b.txn a.early) (sym (shard_at_place top me k.place r.place)) refl
        (ap (λ (v : VotesValue). v.cohorts) votes_are)
        (ap (λ (v : VotesValue). v.missing) votes_of_view ∙ ap (left_of (near_nodes top me b.cohorts)) (sym (early_nodes b.txn a.early))) left

    after_it : IsAfter b.txn (Holds (in_open.Led led)) None n k.waiting k (with_both k ts ns n)
    after_it = after_forgetting b.txn (Holds (in_open.Led led)) n k held ts ns becomes stays early same_ledger same_store forgotten notices

-- ## It is decided at once

none_missing : (ns : List ℕ) → ns ≡ [] → (length ns == 0) ≡ true
none_missing ns e = ap (λ (xs : List ℕ). length xs == 0) e

pub decides_begun : (top : TopologyValue) (me n : ℕ) (k noted l : ShardKept) (a : ShardState) (b : Begun) (votes : VotesValue) (own : CompleteValue) (before es after : List Envelope)
    → Represents top me k a → AreApart (on_begin top me n a (ballot_of b)).state.applied → state_of k.transactions.ledger b.txn ≡ None
    → votes ≡ votes_after (near_nodes top me b.cohorts) (voters_of k.transactions.early b.txn) → votes.missing ≡ []
    → IsDecidedNow b.txn n (record { time = n; node = node_at k.place }) k noted
    → own ≡ record { own = record { part = record { writer = record { txn = b.txn; shard = k.place.shard }; batch = b.rows }; time = n }; cohorts = votes.cohorts }
    → (decision_of b.txn a ≡ None → AreApart (decide top me n a (ballot_of b)).state.applied → es ≡ told top me n a (ballot_of b))
    → IsSettled b.txn own.own n (record { time = n; node = node_at k.place }) noted l
    → after ≡ (before ++ map (commit_to me n b.txn n (record { time = n; node = node_at k.place })) own.cohorts) ++ es
    → IsStep top me (on_begin top me n a (ballot_of b)) l before after
decides_begun top me n k noted l a b votes own before es after r apart unknown votes_are none now own_is es_are settled sent =
    subst (λ (s : ShardStep). IsStep top me s l before after) (sym step_is)
    (decides_so top me n k l a a (ballot_of b) own.own own.cohorts before es after r (unknown_decides top me a b.txn stands) refl there
    (ap (λ (x : CompleteValue). x.own.part) own_is ∙ ap (λ (s : ℕ). record { writer = record { txn = b.txn; shard = s }; batch = b.rows }) (sym (shard_at_place top me k.place r.place)))
    (settled_after b.txn own.own n (record { time = n; node = me }) k noted.transactions l
    (subst (λ (m : ℕ). Becomes b.txn (Some (IsDecided n (record { time = n; node = m }))) k.transactions.ledger noted.transactions.ledger) at_me now.becomes) now.store now.early
    (subst (λ (m : ℕ). IsSettled b.txn own.own n (record { time = n; node = m }) (record k { transactions = noted.transactions }) l) at_me
    (subst (λ (x : ShardKept). IsSettled b.txn own.own n (record { time = n; node = node_at k.place }) x l) now.rest settled)))
    (ap (λ (x : CompleteValue). x.cohorts) own_is ∙ ap (λ (v : VotesValue). v.cohorts) votes_are) (es_are stands.unled.decision there)
    (sent ∙ ap (λ (m : ℕ). (before ++ map (commit_to me n b.txn n (record { time = n; node = m })) own.cohorts) ++ es) at_me))
  where
    stands : IsUnknown (view_of b.txn a)
    stands = stands_so top me k a b.txn None r unknown

    at_me : node_at k.place ≡ me
    at_me = sym r.place.node

    step_is : on_begin top me n a (ballot_of b) ≡ decide top me n a (ballot_of b)
    step_is = begin_voted top me n a (ballot_of b) stands
        (ap (λ (v : VotesValue). length v.missing == 0) (sym (votes_are ∙ ap (λ (vs : List ℕ). votes_after (near_nodes top me b.cohorts) vs) (r.early b.txn unknown))) ∙ none_missing votes.missing none)

    there : AreApart (decide top me n a (ballot_of b)).state.applied
    there = subst (λ (s : ShardStep). AreApart s.state.applied) step_is apart
