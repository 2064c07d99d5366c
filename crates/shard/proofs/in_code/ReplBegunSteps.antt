-- The step of a ballot of another data centre's write that has just come, as what is kept takes it.
use Rattle.std.proofs.Common.{◌≡◌, ◌∙◌, sym, ap, subst, refl, ℕ, Bool, List, ◌++◌, Option, Some, None, is_some, true}
use Rattle.std.specs.Prelude.{◌==◌}
use Rattle.std.proofs.lemmas.List.{append_assoc}
use Rattle.logical_time.specs.Stamps.{StampValue}
use Rattle.store.specs.Keeps.{AreApart}
use Rattle.txn_state.specs.Votes.{VotesValue}
use Rattle.txn_state.specs.Ballot.{CompleteValue}
use Rattle.txn_state.specs.RemoteBallot.{missing_in}
use Rattle.messages.specs.declared.envelope.Envelope.{Envelope}
use Rattle.messages.specs.Topology.{TopologyValue}
use Rattle.messages.specs.Shard.{ShardState, ShardStep, KeptBallot}
use Rattle.messages.specs.Known.{decision_of}
use Rattle.messages.specs.Replication.{ready_if, ready, with_ballot, dep_checks, sent_before, repl_begin_if, on_repl_begin}
use Rattle.write_txn.specs.declared.open.Open.TheVariants as in_open
use Rattle.write_txn.specs.declared.open.Remote.{Remote}
use Rattle.write_txn.specs.Ledger.{Holds, state_of, Becomes, state_ready, readied_by}
use Rattle.write_txn.specs.Transactions.{TransactionsValue, GoesOnKeeping}
use Rattle.write_txn.specs.Stands.{kept_ballot_of}
use Rattle.write_txn.specs.View.{near_nodes, left_of}
use Rattle.write_txn.specs.Voters.{voters_of}
use Rattle.write_txn.proofs.CohortSteps.{known_if}
use Rattle.write_txn.proofs.Readying.{KeepsBallot, repl_begin_unknown, ballot_is_kept}
use Rattle.shard.specs.declared.kept.ShardKept.{ShardKept}
use Rattle.shard.specs.Kept.{Represents, IsStep}
use Rattle.shard.specs.ReplBegun.{IsBegun}
use Rattle.shard.specs.Concluding.{IsConcluded}
use Rattle.shard.proofs.in_code.Standing.{is_quiet}
use Rattle.shard.proofs.in_code.InPlace.{stands_so}
use Rattle.shard.proofs.in_code.NoticeSteps.{counts_so}

-- one of a known transaction is dropped
pub drops_ballot : (top : TopologyValue) (me n : ℕ) (k : ShardKept) (a : ShardState) (r : KeptBallot) (before : List Envelope)
    → Represents top me k a → is_some (state_of k.transactions.ledger r.txn) ≡ true
    → IsStep top me (on_repl_begin top me n a r) (record k { clock = n }) before before
drops_ballot top me n k a r before represents known =
    is_quiet top me n k a (on_repl_begin top me n a r) before represents
    (ap (λ (b : Bool). repl_begin_if b top me n a r) (known_if top me r.txn a (state_of k.transactions.ledger r.txn) (represents.stands r.txn) ∙ known))

-- one of an unknown transaction is kept
pub begins_so : (top : TopologyValue) (me n m : ℕ) (r : Remote) (k : ShardKept) (room ts : TransactionsValue) (stamp : StampValue) (b : Bool) (complete : Option CompleteValue) (l : ShardKept) (a : ShardState) (before es after : List Envelope)
    → m ≡ n → state_of k.transactions.ledger (kept_ballot_of r).txn ≡ None → IsBegun top me (voters_of k.notices (kept_ballot_of r).txn) r → stamp ≡ r.ballot.stamp → b ≡ (missing_in r.ballot == 0)
    → Represents top me k a → AreApart (on_repl_begin top me n a (kept_ballot_of r)).state.applied
    → GoesOnKeeping k.transactions.store room.store → room.ledger ≡ k.transactions.ledger → room.early ≡ k.transactions.early
    → Becomes (kept_ballot_of r).txn (state_ready m (Some (Holds (in_open.Remote r)))) room.ledger ts.ledger → ts.store ≡ room.store → ts.early ≡ room.early
    → complete ≡ readied_by m (Some (Holds (in_open.Remote r))) → IsConcluded (kept_ballot_of r).txn stamp n complete (record k { transactions = ts }) l
    → (decision_of (kept_ballot_of r).txn a ≡ None → AreApart (ready_if b top me m a (kept_ballot_of r)).state.applied → es ≡ dep_checks top me m (kept_ballot_of r) ++ (ready_if b top me m a (kept_ballot_of r)).sends)
    → after ≡ before ++ es
    → IsStep top me (on_repl_begin top me n a (kept_ballot_of r)) l before after
begins_so top me n m r k room ts stamp b complete l a before es after same_time unknown begun same_stamp ready_now represents apart grown ledger room_early becomes store early completes concluded sends sent =
    subst (λ (s : ShardStep). IsStep top me s l before after) (sym is) (record { state = it.state; sends = it.sends ∙ append_assoc before (dep_checks top me n kr) (ready top me n c kr).sends })
  where
    kr : KeptBallot
    kr = kept_ballot_of r

    c : ShardState
    c = with_ballot a kr

    is : on_repl_begin top me n a kr ≡ sent_before (dep_checks top me n kr) (ready top me n c kr)
    is = repl_begin_unknown top me n a kr (stands_so top me k a kr.txn None represents unknown)

    keeps : KeepsBallot top me kr.txn r a c
    keeps = ballot_is_kept top me a r (stands_so top me k a kr.txn None represents unknown) begun.own (ap (λ (v : VotesValue). v.cohorts) begun.notices)
        (ap (λ (v : VotesValue). v.missing) begun.notices ∙ ap (left_of (near_nodes top me r.cohorts)) (represents.notices kr.txn unknown)) begun.answers

    posted : AreApart (ready_if b top me m a kr).state.applied → after ≡ (before ++ dep_checks top me n kr) ++ (ready_if b top me m a kr).sends
    posted there =
        sent ∙ (ap (λ (ys : List Envelope). before ++ ys) (sends (stands_so top me k a kr.txn None represents unknown).unled.decision there)
        ∙ (ap (λ (x : ℕ). before ++ (dep_checks top me x kr ++ (ready_if b top me m a kr).sends)) same_time
        ∙ sym (append_assoc before (dep_checks top me n kr) (ready_if b top me m a kr).sends)))

    it : IsStep top me (ready top me n c kr) l (before ++ dep_checks top me n kr) after
    it = counts_so top me n m kr.txn r k room ts (Some (Holds (in_open.Remote r))) stamp b complete l a c (ready top me n c kr) (before ++ dep_checks top me n kr) after refl same_time refl same_stamp ready_now
        represents keeps refl (subst AreApart (ap (λ (s : ShardStep). s.state.applied) is) apart) grown ledger room_early becomes store early completes concluded posted
