-- A cohort's part is applied, as what is kept takes it.
use Rattle.std.proofs.Common.{◌≡◌, ◌∙◌, sym, ap, subst, refl, ℕ, Bool, true, false, List, ◌++◌, Option, Some, None, map, is_some}
use Rattle.logical_time.specs.Stamps.{StampValue, TxnValue}
use Rattle.store.specs.declared.part.Applied.{Applied}
use Rattle.store.specs.Stored.{StoreValue, HasRoom}
use Rattle.txn_state.specs.Prepared.{PreparedValue}
use Rattle.store.specs.Keeps.{AreApart}
use Rattle.messages.specs.declared.envelope.Envelope.{Envelope}
use Rattle.messages.specs.Topology.{TopologyValue}
use Rattle.messages.specs.Shard.{ShardState, ShardStep, PreparedPart, WaitingRead}
use Rattle.messages.specs.Commits.{applied_part, apply_part, on_commit, repl_parts}
use Rattle.messages.specs.Reads.{part_at}
use Rattle.commit_check.specs.declared.cause.Cause.TheVariants as cause
use Rattle.commit_check.specs.Waiting.{freed, still}
use Rattle.write_txn.specs.declared.open.Open.{Open}
use Rattle.write_txn.specs.declared.open.Open.TheVariants as in_open
use Rattle.write_txn.specs.Ledger.{State, Holds, IsApplied, IsDecided, LedgerValue, state_of, state_applied, part_in, part_of, open_in, prepared_of, Becomes}
use Rattle.write_txn.specs.Transactions.{TransactionsValue, GoesOnKeeping, KeepsIf}
use Rattle.write_txn.specs.Voters.{VoterList, voters_of}
use Rattle.write_txn.specs.View.{view_of}
use Rattle.write_txn.specs.Stands.{StandsPart}
use Rattle.write_txn.proofs.Finds.{found_txn}
use Rattle.write_txn.proofs.CohortSteps.{cohort_applies}
use Rattle.write_txn.proofs.Bodies.{is_part, commit_applies, commit_ignored}
use Rattle.shard.specs.declared.kept.ShardKept.{ShardKept}
use Rattle.shard.specs.Kept.{Represents, IsStep}
use Rattle.shard.specs.Effects.{IsAfter}
use Rattle.shard.specs.Coming.{with_applied}
use Rattle.shard.proofs.in_code.Standing.{moved, is_quiet}
use Rattle.shard.proofs.in_code.InPlace.{stands_so}
use Rattle.shard.proofs.in_code.PartSteps.{known_open}

pub part_stands : (s : Option State) → is_some (part_in s) ≡ is_part s
part_stands None = refl
part_stands (Some (Holds (in_open.Kept k))) = refl
part_stands (Some (Holds (in_open.Part p))) = refl
part_stands (Some (Holds (in_open.Led l))) = refl
part_stands (Some (Holds (in_open.Remote r))) = refl
part_stands (Some IsApplied) = refl
part_stands (Some (IsDecided commit stamp)) = refl

-- which part is prepared
pub which_part : (s : Option State) → is_some (part_in s) ≡ true → (p : PreparedPart) × (s ≡ Some (Holds (in_open.Part p)))
which_part None e = absurd (cc)
which_part (Some (Holds (in_open.Kept k))) e = absurd (cc)
which_part (Some (Holds (in_open.Part p))) e = (p, refl)
which_part (Some (Holds (in_open.Led l))) e = absurd (cc)
which_part (Some (Holds (in_open.Remote r))) e = absurd (cc)
which_part (Some IsApplied) e = absurd (cc)
which_part (Some (IsDecided commit stamp)) e = absurd (cc)

-- whether this is a part that is prepared
abbrev pub is_part_open : Option Open → Bool
is_part_open None = false
is_part_open (Some (in_open.Kept k)) = false
is_part_open (Some (in_open.Part p)) = true
is_part_open (Some (in_open.Led l)) = false
is_part_open (Some (in_open.Remote r)) = false

pub no_part : (s : Option State) → is_part_open (open_in s) ≡ false → is_some (part_in s) ≡ false
no_part None e = refl
no_part (Some (Holds (in_open.Kept k))) e = refl
no_part (Some (Holds (in_open.Part p))) e = absurd (cc)
no_part (Some (Holds (in_open.Led l))) e = refl
no_part (Some (Holds (in_open.Remote r))) e = refl
no_part (Some IsApplied) e = refl
no_part (Some (IsDecided commit stamp)) e = refl

pub some_part : (s : Option State) (p : PreparedPart) → open_in s ≡ Some (in_open.Part p) → is_some (part_in s) ≡ true
some_part s p e = ap (λ (o : Option State). is_some (part_in o)) (known_open s (in_open.Part p) e)

-- what an application sends
pub application_sends : (top : TopologyValue) (me n : ℕ) (a : ShardState) (p : PreparedPart) (commit : ℕ) (stamp : StampValue) (x : Applied) (es fs all : List Envelope)
    → x ≡ applied_part p.txn p.coordinator p.rows commit stamp → es ≡ repl_parts p.role top me n p stamp
    → fs ≡ map (part_at me n (with_applied a x)) (freed x.part.writer.txn cause.Applied a.waiting) → all ≡ es ++ fs
    → all ≡ (apply_part top me n a p commit stamp).sends
application_sends top me n a p commit stamp x es fs all x_is es_is fs_is all_is =
    all_is ∙ (ap (λ (ys : List Envelope). ys ++ fs) es_is ∙ ap (λ (ys : List Envelope). repl_parts p.role top me n p stamp ++ ys)
    (fs_is ∙ ap (λ (y : Applied). map (part_at me n (with_applied a y)) (freed y.part.writer.txn cause.Applied a.waiting)) x_is))

-- what a call leaves by which a part is applied
abbrev pub applied_kept : ShardKept → TransactionsValue → ℕ → List WaitingRead → ShardKept
applied_kept k ts n waits = record k { clock = n; transactions = ts; waiting = waits }

pub applies_so : (top : TopologyValue) (me n : ℕ) (t : TxnValue) (p : PreparedPart) (commit : ℕ) (stamp : StampValue) (k : ShardKept) (room ts : TransactionsValue) (waits : List WaitingRead) (a : ShardState) (before after : List Envelope)
    → Represents top me k a → state_of k.transactions.ledger t ≡ Some (Holds (in_open.Part p)) → AreApart (on_commit top me n a t commit stamp).state.applied
    → GoesOnKeeping k.transactions.store room.store → room.ledger ≡ k.transactions.ledger → room.early ≡ k.transactions.early
    → Becomes t (state_applied (state_of room.ledger t)) room.ledger ts.ledger → KeepsIf (part_in (state_of room.ledger t)) commit stamp room.store ts.store → ts.early ≡ room.early → waits ≡ still t cause.Applied k.waiting
    → (AreApart (apply_part top me n a p commit stamp).state.applied → after ≡ before ++ (apply_part top me n a p commit stamp).sends)
    → IsStep top me (on_commit top me n a t commit stamp) (applied_kept k ts n waits) before after
applies_so top me n t p commit stamp k room ts waits a before after r is apart grown same_ledger room_early becomes keeps early let_go sends =
    subst (λ (s : ShardStep). IsStep top me s (applied_kept k ts n waits) before after) (sym step_is) (record {
      state = moved top me n t IsApplied (Some x) (still t cause.Applied k.waiting) k (applied_kept k ts n waits) a (apply_part top me n a p commit stamp).state r after_it
          (cohort_applies top me n a t p commit stamp own stands) refl
          (ap (λ (u : TxnValue). still u cause.Applied a.waiting) own ∙ ap (λ (ws : List WaitingRead). still t cause.Applied ws) r.waiting) apart_there;
      sends = sends apart_there;
    })
  where
    x : Applied
    x = applied_part p.txn p.coordinator p.rows commit stamp

    stands : StandsPart (view_of t a) p
    stands = stands_so top me k a t (Some (Holds (in_open.Part p))) r is

    own : p.txn ≡ t
    own = found_txn a.prepared t p stands.prepared

    step_is : on_commit top me n a t commit stamp ≡ apply_part top me n a p commit stamp
    step_is = commit_applies top me n a t p commit stamp own stands

    apart_there : AreApart (apply_part top me n a p commit stamp).state.applied
    apart_there = subst (λ (s : ShardStep). AreApart s.state.applied) step_is apart

    known : is_some (state_of k.transactions.ledger t) ≡ true
    known = ap (λ (s : Option State). is_some s) is

    there : state_of room.ledger t ≡ Some (Holds (in_open.Part p))
    there = ap (λ (l : LedgerValue). state_of l t) same_ledger ∙ is

    kept_too : KeepsIf (Some (prepared_of p)) commit stamp room.store ts.store
    kept_too = subst (λ (s : Option State). KeepsIf (part_in s) commit stamp room.store ts.store) there keeps

    comes_to : Becomes t (Some IsApplied) k.transactions.ledger ts.ledger
    comes_to = subst (λ (l : LedgerValue). Becomes t (Some IsApplied) l ts.ledger) same_ledger (subst (λ (s : Option State). Becomes t (state_applied s) room.ledger ts.ledger) there becomes)

    after_it : IsAfter t IsApplied (Some x) n (still t cause.Applied k.waiting) k (applied_kept k ts n waits)
    after_it = record {
      place = refl;
      clock = refl;
      low = kept_too.low ∙ grown.low;
      state = comes_to;
      store = λ all keeps normal apart. kept_too.keeps all (grown.keeps all keeps) normal apart;
      early = λ u other. ap (λ (es : VoterList). voters_of es u) (early ∙ room_early);
      notices = λ u other. refl;
      own_early = λ gone. ap (λ (es : VoterList). voters_of es t) (early ∙ room_early) ∙ gone known;
      own_notices = λ gone. gone known;
      askers = λ u other. refl;
      own_askers = λ e. refl;
      waiting = let_go;
    }

-- there is room for what is applied
pub has_room : (l m : LedgerValue) (t : TxnValue) (s : StoreValue) → m ≡ l
    → ((o : Open) → open_in (state_of l t) ≡ Some o → HasRoom s (part_of o).batch) → (p : PreparedValue) → part_in (state_of m t) ≡ Some p → HasRoom s p.part.batch
has_room l m t s same room p e = go (state_of l t) room (subst (λ (x : LedgerValue). part_in (state_of x t) ≡ Some p) same e)
  where
    go : (x : Option State) → ((o : Open) → open_in x ≡ Some o → HasRoom s (part_of o).batch) → part_in x ≡ Some p → HasRoom s p.part.batch
    go None h f = absurd (cc)
    go (Some (Holds (in_open.Kept k))) h f = absurd (cc)
    go (Some (Holds (in_open.Part q))) h f = let g : prepared_of q ≡ p = cc in subst (λ (x : PreparedValue). HasRoom s x.part.batch) g (h (in_open.Part q) refl)
    go (Some (Holds (in_open.Led l))) h f = absurd (cc)
    go (Some (Holds (in_open.Remote r))) h f = absurd (cc)
    go (Some IsApplied) h f = absurd (cc)
    go (Some (IsDecided commit stamp)) h f = absurd (cc)

-- without a prepared part a commit is ignored
pub commit_passes : (top : TopologyValue) (me n : ℕ) (t : TxnValue) (commit : ℕ) (stamp : StampValue) (k : ShardKept) (a : ShardState) (before : List Envelope)
    → Represents top me k a → is_some (part_in (state_of k.transactions.ledger t)) ≡ false
    → IsStep top me (on_commit top me n a t commit stamp) (record k { clock = n }) before before
commit_passes top me n t commit stamp k a before r none = is_quiet top me n k a (on_commit top me n a t commit stamp) before r
    (commit_ignored top me n a t commit stamp (state_of k.transactions.ledger t) (r.stands t) (sym (part_stands (state_of k.transactions.ledger t)) ∙ none))
