-- What a session hears is the machine's step.
use Rattle.std.proofs.Common.{◌≡◌, ◌∙◌, ℕ, Bool, true, false, ap, refl, sym, subst, List, [], ◌∷◌, ◌++◌, append-nil}
use Rattle.std.specs.Prelude.{◌==◌, ◌&&◌, flat_map}
use Rattle.logical_time.specs.Stamps.{StampValue, TxnValue}
use Rattle.slice.specs.declared.read.Read.{Read}
use Rattle.messages.specs.declared.rows_at.RowAt.{RowAt}
use Rattle.messages.specs.declared.rows_at.AtTime.{AtTime}
use Rattle.messages.specs.declared.rows_at.AtTime.TheVariants as at
use Rattle.messages.specs.declared.envelope.Envelope.{Envelope}
use Rattle.messages.specs.Words.{in_writer_order, is_same_txn}
use Rattle.messages.specs.Session.{SessionStep, calm}
use Rattle.messages.specs.Rounds as rounds
use Rattle.messages.specs.SessionEvents as machine
use Rattle.read_txn.specs.States.{Second}
use Rattle.read_txn.specs.Completed.{answered}
use Rattle.read_txn.specs.Taken as taken
use Rattle.client.specs.declared.kept.SessionKept.{SessionKept}
use Rattle.client.specs.declared.current.Current.{Current}
use Rattle.client.specs.declared.current.Current.TheVariants as now
use Rattle.client.specs.Current.{open_of}
use Rattle.client.specs.Represents.{FitsIn, IsStep}
use Rattle.client.specs.State.{dependencies_of, state_of, topology_of}
use Rattle.client.specs.Steps as steps
use Rattle.client.proofs.Submitted.{kept_in}

-- the shards that a read asks
abbrev pub asked_of : SessionKept → Read → List ℕ
asked_of k read = rounds.asked_nodes (topology_of k) (state_of k) read

abbrev pub IsOrdered : SessionKept → Type 0
IsOrdered k = in_writer_order k.dependencies ≡ k.dependencies

-- a step in a topology with what is kept of it
abbrev pub Does : SessionStep → List ℕ → SessionKept → SessionKept → List Envelope → List Envelope → Type 0
Does step homes k l before sends = IsStep step (kept_in k homes) l before (before ++ sends)

-- ## Nothing happens

still_fits : (c : Current) (k : SessionKept) (n : ℕ) → FitsIn k c → FitsIn (steps.calmed n k) c
still_fits now.Idle k n h = tt
still_fits (now.Write coordinator) k n h = h
still_fits (now.First f) k n h = h
still_fits (now.Second s) k n h = h
still_fits (now.Move home m) k n h = h

pub calms : (k : SessionKept) (homes : List ℕ) (n : ℕ) (before : List Envelope) → FitsIn k k.current → IsOrdered k
    → Does (calm n (state_of k)) homes k (steps.calmed n k) before []
calms k homes n before fits ordered = record {
  state = record { topology = refl; state = refl; current = still_fits k.current k n fits; ordered = ordered };
  sends = refl;
}

-- ## Done

dones_if : (b : Bool) (k : SessionKept) (homes : List ℕ) (n : ℕ) (before : List Envelope) (coordinator : ℕ) (t : TxnValue) (commit : ℕ) (stamp : StampValue)
    → FitsIn k k.current → IsOrdered k
    → Does (machine.done_if b n (state_of k) coordinator t commit stamp) homes k (steps.done_if b n k coordinator t commit stamp) before []
dones_if true k homes n before coordinator t commit stamp fits ordered = record {
  state = record { topology = refl; state = refl; current = tt; ordered = refl };
  sends = refl;
}
dones_if false k homes n before coordinator t commit stamp fits ordered = calms k homes n before fits ordered

pub dones_in : (c : Current) (k : SessionKept) (homes : List ℕ) (n : ℕ) (before : List Envelope) (t : TxnValue) (commit : ℕ) (stamp : StampValue)
    → c ≡ k.current → FitsIn k k.current → IsOrdered k
    → Does (machine.done_in (open_of c) k.node n (state_of k) t commit stamp) homes k (steps.done_in c n k t commit stamp) before []
dones_in now.Idle k homes n before t commit stamp e fits ordered = calms k homes n before fits ordered
dones_in (now.Write coordinator) k homes n before t commit stamp e fits ordered =
    dones_if (is_same_txn t (record { session = k.node; number = k.count })) k homes n before coordinator t commit stamp fits ordered
dones_in (now.First f) k homes n before t commit stamp e fits ordered = calms k homes n before fits ordered
dones_in (now.Second s) k homes n before t commit stamp e fits ordered = calms k homes n before fits ordered
dones_in (now.Move home m) k homes n before t commit stamp e fits ordered = calms k homes n before fits ordered

-- ## Reads that complete

-- while an operation is open, the dependencies stand in order
settled : (k : SessionKept) → k.added ≡ [] → IsOrdered k → dependencies_of k ≡ k.dependencies
settled k none ordered = ap (λ ws. in_writer_order (k.dependencies ++ ws)) none ∙ (ap in_writer_order (append-nil k.dependencies) ∙ ordered)

pub completes : (k : SessionKept) (homes : List ℕ) (n : ℕ) (before : List Envelope) (read : Read) (time : ℕ) (rows : List RowAt) → k.added ≡ []
    → IsOrdered k → Does (machine.answered n (state_of k) read time rows) homes k (steps.completed n k (answered read time rows)) before []
completes k homes n before read time rows none ordered = record {
  state = record {
    topology = refl;
    state =
        ap (λ ds. record (state_of (steps.completed n k (answered read time rows)))
        { dependencies = in_writer_order (ds ++ flat_map (λ (r : RowAt). r.writers) rows) })
        (settled k none ordered);
    current = tt;
    ordered = ordered;
  };
  sends = refl;
}

-- ## PartAt

hears_at : (b : Bool) (k : SessionKept) (homes : List ℕ) (n : ℕ) (before : List Envelope) (s : Second) → k.added ≡ [] → s.asked ≡ asked_of k s.read
    → IsOrdered k → Does (machine.heard_at_if b n (state_of k) s.read s.time s.first s.heard) homes k (steps.after_at (taken.heard_at_if b s) n k) before []
hears_at true k homes n before s none asked ordered =
    completes k homes n before s.read s.time (rounds.rows_taken s.time s.first s.heard) none ordered
hears_at false k homes n before s none asked ordered = record {
  state = record { topology = refl; state = refl; current = (none, asked); ordered = ordered };
  sends = refl;
}

takes_at : (answer : AtTime) (k : SessionKept) (homes : List ℕ) (n : ℕ) (before : List Envelope) (s : Second) (from : ℕ) → k.added ≡ []
    → s.asked ≡ asked_of k s.read → IsOrdered k
    → Does (machine.taken_at answer (kept_in k homes) n (state_of k) s.read s.time s.first s.heard from) homes k (steps.after_at (taken.taken_at answer s from) n k) before []
takes_at at.Collected k homes n before s from none asked ordered = record {
  state = record { topology = refl; state = refl; current = tt; ordered = ordered };
  sends = refl;
}
takes_at (at.Rows rows) k homes n before s from none asked ordered =
    let heard = s.heard ++ record { from = from; rows = rows } ∷ [] in
    subst (λ nodes. Does (machine.heard_at_if (rounds.all_heard_at nodes s.time s.first heard) n (state_of k) s.read s.time s.first heard) homes k
    (steps.after_at (taken.heard_at (record s { heard = heard })) n k) before [])
    asked
    (hears_at (rounds.all_heard_at s.asked s.time s.first heard) k homes n before (record s { heard = heard }) none asked ordered)

awaits_at : (b : Bool) (k : SessionKept) (homes : List ℕ) (n : ℕ) (before : List Envelope) (s : Second) (from : ℕ) (answer : AtTime) → now.Second s ≡ k.current
    → k.added ≡ [] → s.asked ≡ asked_of k s.read → IsOrdered k
    → Does (machine.part_at_if b (kept_in k homes) n (state_of k) s.read s.time s.first s.heard from answer) homes k
    (steps.after_at (taken.second_taken_if b s from answer) n k) before []
awaits_at true k homes n before s from answer e none asked ordered = takes_at answer k homes n before s from none asked ordered
awaits_at false k homes n before s from answer e none asked ordered = record {
  state = record {
    topology = refl;
    state = ap (λ c. record (state_of k) { clock = n; current = open_of c }) (sym e);
    current = (none, asked);
    ordered = ordered;
  };
  sends = refl;
}

parts_at : (b : Bool) (k : SessionKept) (homes : List ℕ) (n : ℕ) (before : List Envelope) (s : Second) (from : ℕ) (answer : AtTime) → now.Second s ≡ k.current
    → FitsIn k k.current → k.added ≡ [] → s.asked ≡ asked_of k s.read → IsOrdered k
    → Does (machine.part_at_if (b && rounds.is_missing_at (asked_of k s.read) s.time s.first s.heard from) (kept_in k homes) n (state_of k) s.read s.time s.first s.heard from answer) homes k
    (steps.at_if b n k s from answer) before []
parts_at false k homes n before s from answer e fits none asked ordered = calms k homes n before fits ordered
parts_at true k homes n before s from answer e fits none asked ordered =
    subst (λ nodes. Does (machine.part_at_if (rounds.is_missing_at nodes s.time s.first s.heard from) (kept_in k homes) n (state_of k) s.read s.time s.first s.heard from answer) homes k
    (steps.after_at (taken.second_taken s from answer) n k) before [])
    asked
    (awaits_at (taken.is_awaited s from) k homes n before s from answer e none asked ordered)

pub hear_at : (c : Current) (k : SessionKept) (homes : List ℕ) (n : ℕ) (before : List Envelope) (from number : ℕ) (answer : AtTime) → c ≡ k.current
    → FitsIn k c → FitsIn k k.current → IsOrdered k
    → Does (machine.part_at_in (open_of c) (kept_in k homes) n (state_of k) from number answer) homes k (steps.at_in c n k from number answer) before []
hear_at now.Idle k homes n before from number answer e fit fits ordered = calms k homes n before fits ordered
hear_at (now.Write coordinator) k homes n before from number answer e fit fits ordered = calms k homes n before fits ordered
hear_at (now.First f) k homes n before from number answer e fit fits ordered = calms k homes n before fits ordered
hear_at (now.Move home m) k homes n before from number answer e fit fits ordered = calms k homes n before fits ordered
hear_at (now.Second s) k homes n before from number answer e fit fits ordered =
    parts_at (number == k.count) k homes n before s from answer e fits fit.0 fit.1 ordered
