-- What is found in closed runs, and what isn't.
use Rattle.std.proofs.Common.{◌≡◌, sym, ap, subst, refl, inl, ℕ, ◌<◌, zero, suc, Bool, true, false, nat_lt, List, [], length, slice_index_or, arith}
use Rattle.std.specs.Prelude.{◌&&◌, ◌==◌, nat_le, flat_map, Contains, sum, Option, Some, is_some}
use Rattle.std.specs.List.{list_any}
use Rattle.std.proofs.lemmas.Bool.Decides.{nat_tests}
use Rattle.std.proofs.lemmas.List.Folds.{Any-from_list_any}
use Rattle.logical_time.specs.Stamps.{TxnValue}
use Rattle.column_family.specs.declared.batch.Change.{Change}
use Rattle.slice.specs.declared.read.AnsweredRow.{AnsweredRow}
use Rattle.messages.specs.Topology.{TopologyValue}
use Rattle.messages.specs.Words.{is_same_txn}
use Rattle.messages.specs.Shard.{Decision}
use Rattle.shard.proofs.lists.Lists.{no_truth, both_hold, same_if_equal}
use Rattle.shard.proofs.worked.Closed.{below, is_below, is_at_most, equal, at, none}
use Rattle.world.specs.Run.{Run, Submission, Completed}
use Rattle.world.specs.Histories.{batch_submitted, decisions_in}
use Rattle.world.specs.Before.{completes, Past}
use Rattle.world.specs.Committed.{IsCommittedBy}
use Rattle.world.specs.Entries.{named_by}
use Rattle.world.specs.Promises.{number_of}

-- ## A run of numbers

smaller : (k n : ℕ) → k < suc n → (k == n) ≡ false → k < n
smaller k n lt other = grind (arith, nat_tests)

found : (xs : List ℕ) (n : ℕ) → list_any (λ j. j == n) xs ≡ true → Contains xs n
found xs n is =
    let a = Any-from_list_any (λ j. j == n) xs is in subst (λ j. Contains xs j) (equal a.1 n a.4) (a.0, a.2, a.3)

-- whether each number below this one is in the list
abbrev pub are_found : List ℕ → ℕ → Bool
are_found xs zero = true
are_found xs (suc n) = list_any (λ j. j == n) xs && are_found xs n

pub each_found : (xs : List ℕ) (n : ℕ) → are_found xs n ≡ true → (k : ℕ) → k < n → Contains xs k
each_found xs zero is k lt = absurd (omega arith)
each_found xs (suc n) is k lt =
    split (list_any (λ j. j == n) xs) refl is (k == n) refl (λ others less. each_found xs n others k less)
  where
    split : (b : Bool) → list_any (λ j. j == n) xs ≡ b → (b && are_found xs n) ≡ true → (same : Bool) → (k == n) ≡ same → (are_found xs n ≡ true → k < n → Contains xs k) → Contains xs k
    split true here others true same rest = subst (λ j. Contains xs j) (sym (equal k n same)) (found xs n here)
    split true here others false other rest = rest others (smaller k n lt other)
    split false here others same is rest = absurd (cc)

-- ## Words for refutations

-- the bytes of all values that an answer shows, added up: it tells worked answers apart
abbrev pub bytes_shown : List AnsweredRow → ℕ
bytes_shown rows = sum (flat_map (λ r. flat_map (λ c. c.value) r.columns) rows)

pub not_there : {X : Type 0} (o : Option X) (x : X) → is_some o ≡ false → o ≡ Some x → ⊥
not_there o x empty is = no_truth (is_some o) (ap is_some is) empty

pub not_committed_by : (top : TopologyValue) (w : Run) (dc : ℕ) (t : TxnValue) (time : ℕ)
    → list_any (λ d. is_same_txn d.txn t && nat_le d.commit time) (decisions_in top w dc) ≡ false → IsCommittedBy top w dc t time → ⊥
not_committed_by top w dc t time without (d, has, same, by) =
    none (λ e. is_same_txn e.txn t && nat_le e.commit time) (decisions_in top w dc) d without has
    (both_hold (is_same_txn d.txn t) (nat_le d.commit time) (same_if_equal d.txn t same) (is_at_most d.commit time by))

pub not_committed_below : (top : TopologyValue) (w : Run) (dc : ℕ) (t : TxnValue) (time : ℕ)
    → list_any (λ d. is_same_txn d.txn t && nat_lt d.commit time) (decisions_in top w dc) ≡ false
    → (d : Decision) × Contains (decisions_in top w dc) d × (d.txn ≡ t) × (d.commit < time) → ⊥
not_committed_below top w dc t time without (d, has, same, lt) =
    none (λ e. is_same_txn e.txn t && nat_lt e.commit time) (decisions_in top w dc) d without has
    (both_hold (is_same_txn d.txn t) (nat_lt d.commit time) (same_if_equal d.txn t same) (is_below d.commit time lt))

-- the write that ended as the entry at a place is in the past of what its session submitted afterwards
pub own_past : (top : TopologyValue) (w : Run) (c : Completed) (s : Submission) (batch : List Change) (i j : ℕ)
    → batch_submitted w (number_of c) ≡ Some batch
    → nat_lt i (length w.transcript) ≡ true → slice_index_or w.transcript i c ≡ c → completes c.outcome ≡ true
    → nat_lt j (length w.submitted) ≡ true → slice_index_or w.submitted j s ≡ s
    → c.node ≡ s.session → nat_lt c.number s.number ≡ true → Past top w (named_by s) (number_of c)
own_past top w c s batch i j is_batch is_i ended done is_j submitted session less = (
  (batch, is_batch),
  (
    [],
    inl (
      (c, (at w.transcript c i is_i ended, refl), done),
      (s, at w.submitted s j is_j submitted, refl),
      session,
      below c.number s.number less,
    ),
  ),
)
