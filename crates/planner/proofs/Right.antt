-- Right rows, joined, show each key by its history, and what shards answer to a plan is right.
use Rattle.std.proofs.Common.{◌≡◌, ◌∙◌, ℕ, ◌<◌, ap, sym, subst, refl, List, [], map}
use Rattle.std.specs.Prelude.{◌↔◌, option_map, unwrap_or}
use Rattle.std.specs.List.{Contains}
use Rattle.std.specs.Str.{bytes_eq}
use Rattle.std.proofs.lemmas.Slice.Eq.{bytes_eq-Decides}
use Rattle.column_family.specs.History.{History, up_to}
use Rattle.slice.specs.declared.read.AnsweredRow.{AnsweredRow}
use Rattle.slice.specs.declared.read.Read.{Read}
use Rattle.table.specs.Meaning.{each_once, meaning, shown_row}
use Rattle.planner.specs.Partition.{shard_of}
use Rattle.planner.specs.Plan.{keys_for, shards_asked}
use Rattle.planner.specs.Join.{columns_for, joined, AreRight, answers_of}
use Rattle.planner.proofs.Asked.{contains_once, own_key, asked_key, asked_shard}
use Rattle.planner.proofs.Members.{map_agree, contains_map, map_contains, contains_any, first_found, contains_flat, flat_contains}

right_columns : (read : Read) (history : List ℕ → History) (t : ℕ) (rows : List AnsweredRow) → AreRight read history t rows → (k : List ℕ) → Contains read.keys k
    → columns_for rows k ≡ (shown_row read (up_to t (history k)) k).columns
right_columns read history t rows right k asked =
    let m = map_contains (λ r. r.key) rows k (right.given k asked) in
    let f = first_found (λ r. bytes_eq r.key k) rows (contains_any (λ r. bytes_eq r.key k) rows m.0 m.1 ((bytes_eq-Decides m.0.key k).1 m.2)) in
    let same = (bytes_eq-Decides f.0.key k).0 f.3 in
    ap (λ o. unwrap_or (option_map (λ (r : AnsweredRow). r.columns) o) []) f.1
    ∙ ap (λ (r : AnsweredRow). r.columns) (right.right f.0 f.2 (subst (λ j. Contains read.keys j) (sym same) asked))
    ∙ ap (λ j. (shown_row read (up_to t (history j)) j).columns) same

pub right_joined : (read : Read) (rows answer : List AnsweredRow) → answer ≡ joined read.keys rows → (history : List ℕ → History) (t : ℕ) → AreRight read history t rows
    → answer ≡ map (λ k. shown_row read (up_to t (history k)) k) (each_once read.keys)
right_joined read rows answer e history t right =
    e ∙ map_agree (λ k. record { key = k; columns = columns_for rows k }) (λ k. shown_row read (up_to t (history k)) k) (each_once read.keys)
    (λ k once. ap (λ cs. record { key = k; columns = cs }) (right_columns read history t rows right k (contains_once read.keys k once)))

planned_right : (shards : ℕ) (read : Read) (history : ℕ → History) (t : ℕ) (order : List ℕ) → 0 < shards → ((s : ℕ) → Contains order s ↔ Contains (shards_asked shards read.keys) s)
    → AreRight read (λ k. history (shard_of shards k)) t (answers_of shards read history t order)
planned_right shards read history t order some same = record {
  given = λ k asked.
      let s = shard_of shards k in
      let row = shown_row read (up_to t (history s)) k in
      contains_map (λ r. r.key) (answers_of shards read history t order) row
      (contains_flat (shard_answer) order s row ((same s).1 (asked_shard shards read.keys k some asked))
      (contains_map (shown_row read (up_to t (history s))) (keys_for shards read.keys s) k (asked_key shards read.keys k asked)));
  right = λ r has asked.
      let f = flat_contains shard_answer order r has in
      let m = map_contains (shown_row read (up_to t (history f.0))) (keys_for shards read.keys f.0) r f.2 in
      subst (λ (q : AnsweredRow). q ≡ shown_row read (up_to t (history (shard_of shards q.key))) q.key) m.2
      (ap (λ i. shown_row read (up_to t (history i)) m.0) (sym (own_key shards f.0 read.keys m.0 m.1).0));
}
  where
    shard_answer : ℕ → List AnsweredRow
    shard_answer s = map (shown_row read (up_to t (history s))) (keys_for shards read.keys s)

pub planned_each : (shards : ℕ) (read : Read) (history : ℕ → History) (t : ℕ) (order : List ℕ) → 0 < shards → ((s : ℕ) → Contains order s ↔ Contains (shards_asked shards read.keys) s)
    → joined read.keys (answers_of shards read history t order) ≡ map (λ k. shown_row read (up_to t (history (shard_of shards k))) k) (each_once read.keys)
planned_each shards read history t order some same =
    right_joined read (answers_of shards read history t order) (joined read.keys (answers_of shards read history t order)) refl (λ k. history (shard_of shards k)) t
    (planned_right shards read history t order some same)

pub planned_meaning : (shards : ℕ) (read : Read) (h : History) (t : ℕ) (order : List ℕ) → 0 < shards → ((s : ℕ) → Contains order s ↔ Contains (shards_asked shards read.keys) s)
    → joined read.keys (answers_of shards read (λ s. h) t order) ≡ meaning read h t
planned_meaning shards read h t order some same = planned_each shards read (λ s. h) t order some same
