-- What is settled, complete or sound goes on being so.
use Rattle.std.proofs.Common.{◌≡◌, ◌∙◌, ap, subst, ℕ, ◌<◌, ◌≤◌, ◌⊎◌, inl, inr, true, false, List, [], ◌∷◌, ◌++◌, arith}
use Rattle.std.specs.Prelude.{Contains}
use Rattle.std.specs.List.{list_any}
use Rattle.std.proofs.lemmas.List.{append_assoc}
use Rattle.std.proofs.lemmas.List.Elements.{Contains-push_cases}
use Rattle.logical_time.specs.Stamps.{TxnValue}
use Rattle.column_family.specs.declared.batch.Row.{Row}
use Rattle.slice.specs.declared.read.Read.{Read}
use Rattle.store.specs.declared.part.Applied.{Applied}
use Rattle.store.proofs.lists.Lists.{none_in_empty}
use Rattle.messages.specs.declared.rows_now.RowNow.{RowNow}
use Rattle.messages.specs.declared.rows_at.RowAt.{RowAt}
use Rattle.messages.specs.declared.rows_at.AtTime.TheVariants as at_time
use Rattle.messages.specs.declared.body.Body.{Body}
use Rattle.messages.specs.declared.body.Body.TheVariants as body
use Rattle.messages.specs.declared.envelope.Envelope.{Envelope}
use Rattle.messages.specs.Words.{is_same_txn}
use Rattle.messages.specs.Shard.{ShardState, PreparedPart, WaitingRead}
use Rattle.messages.specs.Known.{is_applied}
use Rattle.slice.specs.Rows.{row_of}
use Rattle.messages.specs.Honest.{ToldCommit, all_told}
use Rattle.store.specs.Part.{has_row}
use Rattle.shard.specs.Sound.{Seen, IsSettled, Grows, RowNowSound, RowAtSound, BodySound, WaitSound}
use Rattle.shard.proofs.lists.Lists.{any_more, no_truth}

-- ## States

pub grows_then : {es : List Envelope} {a b c : ShardState} → Grows es a b → Grows es b c → Grows es a c
grows_then g k =
    let first = g.clock in
    let second = k.clock in
    let low = g.low in
    let lower = k.low in
    record {
      clock = omega arith;
      low = omega arith;
      settled = λ r time left le s. k.settled r time left (let m = g.clock in omega (arith, le, m)) (g.settled r time left le s);
      complete = λ r time seen c. k.complete r time seen (g.complete r time seen c);
    }

settled_beside : (es : List Envelope) (a b : ShardState) → b.prepared ≡ a.prepared → b.applied ≡ a.applied → (r : Row) (time : ℕ) (left : List TxnValue)
    → IsSettled es a r time left → IsSettled es b r time left
settled_beside es a b prepared applied r time left s p has touches =
    elim (s p (subst (λ ps. Contains ps p) prepared has) touches) [
      | inl is ↦ inl (ap (λ xs. list_any (λ (x : Applied). is_same_txn x.part.writer.txn p.txn) xs) applied ∙ is)
      | inr other ↦ inr other
    ]

-- nothing new is prepared or applied
pub grows_beside : {es : List Envelope} (a b : ShardState) → a.clock ≤ b.clock → a.low ≤ b.low → b.prepared ≡ a.prepared → b.applied ≡ a.applied → Grows es a b
grows_beside {es = es} a b clock low prepared applied =
    record {
      clock = clock;
      low = low;
      settled = λ r time left le s. settled_beside es a b prepared applied r time left s;
      complete = λ r time seen c. record {
        later = c.later;
        split = applied ∙ c.split;
        above = c.above;
        clock = (let before = c.clock in omega (arith, before, clock));
        settled = settled_beside es a b prepared applied r time [] c.settled;
      };
    }

-- ## A part is prepared

abbrev pub with_prepared : ShardState → PreparedPart → ShardState
with_prepared a p = record a { prepared = a.prepared ++ p ∷ [] }

settled_prepared : (es : List Envelope) (a : ShardState) (p : PreparedPart) → a.clock ≤ p.time → (r : Row) (time : ℕ) (left : List TxnValue) → time ≤ a.clock
    → IsSettled es a r time left → IsSettled es (with_prepared a p) r time left
settled_prepared es a p late r time left le s q has touches = elim (Contains-push_cases a.prepared p q has) [
  | inl old ↦ s q old touches
  | inr new ↦ inr (inl (let same : p.time ≡ q.time = ap (λ z. z.time) new in omega (arith, le, late, same)))
]

pub grows_prepared : {es : List Envelope} (a : ShardState) (p : PreparedPart) → a.clock ≤ p.time → Grows es a (with_prepared a p)
grows_prepared {es = es} a p late =
    record {
      clock = omega arith;
      low = omega arith;
      settled = settled_prepared es a p late;
      complete = λ r time seen c. record {
        later = c.later;
        split = c.split;
        above = c.above;
        clock = c.clock;
        settled = settled_prepared es a p late r time [] c.clock c.settled;
      };
    }

-- ## A part is applied

abbrev pub with_applied : ShardState → Applied → ShardState
with_applied a x = record a { applied = a.applied ++ x ∷ [] }

-- The part commits above the clock; or it was prepared, and its commit time, which is above its mark, was told.
abbrev pub IsLate : List Envelope → ShardState → Applied → Type 0
IsLate es a x =
    (a.clock < x.commit)
    ⊎ ((p : PreparedPart) × Contains a.prepared p × (p.txn ≡ x.part.writer.txn) × (p.rows ≡ x.part.batch) × (p.time < x.commit)
    × ((t : ToldCommit) × Contains (all_told es) t × (t.txn ≡ p.txn) × (t.commit ≡ x.commit)))

-- it commits above each time that is settled in a row that it touches
late_above : (es : List Envelope) (a : ShardState) (x : Applied) → is_applied x.part.writer.txn a ≡ false → IsLate es a x → (r : Row) (time : ℕ)
    → time ≤ a.clock → IsSettled es a r time [] → has_row r x.part.batch ≡ true → time < x.commit
late_above es a x new (inl late) r time le s touches = omega (arith, le, late)
late_above es a x new (inr (p, has, txn, rows, marked, told)) r time le s touches =
    elim (s p has (ap (has_row r) rows ∙ touches)) [
      | inl is ↦ no_truth (is_applied p.txn a) is (ap (λ t. is_applied t a) txn ∙ new)
      | inr (inl above) ↦ omega (arith, above, marked)
      | inr (inr (inl excluded)) ↦ (let lt = excluded.above told.0 told.1 told.2 in let same = told.3 in omega (arith, lt, same))
      | inr (inr (inr none)) ↦ absurd (none_in_empty p.txn none)
    ]

settled_applied : (es : List Envelope) (a : ShardState) (x : Applied) (r : Row) (time : ℕ) (left : List TxnValue) → IsSettled es a r time left
    → IsSettled es (with_applied a x) r time left
settled_applied es a x r time left s p has touches =
    elim (s p has touches) [
      | inl is ↦ inl (any_more (λ (y : Applied). is_same_txn y.part.writer.txn p.txn) a.applied (x ∷ []) is)
      | inr other ↦ inr other
    ]

pub grows_applied : {es : List Envelope} (a : ShardState) (x : Applied) → is_applied x.part.writer.txn a ≡ false → IsLate es a x → Grows es a (with_applied a x)
grows_applied {es = es} a x new late =
    record {
      clock = omega arith;
      low = omega arith;
      settled = λ r time left le s. settled_applied es a x r time left s;
      complete = λ r time seen c. record {
        later = c.later ++ x ∷ [];
        split = ap (λ xs. xs ++ x ∷ []) c.split ∙ append_assoc seen c.later (x ∷ []);
        above = λ y has touches. elim (Contains-push_cases c.later x y has) [
          | inl old ↦ c.above y old touches
          | inr own ↦ subst (λ (z : Applied). has_row r z.part.batch ≡ true → time < z.commit) own (late_above es a x new late r time c.clock c.settled) touches
        ];
        clock = c.clock;
        settled = settled_applied es a x r time [] c.settled;
      };
    }

-- ## What is sent, and what waits

pub now_grows : {es : List Envelope} {a b : ShardState} {read : Read} {r : RowNow} → Grows es a b → RowNowSound es a read r → RowNowSound es b read r
now_grows {read = read} {r = r} g s =
    record {
      seen = s.seen;
      newest = s.newest;
      complete = g.complete (row_of read r.key) r.lvt s.seen s.complete;
      stamped_apart = s.stamped_apart;
    }

pub at_grows : {es : List Envelope} {a b : ShardState} {read : Read} {time : ℕ} {r : RowAt} → Grows es a b → RowAtSound es a read time r → RowAtSound es b read time r
at_grows {read = read} {time = time} {r = r} g s =
    record { seen = s.seen; right = s.right; complete = g.complete (row_of read r.key) time s.seen s.complete }

pub body_grows : (es : Seen) {a b : ShardState} → Grows es.envelopes a b → (to : ℕ) (m : Body) → BodySound es a to m → BodySound es b to m
body_grows es g to (body.PartNow number rows) s =
    record {
      read = s.read;
      asked = s.asked;
      keys = s.keys;
      each = λ r has. now_grows g (s.each r has);
    }
body_grows es g to (body.PartAt number time (at_time.Rows rows)) s =
    record {
      read = s.read;
      asked = s.asked;
      keys = s.keys;
      each = λ r has. at_grows g (s.each r has);
    }
body_grows es g to (body.PartAt number time at_time.Collected) s =
    record { low = (let before = s.low in let low = g.low in omega (arith, before, low)); read = s.read; asked = s.asked }
body_grows es g to other s = tt

pub wait_grows : {es : Seen} {a b : ShardState} {x : WaitingRead} → Grows es.envelopes a b → WaitSound es a x → WaitSound es b x
wait_grows {x = x} g s =
    record {
      asked = s.asked;
      clock = (let before = s.clock in let later = g.clock in omega (arith, before, later));
      settled = λ key has. g.settled (row_of x.read key) x.time x.left s.clock (s.settled key has);
    }
