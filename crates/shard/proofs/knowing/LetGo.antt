-- Steps that change little, and steps that let waiting reads go.
use Rattle.std.proofs.Common.{◌≡◌, sym, ap, subst, refl, ℕ, ◌<◌, ◌≤◌, ◌⊎◌, inl, inr, Bool, true, false, not, nat_lt, List, [], ◌∷◌, map, arith, append-nil}
use Rattle.std.specs.Prelude.{filter, if◌then◌else◌, Contains}
use Rattle.std.proofs.lemmas.Bool.Decides.{nat_tests}
use Rattle.logical_time.specs.Stamps.{TxnValue}
use Rattle.column_family.specs.declared.batch.Row.{Row}
use Rattle.planner.proofs.Members.{map_contains}
use Rattle.store.proofs.lists.Lists.{none_in_empty, kept, kept_only}
use Rattle.messages.specs.declared.rows_at.RowAt.{RowAt}
use Rattle.messages.specs.declared.rows_at.AtTime.TheVariants as at_time
use Rattle.messages.specs.declared.body.Body.TheVariants as body
use Rattle.messages.specs.declared.envelope.Envelope.{Envelope}
use Rattle.messages.specs.Topology.{TopologyValue}
use Rattle.messages.specs.Words.{is_same_txn}
use Rattle.messages.specs.Shard.{ShardState, ShardStep, WaitingRead, quiet}
use Rattle.messages.specs.Known.{is_applied}
use Rattle.slice.specs.Rows.{row_of}
use Rattle.messages.specs.Rows.{row_at}
use Rattle.messages.specs.Reads.{answer, at_time as rows_or_collected, part_at, without, lessened, is_nothing, is_free, let_go}
use Rattle.shard.specs.Sound.{Seen, IsExcluded, IsSettled, RowAtSound, BodySound, AreSound, WaitSound, Holds, Onward, Able}
use Rattle.shard.proofs.lists.Lists.{each_joined, each_mapped, same_txn}
use Rattle.messages.proofs.RowParts.{row_at_shown}
use Rattle.shard.proofs.knowing.Grow.{body_grows}
use Rattle.shard.proofs.knowing.Updates.{onward_then, moved, now_waiting}

pub able_after : {top : TopologyValue} {me : ℕ} {last : ShardState} {es : Seen} {a b : ShardState} {step : ShardStep} → Onward top me last es a b
    → (Holds top me last es b → Able top me last es b step) → Able top me last es a step
able_after u f = let k = f u.holds in record { onward = onward_then u k.onward; sends = k.sends }

pub quiet_able : {top : TopologyValue} {me : ℕ} {last : ShardState} {es : Seen} (a : ShardState) (n : ℕ) → a.clock ≤ n → Holds top me last es a
    → Able top me last es a (quiet n a)
quiet_able a n le h = record { onward = moved a n le h; sends = tt }

pub answer_able : {top : TopologyValue} {me : ℕ} {last : ShardState} {es : Seen} (a : ShardState) (n : ℕ) (e : Envelope) → a.clock ≤ n
    → BodySound es (record a { clock = n }) e.to e.body → Holds top me last es a → Able top me last es a (answer n a e)
answer_able a n e le sound h = record { onward = moved a n le h; sends = (sound, tt) }

-- ## Answers at a time

keys_stay : (time : ℕ) (a : ShardState) (x : WaitingRead) (keys : List (List ℕ)) → map (λ (r : RowAt). r.key) (map (row_at time a x.read) keys) ≡ keys
keys_stay time a x [] = refl
keys_stay time a x (k ∷ keys) = ap (λ ks. k ∷ ks) (keys_stay time a x keys)

below : (n m : ℕ) → nat_lt n m ≡ true → n < m
below n m e = grind (arith, nat_tests)

row_at_sound : (es : Seen) (a : ShardState) (x : WaitingRead) → WaitSound es a x → x.left ≡ [] → (key : List ℕ) → Contains x.read.keys key
    → RowAtSound es.envelopes a x.read x.time (row_at x.time a x.read key)
row_at_sound es a x s free key has =
    record {
      seen = a.applied;
      right = row_at_shown x.time a x.read key;
      complete = record {
        later = [];
        split = sym (append-nil a.applied);
        above = λ y none touches. absurd (none_in_empty y none);
        clock = s.clock;
        settled = subst (λ left. IsSettled es.envelopes a (row_of x.read key) x.time left) free (s.settled key has);
      };
    }

-- a read that waits for nothing is answered soundly
pub free_answer : (es : Seen) (a : ShardState) (x : WaitingRead) → WaitSound es a x → x.left ≡ []
    → BodySound es a x.session (body.PartAt x.number x.time (rows_or_collected a x.time x.read))
free_answer es a x s free = go (nat_lt x.time a.low) refl
  where
    go : (b : Bool) → nat_lt x.time a.low ≡ b
        → BodySound es a x.session (body.PartAt x.number x.time (if b then at_time.Collected else at_time.Rows (map (row_at x.time a x.read) x.read.keys)))
    go true e = record { low = below x.time a.low e; read = x.read; asked = s.asked }
    go false e = record {
      read = x.read;
      asked = s.asked;
      keys = keys_stay x.time a x x.read.keys;
      each = λ r has. (
          let at = map_contains (row_at x.time a x.read) x.read.keys r has in
          subst (RowAtSound es.envelopes a x.read x.time) at.2 (row_at_sound es a x s free at.0 at.1));
    }

-- ## Waiting reads are let go

-- the transaction is applied, or excluded at the time
abbrev pub IsCleared : List Envelope → ShardState → TxnValue → ℕ → Type 0
IsCleared es a t time = (is_applied t a ≡ true) ⊎ IsExcluded es t time

still_settled : (es : List Envelope) (a : ShardState) (t : TxnValue) (r : Row) (time : ℕ) (left : List TxnValue) → IsCleared es a t time
    → IsSettled es a r time left → IsSettled es a r time (without t left)
still_settled es a t r time left cleared s p has touches =
    elim (s p has touches) [
      | inl is ↦ inl is
      | inr (inl marked) ↦ inr (inl marked)
      | inr (inr (inl excluded)) ↦ inr (inr (inl excluded))
      | inr (inr (inr waits)) ↦ go (is_same_txn p.txn t) refl waits
    ]
  where
    go : (b : Bool) → is_same_txn p.txn t ≡ b → Contains left p.txn
        → (is_applied p.txn a ≡ true) ⊎ (time ≤ p.time) ⊎ IsExcluded es p.txn time ⊎ Contains (without t left) p.txn
    go false e waits = inr (inr (inr (kept (λ u. not (is_same_txn u t)) left p.txn waits (ap not e))))
    go true e waits =
        let same = same_txn p.txn t e in
        elim cleared [
          | inl is ↦ inl (subst (λ u. is_applied u a ≡ true) (sym same) is)
          | inr excluded ↦ inr (inr (inl (subst (λ u. IsExcluded es u time) (sym same) excluded)))
        ]

lessened_sound : (es : Seen) (a : ShardState) (t : TxnValue) (p : WaitingRead → Bool) (ws : List WaitingRead)
    → ((x : WaitingRead) → Contains ws x → WaitSound es a x)
    → ((x : WaitingRead) → Contains ws x → p x ≡ true → IsCleared es.envelopes a t x.time)
    → (x : WaitingRead) → Contains (lessened t p ws) x → WaitSound es a x
lessened_sound es a t p ws sound cleared x has =
    let at = map_contains (λ (y : WaitingRead). if p y then record y { left = without t y.left } else y) ws x has in
    subst (WaitSound es a) at.2 (go at.0 at.1 (p at.0) refl)
  where
    go : (y : WaitingRead) → Contains ws y → (b : Bool) → p y ≡ b → WaitSound es a (if b then record y { left = without t y.left } else y)
    go y in_it false e = sound y in_it
    go y in_it true e =
        let s = sound y in_it in
        record {
          asked = s.asked;
          clock = s.clock;
          settled = λ key asked. still_settled es.envelopes a t (row_of y.read key) y.time y.left (cleared y in_it e) (s.settled key asked);
        }

nothing_left : (ts : List TxnValue) → is_nothing ts ≡ true → ts ≡ []
nothing_left [] e = refl
nothing_left (t ∷ ts) e = absurd (cc)

-- these are of other kinds than answers: sound for every state
abbrev pub ArePlain : Seen → List Envelope → Type 0
ArePlain es sends = (b : ShardState) → AreSound es b sends

pub let_go_able : {top : TopologyValue} {me : ℕ} {last : ShardState} {es : Seen} (a : ShardState) (n : ℕ) (t : TxnValue) (p : WaitingRead → Bool)
    (sends : List Envelope) → a.clock ≤ n → ((x : WaitingRead) → Contains a.waiting x → p x ≡ true → IsCleared es.envelopes a t x.time) → ArePlain es sends
    → Holds top me last es a → Able top me last es a (let_go me n a t p sends)
let_go_able {me = me} {es = es} a n t p sends le cleared plain h =
    let all = lessened t p a.waiting in
    let sound = lessened_sound es a t p a.waiting h.waiting cleared in
    let ws = filter (λ x. not (is_free x)) all in
    let first = now_waiting a ws (λ x has. sound x (kept_only (λ (y : WaitingRead). not (is_free y)) all x has).0) h in
    let u = onward_then first (moved (record a { waiting = ws }) n le first.holds) in
    let b = record a { clock = n; waiting = ws } in
    record {
      onward = u;
      sends = each_joined (λ (e : Envelope). BodySound es b e.to e.body) sends (map (part_at me n a) (filter is_free all)) (plain b)
          (each_mapped (λ (e : Envelope). BodySound es b e.to e.body) (part_at me n a) (filter is_free all)
          (λ x has.
          let k = kept_only is_free all x has in
          body_grows es u.grows x.session (body.PartAt x.number x.time (rows_or_collected a x.time x.read))
          (free_answer es a x (sound x k.0) (nothing_left x.left k.1))));
    }
