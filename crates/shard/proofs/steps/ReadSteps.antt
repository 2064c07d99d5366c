-- Read and ReadAt.
use Rattle.std.proofs.Common.{◌≡◌, sym, ap, subst, refl, ℕ, ◌<◌, ◌≤◌, ◌⊎◌, inl, inr, Bool, true, false, not, ◌&&◌, nat_lt, List, [], ◌∷◌, ◌++◌, map, arith, append-nil}
use Rattle.std.specs.Prelude.{Contains}
use Rattle.std.specs.List.{list_any}
use Rattle.std.proofs.lemmas.Bool.Decides.{nat_tests}
use Rattle.std.proofs.lemmas.List.Elements.{Contains-push_cases}
use Rattle.logical_time.specs.Stamps.{WriterValue}
use Rattle.slice.specs.declared.read.Read.{Read}
use Rattle.planner.proofs.Members.{contains_map, map_contains}
use Rattle.store.proofs.lists.Lists.{none_in_empty, kept}
use Rattle.messages.specs.declared.rows_now.RowNow.{RowNow}
use Rattle.messages.specs.declared.rows_at.AtTime.TheVariants as at_time
use Rattle.messages.specs.declared.body.Body.TheVariants as body
use Rattle.messages.specs.declared.envelope.Envelope.{Envelope}
use Rattle.messages.specs.Topology.{TopologyValue}
use Rattle.messages.specs.Words.{envelope}
use Rattle.messages.specs.Shard.{ShardState, PreparedPart}
use Rattle.messages.specs.Known.{is_applied}
use Rattle.slice.specs.Rows.{row_of}
use Rattle.messages.specs.Rows.{touches_row, marks_on, least_mark, row_now}
use Rattle.messages.specs.Reads.{answer, part_at, marks_below, asked_below, check_of, waiting_read, on_read}
use Rattle.messages.proofs.Greatest.{mark_below_clock, mark_below_each}
use Rattle.messages.proofs.WritersInOrder.{writers_stay}
use Rattle.shard.specs.Sound.{Seen, IsExcluded, RowNowSound, BodySound, WaitSound, Holds, Able}
use Rattle.shard.proofs.lists.Lists.{any_has, both_hold, each_mapped}
use Rattle.messages.proofs.RowParts.{row_now_shown}
use Rattle.shard.proofs.knowing.Updates.{moved, now_waiting}
use Rattle.shard.proofs.knowing.LetGo.{able_after, answer_able, free_answer}

-- ## Read

keys_stay : (n : ℕ) (a : ShardState) (read : Read) (keys : List (List ℕ)) → map (λ (r : RowNow). r.key) (map (row_now n a read) keys) ≡ keys
keys_stay n a read [] = refl
keys_stay n a read (k ∷ keys) = ap (λ ks. k ∷ ks) (keys_stay n a read keys)

pub row_sound : {top : TopologyValue} {me : ℕ} {last : ShardState} {es : Seen} (a : ShardState) (n : ℕ) (read : Read) (key : List ℕ) → Holds top me last es a
    → RowNowSound es.envelopes (record a { clock = n }) read (row_now n a read key)
row_sound {es = es} a n read key h =
    record {
      seen = a.applied;
      newest = row_now_shown n a read key;
      complete = record {
        later = [];
        split = sym (append-nil a.applied);
        above = λ y none touches. absurd (none_in_empty y none);
        clock = mark_below_clock n (marks_on (row_of read key) a);
        settled = λ p has touches. marked p has touches (is_applied p.txn a) refl;
      };
      stamped_apart = h.stamped_apart;
    }
  where
    marked : (p : PreparedPart) → Contains a.prepared p → touches_row (row_of read key) p ≡ true → (b : Bool) → is_applied p.txn a ≡ b
        → (is_applied p.txn a ≡ true) ⊎ (least_mark n (marks_on (row_of read key) a) ≤ p.time) ⊎ IsExcluded es.envelopes p.txn (least_mark n (marks_on (row_of read key) a)) ⊎ Contains [] p.txn
    marked p has touches true e = inl e
    marked p has touches false e =
        inr (inl (mark_below_each n (marks_on (row_of read key) a) p
        (kept (λ q. touches_row (row_of read key) q && not (is_applied q.txn a)) a.prepared p has
        (both_hold (touches_row (row_of read key) p) (not (is_applied p.txn a)) touches (ap not e)))))

pub read_able : {top : TopologyValue} {me : ℕ} {last : ShardState} {es : Seen} (a : ShardState) (n number : ℕ) (read : Read) (e : Envelope)
    → a.clock < n → es.asks_now e.from number read → Holds top me last es a → Able top me last es a (on_read me n a e.from number read)
read_able {me = me} {es = es} a n number read e lt asked h =
    answer_able a n (envelope me e.from n (body.PartNow number (map (row_now n a read) read.keys))) (omega (arith, lt))
    (record {
      read = read;
      asked = asked;
      keys = keys_stay n a read read.keys;
      each = λ r in_it. (
          let at = map_contains (row_now n a read) read.keys r in_it in
          subst (RowNowSound es.envelopes (record a { clock = n }) read) at.2 (row_sound a n read at.0 h));
    })
    h

-- ## ReadAt

not_below : (n m : ℕ) → nat_lt n m ≡ false → m ≤ n
not_below n m e = grind (arith, nat_tests)

-- a read at a time waits for all marks below it in its rows
wait_made : (es : Seen) (a : ShardState) (n number time : ℕ) (read : Read) (e : Envelope) → es.asks_at e.from number time read → time ≤ n
    → (ws : List WriterValue) → asked_below a time read ≡ ws → WaitSound es (record a { clock = n }) (waiting_read e.from number time read ws)
wait_made es a n number time read e wanted le ws same =
    record {
      asked = wanted;
      clock = le;
      settled = λ key asked p prepared touches. by_applied key asked p prepared touches (is_applied p.txn a) refl;
    }
  where
    asks : PreparedPart → WriterValue
    asks p = record { txn = p.txn; shard = p.coordinator }

    by_time : (key : List ℕ) → Contains read.keys key → (p : PreparedPart) → Contains a.prepared p → touches_row (row_of read key) p ≡ true → is_applied p.txn a ≡ false
        → (b : Bool) → nat_lt p.time time ≡ b → (time ≤ p.time) ⊎ IsExcluded es.envelopes p.txn time ⊎ Contains (map (λ w. w.txn) ws) p.txn
    by_time key asked p prepared touches new false below = inl (not_below p.time time below)
    by_time key asked p prepared touches new true below =
        let rows : list_any (λ k. touches_row (row_of read k) p) read.keys ≡ true = any_has (λ k. touches_row (row_of read k) p) read.keys key asked touches in
        let test = both_hold (list_any (λ k. touches_row (row_of read k) p) read.keys && not (is_applied p.txn a)) (nat_lt p.time time)
        (both_hold (list_any (λ k. touches_row (row_of read k) p) read.keys) (not (is_applied p.txn a)) rows (ap not new)) below in
        let mark = kept (λ q. list_any (λ k. touches_row (row_of read k) q) read.keys && not (is_applied q.txn a) && nat_lt q.time time) a.prepared p prepared test in
        let w = asks p in
        let listed = contains_map asks (marks_below a time read) p mark in
        let named = subst (λ zs. Contains zs w) same ((writers_stay (map asks (marks_below a time read)) w).1 listed) in
        inr (inr (contains_map (λ (z : WriterValue). z.txn) ws w named))

    by_applied : (key : List ℕ) → Contains read.keys key → (p : PreparedPart) → Contains a.prepared p → touches_row (row_of read key) p ≡ true
        → (b : Bool) → is_applied p.txn a ≡ b
        → (is_applied p.txn a ≡ true) ⊎ (time ≤ p.time) ⊎ IsExcluded es.envelopes p.txn time ⊎ Contains (map (λ w. w.txn) ws) p.txn
    by_applied key asked p prepared touches true f = inl f
    by_applied key asked p prepared touches false f = inr (by_time key asked p prepared touches f (nat_lt p.time time) refl)

pub read_at_able : {top : TopologyValue} {me : ℕ} {last : ShardState} {es : Seen} (a : ShardState) (n number time : ℕ) (read : Read) (e : Envelope)
    → asked_below a time read ≡ [] → a.clock < n → time ≤ n → es.asks_at e.from number time read → Holds top me last es a
    → Able top me last es a (answer n a (part_at me n a (waiting_read e.from number time read [])))
read_at_able {me = me} {es = es} a n number time read e same lt le wanted h =
    let x = waiting_read e.from number time read [] in
    answer_able a n (part_at me n a x) (omega (arith, lt))
    (free_answer es (record a { clock = n }) x (wait_made es a n number time read e wanted le [] same) refl) h

pub wait_able : {top : TopologyValue} {me : ℕ} {last : ShardState} {es : Seen} (w : WriterValue) (ws : List WriterValue) (a : ShardState) (n number time : ℕ)
    (read : Read) (e : Envelope) → asked_below a time read ≡ w ∷ ws → a.clock < n → time ≤ n → es.asks_at e.from number time read → Holds top me last es a
    → Able top me last es a
    (record {
      state = record a { clock = n; waiting = a.waiting ++ waiting_read e.from number time read (w ∷ ws) ∷ [] };
      sends = map (check_of top me n time) (w ∷ ws);
    })
wait_able {top = top} {me = me} {es = es} w ws a n number time read e same lt le wanted h =
    let x = waiting_read e.from number time read (w ∷ ws) in
    let sound = wait_made es a n number time read e wanted le (w ∷ ws) same in
    let m = record a { clock = n } in
    able_after (moved a n (omega (arith, lt)) h)
    (λ h1. record {
      onward = now_waiting m (a.waiting ++ x ∷ [])
          (λ y waits. elim (Contains-push_cases a.waiting x y waits) [ inl old ↦ h1.waiting y old | inr own ↦ subst (WaitSound es m) own sound ]) h1;
      sends = each_mapped (λ (z : Envelope). BodySound es (record m { waiting = a.waiting ++ x ∷ [] }) z.to z.body) (check_of top me n time) (w ∷ ws) (λ z asked. tt);
    })

below : (n m : ℕ) → nat_lt n m ≡ true → n < m
below n m e = grind (arith, nat_tests)

-- the horizon is above the read's time
pub collected_able : {top : TopologyValue} {me : ℕ} {last : ShardState} {es : Seen} (a : ShardState) (n number time : ℕ) (read : Read) (e : Envelope)
    → nat_lt time a.low ≡ true → a.clock < n → es.asks_at e.from number time read → Holds top me last es a
    → Able top me last es a (answer n a (envelope me e.from n (body.PartAt number time at_time.Collected)))
collected_able {me = me} a n number time read e low lt wanted h =
    answer_able a n (envelope me e.from n (body.PartAt number time at_time.Collected)) (omega (arith, lt))
    (record { low = below time a.low low; read = read; asked = wanted }) h
