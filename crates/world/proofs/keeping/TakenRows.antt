-- The rows that a read takes answer it: each asked key has one, and each is right at the effective time.
use Rattle.std.proofs.Common.{◌≡◌, ℕ, ◌<◌, ◌≤◌, Bool, true, false, List, map, inl, inr, refl, sym, ap, ◌∙◌, subst, arith, eqb-true, eq-eqb, leb-true, le_trans, lt_of_le_of_lt}
use Rattle.std.specs.Prelude.{◌==◌, nat_le, nat_lt, flat_map, filter, Contains}
use Rattle.std.proofs.lemmas.Bool.Decides.{nat_tests}
use Rattle.column_family.specs.declared.batch.Row.{Row}
use Rattle.slice.specs.declared.read.Read.{Read}
use Rattle.store.specs.declared.part.Applied.{Applied}
use Rattle.store.proofs.times.FromEvt.{right_from_evt}
use Rattle.planner.specs.Partition.{shard_of as shard_of_key}
use Rattle.planner.specs.Plan.{keys_for}
use Rattle.messages.specs.declared.rows_now.RowNow.{RowNow}
use Rattle.messages.specs.declared.rows_at.RowAt.{RowAt}
use Rattle.messages.specs.Topology.{TopologyValue, shard_of, shard_node}
use Rattle.messages.specs.Session.{SessionState, HeardNow, HeardAt}
use Rattle.messages.specs.Submitting.{home_node}
use Rattle.slice.specs.Rows.{row_of}
use Rattle.messages.specs.Rounds.{asked_nodes, all_heard, rows_heard, effective_time, row_taken, accepted, rows_from, late_keys, is_late, all_heard_at, rows_taken}
use Rattle.messages.proofs.Greatest.{effective_above_each, effective_no_greater}
use Rattle.world.specs.Run.{Run}
use Rattle.world.proofs.lists.Members.{Contains-append_left, Contains-append_right, Contains-append_cases, contains_map, mapped_from, contains_flat, flat_contains, contains_filter, filter_contains, any_has}
use Rattle.shard.specs.Right.{part_now}
use Rattle.world.proofs.safety.Facts.{Complete, RowNowSound, RowAtSound}
use Rattle.world.proofs.safety.Invariant.{HeardNowSound, HeardAtSound, AnsweredFrom}
use Rattle.world.proofs.envelopes.Asking.{key_asked, key_shared, shared_lies, heard_from, heard_late}
use Rattle.world.proofs.safety.Lasting.{excluded_below}

-- what is complete at a time is complete at each earlier one
pub complete_below : {top : TopologyValue} {w : Run} {node n m : ℕ} {r : Row} {seen : List Applied} → m ≤ n → Complete top w node r n seen
    → Complete top w node r m seen
complete_below le k =
    record {
      clock = le_trans le k.clock;
      apart = k.apart;
      applied = k.applied;
      prepared = λ p i e. elim (k.prepared p i e) [ inl v ↦ inl v | inr (inl q) ↦ inr (inl (le_trans le q)) | inr (inr q) ↦ inr (inr (excluded_below le q)) ];
      decided = λ d i. elim (k.decided d i) [ inl v ↦ inl v | inr (inl q) ↦ inr (inl (lt_of_le_of_lt le q)) | inr (inr q) ↦ inr (inr q) ];
    }

-- a row of a first round whose interval has the time is right at it
pub row_accepted : {top : TopologyValue} {w : Run} {node n : ℕ} {read : Read} {keys : List (List ℕ)} {r : RowNow} (time : ℕ)
    → RowNowSound top w node n (record read { keys = keys }) r → r.evt ≤ time → time ≤ r.lvt → RowAtSound top w node time read (row_taken r)
row_accepted {read = read} {r = r} time k le ge =
    let right = right_from_evt k.seen (row_of read r.key) read.predicate time (part_now r) k.complete.apart k.shown le in
    record {
      seen = k.seen;
      shown = record { columns = right.columns; writers = right.writers; in_order = right.in_order };
      complete = complete_below ge k.complete;
    }

not_below : (a b : ℕ) → nat_le a b ≡ false → nat_lt b a ≡ true
not_below a b e = grind (arith, nat_tests)

-- a row of a shard is among those that came from it
rows_of_node : (heard : List HeardNow) (h : HeardNow) (node : ℕ) (r : RowNow) → Contains heard h → h.from ≡ node → Contains h.rows r → Contains (rows_from heard node) r
rows_of_node heard h node r m e i =
    contains_flat (λ h. h.rows) (filter (λ h. h.from == node) heard) h r (contains_filter (λ h. h.from == node) heard h m (eq-eqb h.from node e)) i

module _ (top : TopologyValue) (w : Run) (a : SessionState) (read : Read) (first : List HeardNow)
    (some : 0 < top.shards) (sound : (h : HeardNow) → Contains first h → HeardNowSound top w a read h) where
  -- the effective time isn't above the clock
  pub effective_by_clock : a.floor ≤ a.clock → effective_time a.floor first ≤ a.clock
  effective_by_clock le = effective_no_greater a.floor first a.clock le (λ r has. early r (flat_contains (λ h. h.rows) first r has))
    where
      early : (r : RowNow) → (h : HeardNow) × Contains first h × Contains h.rows r → r.evt ≤ a.clock
      early r (h, m, i) = ((sound h m).answers.rows r i).early

  -- the row of an asked key
  row_of_key : (h : HeardNow) → Contains first h → (key : List ℕ) → Contains (keys_for top.shards read.keys (shard_of top h.from)) key
      → (r : RowNow) × Contains h.rows r × (key ≡ r.key)
  row_of_key h m key i = mapped_from (λ r. r.key) h.rows key (subst (λ ks. Contains ks key) (sym (sound h m).answers.keys) i)

  -- a row of a shard lies there
  lies : (h : HeardNow) → Contains first h → (r : RowNow) → Contains h.rows r → shard_node top a.home (shard_of_key top.shards r.key) ≡ h.from
  lies h m r i =
      shared_lies top a read h.from r.key (sound h m).asked (subst (λ ks. Contains ks r.key) (sound h m).answers.keys (contains_map (λ r. r.key) h.rows r i))

  accepted_right : (r : RowAt) → Contains (accepted (effective_time a.floor first) first) r
      → RowAtSound top w (shard_node top a.home (shard_of_key top.shards r.key)) (effective_time a.floor first) read r
  accepted_right r m = go (mapped_from row_taken (filter (λ r. nat_le time r.lvt) (rows_heard first)) r m)
    where
      time : ℕ
      time = effective_time a.floor first

      right : (q : RowNow) (h : HeardNow) → Contains first h → Contains h.rows q → Contains (rows_heard first) q → nat_le time q.lvt ≡ true
          → RowAtSound top w (shard_node top a.home (shard_of_key top.shards q.key)) time read (row_taken q)
      right q h m i among le =
          subst (λ node. RowAtSound top w node time read (row_taken q)) (sym (lies h m q i))
          (row_accepted time ((sound h m).answers.rows q i) (effective_above_each a.floor first q among) (leb-true time q.lvt le))

      go : (q : RowNow) × Contains (filter (λ r. nat_le time r.lvt) (rows_heard first)) q × (r ≡ row_taken q)
          → RowAtSound top w (shard_node top a.home (shard_of_key top.shards r.key)) time read r
      go (q, i, e) =
          let kept = filter_contains (λ r. nat_le time r.lvt) (rows_heard first) q i in
          let h = flat_contains (λ h. h.rows) first q kept.0 in
          subst (λ z. RowAtSound top w (shard_node top a.home (shard_of_key top.shards z.key)) time read z) (sym e) (right q h.0 h.1 h.2 kept.0 kept.1)

  module _ (time : ℕ) (heard : List HeardAt) (is : time ≡ effective_time a.floor first)
      (sound_at : (h : HeardAt) → Contains heard h → HeardAtSound top w a read time first h) (all : all_heard (asked_nodes top a read) first ≡ true)
      (all_at : all_heard_at (asked_nodes top a read) time first heard ≡ true) where
    -- a key that was asked again lies on the shard
    late_lies : (node : ℕ) (key : List ℕ) → Contains (late_keys time first node) key → shard_node top a.home (shard_of_key top.shards key) ≡ node
    late_lies node key m = go (mapped_from (λ r. r.key) (filter (λ r. nat_lt r.lvt time) (rows_from first node)) key m)
      where
        by : (q : RowNow) → key ≡ q.key → (h : HeardNow) × Contains (filter (λ h. h.from == node) first) h × Contains h.rows q
            → shard_node top a.home (shard_of_key top.shards key) ≡ node
        by q e (h, i, j) =
            let f = filter_contains (λ h. h.from == node) first h i in
            ap (λ k. shard_node top a.home (shard_of_key top.shards k)) e ∙ lies h f.0 q j ∙ eqb-true h.from node f.1

        go : (q : RowNow) × Contains (filter (λ r. nat_lt r.lvt time) (rows_from first node)) q × (key ≡ q.key)
            → shard_node top a.home (shard_of_key top.shards key) ≡ node
        go (q, i, e) = by q e (flat_contains (λ h. h.rows) (filter (λ h. h.from == node) first) q (filter_contains (λ r. nat_lt r.lvt time) (rows_from first node) q i).0)

    second_right : (r : RowAt) → (h : HeardAt) × Contains heard h × Contains h.rows r
        → RowAtSound top w (shard_node top a.home (shard_of_key top.shards r.key)) time read r
    second_right r (h, m, i) =
        let k = sound_at h m in
        let s = k.answers.rows r i in
        let here = late_lies h.from r.key (subst (λ ks. Contains ks r.key) k.answers.keys (contains_map (λ r. r.key) h.rows r i)) in
        subst (λ node. RowAtSound top w node time read r) (sym here) (record { seen = s.seen; shown = s.shown; complete = s.complete })

    taken_right : (r : RowAt) → Contains (rows_taken time first heard) r → RowAtSound top w (shard_node top a.home (shard_of_key top.shards r.key)) time read r
    taken_right r m = elim (Contains-append_cases (accepted time first) (flat_map (λ h. h.rows) heard) r m) [
      | inl i ↦
          subst (λ t. RowAtSound top w (shard_node top a.home (shard_of_key top.shards r.key)) t read r) (sym is)
          (accepted_right r (subst (λ t. Contains (accepted t first) r) is i))
      | inr i ↦ second_right r (flat_contains (λ h. h.rows) heard r i)
    ]

    -- a row that was taken at once
    given_now : (q : RowNow) → Contains (rows_heard first) q → nat_le time q.lvt ≡ true → Contains (map (λ r. r.key) (rows_taken time first heard)) q.key
    given_now q m e =
        contains_map (λ r. r.key) (rows_taken time first heard) (row_taken q)
        (Contains-append_left (accepted time first) (flat_map (λ h. h.rows) heard) (row_taken q) (contains_map row_taken (filter (λ r. nat_le time r.lvt) (rows_heard first)) q (contains_filter (λ r. nat_le time r.lvt) (rows_heard first) q m e)))

    -- one that was asked again
    given_later : (key : List ℕ) (node : ℕ) → Contains (asked_nodes top a read) node → (q : RowNow) → Contains (rows_from first node) q → key ≡ q.key
        → nat_lt q.lvt time ≡ true → Contains (map (λ r. r.key) (rows_taken time first heard)) key
    given_later key node asked q m e late =
        go
        (heard_late (asked_nodes top a read) time first heard all_at node
        (contains_filter (is_late time first) (asked_nodes top a read) node asked (any_has (λ r. nat_lt r.lvt time) (rows_from first node) q m late)))
      where
        key_late : Contains (late_keys time first node) key
        key_late =
            subst (λ k. Contains (late_keys time first node) k) (sym e)
            (contains_map (λ r. r.key) (filter (λ r. nat_lt r.lvt time) (rows_from first node)) q (contains_filter (λ r. nat_lt r.lvt time) (rows_from first node) q m late))

        by : (h : HeardAt) → Contains heard h → (r : RowAt) × Contains h.rows r × (key ≡ r.key) → Contains (map (λ r. r.key) (rows_taken time first heard)) key
        by h i (r, j, same) =
            subst (λ k. Contains (map (λ r. r.key) (rows_taken time first heard)) k) (sym same)
            (contains_map (λ r. r.key) (rows_taken time first heard) r
            (Contains-append_right (accepted time first) (flat_map (λ h. h.rows) heard) r (contains_flat (λ h. h.rows) heard h r i j)))

        go : (h : HeardAt) × Contains heard h × (h.from ≡ node) → Contains (map (λ r. r.key) (rows_taken time first heard)) key
        go (h, i, from) =
            by h i (mapped_from (λ r. r.key) h.rows key (subst (λ ks. Contains ks key) (ap (late_keys time first) (sym from) ∙ sym (sound_at h i).answers.keys) key_late))

    taken_given : (key : List ℕ) → Contains read.keys key → Contains (map (λ r. r.key) (rows_taken time first heard)) key
    taken_given key m = from (heard_from (asked_nodes top a read) first all node asked)
      where
        node : ℕ
        node = home_node top a (shard_of_key top.shards key)

        asked : Contains (asked_nodes top a read) node
        asked = key_asked top a read key some m

        by : (h : HeardNow) → Contains first h → h.from ≡ node → (r : RowNow) → Contains h.rows r → key ≡ r.key → (b : Bool) → nat_le time r.lvt ≡ b
            → Contains (map (λ r. r.key) (rows_taken time first heard)) key
        by h i from r j e true le =
            subst (λ k. Contains (map (λ r. r.key) (rows_taken time first heard)) k) (sym e) (given_now r (contains_flat (λ h. h.rows) first h r i j) le)
        by h i from r j e false le = given_later key node asked r (rows_of_node first h node r i from j) e (not_below time r.lvt le)

        from : (h : HeardNow) × Contains first h × (h.from ≡ node) → Contains (map (λ r. r.key) (rows_taken time first heard)) key
        from (h, i, e) =
            let r = row_of_key h i key (subst (λ n. Contains (keys_for top.shards read.keys (shard_of top n)) key) (sym e) (key_shared top read a.home key some m)) in
            by h i e r.0 r.1 r.2 (nat_le time r.0.lvt) refl

    -- the read is answered from the rows that it took
    pub taken_answers : AnsweredFrom top w a.home read time (rows_taken time first heard)
    taken_answers = record { given = taken_given; right = taken_right }
