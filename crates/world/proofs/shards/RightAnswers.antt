-- What shards answered in a run is right: what is known of one shard holds of each of them, for all that was sent to it.
use Rattle.std.proofs.Common.{◌≡◌, ◌∙◌, ℕ, ◌<◌, ◌≤◌, Bool, true, false, List, [], ◌∷◌, ◌++◌, ◌⊎◌, inl, inr, refl, sym, ap, subst, subst₂, arith, eq-eqb}
use Rattle.std.specs.Prelude.{◌==◌, Contains}
use Rattle.std.specs.List.{list_any}
use Rattle.std.specs.Ordering.{is_eq}
use Rattle.std.proofs.lemmas.Bool.{false≢true, or_parts}
use Rattle.std.proofs.lemmas.List.Folds.{list_any-append}
use Rattle.logical_time.specs.Stamps.{StampValue, TxnValue, stamp_cmp}
use Rattle.column_family.specs.declared.batch.Row.{Row}
use Rattle.slice.specs.Rows.{row_of}
use Rattle.store.specs.declared.part.Applied.{Applied}
use Rattle.store.specs.Part.{has_row}
use Rattle.store.specs.Keeps.{AreApart}
use Rattle.store.proofs.lists.Lists.{none_in_empty, kept}
use Rattle.planner.specs.Plan.{coordinator_of}
use Rattle.messages.specs.declared.rows_at.AtTime.TheVariants as at
use Rattle.messages.specs.declared.body.Body.{Body}
use Rattle.messages.specs.declared.body.Body.TheVariants as body
use Rattle.messages.specs.declared.envelope.Envelope.{Envelope}
use Rattle.messages.specs.Topology.{TopologyValue, dc_of, shard_node}
use Rattle.messages.specs.Shard.{ShardState, PreparedPart, Decision, Role, Own, Cohort, Replica, KeptBallot}
use Rattle.messages.specs.Rows.{touches_row}
use Rattle.messages.specs.Honest.{IsHonest}
use Rattle.messages.specs.Replication.{is_ready}
use Rattle.shard.specs.Events.{shard_run}
use Rattle.shard.specs.Sound.{IsBallot, IsDecided as Decided, IsExcluded, IsComplete, BodySound}
use Rattle.shard.proofs.right.OneShard.{Knows, IsSaid, shard_knows, asked_in}
use Rattle.world.specs.Run.{Run}
use Rattle.world.proofs.lists.Members.{Contains-append_left, Contains-append_cases}
use Rattle.world.proofs.safety.Facts.{near, lead, part_on, IsDecided, PreparedSound, DecisionSound, AppliedSound, Excluded, Sees, Misses, Complete}
use Rattle.world.proofs.safety.Invariant.{IsAnswer, Says, Hears, Inv, Untouched}
use Rattle.world.proofs.safety.OneBatch.{batch_one, written_at, applied_sees}
use Rattle.world.proofs.safety.Told.{sent_to, all_were_sent}
use Rattle.world.proofs.safety.HonestLists.{sent_honest}
use Rattle.world.proofs.safety.Lasting.{excluded_below}

-- where parts are apart, so are the first of them
apart_first : (xs ys : List Applied) → AreApart (xs ++ ys) → AreApart xs
apart_first [] ys h = tt
apart_first (x ∷ xs) ys h = (
  h.0,
  (or_parts (list_any (λ a. is_eq (stamp_cmp x.stamp a.stamp)) xs) (list_any (λ a. is_eq (stamp_cmp x.stamp a.stamp)) ys)
      (sym (list_any-append (λ a. is_eq (stamp_cmp x.stamp a.stamp)) xs ys) ∙ h.1)).0,
  apart_first xs ys h.2,
)

module _ (top : TopologyValue) (w : Run) (inv : Inv top w) (node : ℕ) where
  -- ## What is known of a shard

  abbrev es : List Envelope
  es = sent_to w node

  abbrev a : ShardState
  a = w.shards node

  known : Knows top node es (w.shards node) (shard_run top node (inv.played node).events).sent
  known =
      let p = inv.played node in
      subst (λ (a : ShardState). Knows top node es a (shard_run top node p.events).sent) p.state
      (shard_knows top node p.events es
      (subst (λ (a : ShardState). IsHonest a es) (sym p.state) (sent_honest top w node inv es (all_were_sent w node)))
      (λ e has. let h = p.handled e has in kept (λ (z : Envelope). z.to == node) w.sent e h.0 (eq-eqb e.to node h.1)))

  -- its parts have each their own stamp
  pub parts_apart : AreApart (w.shards node).applied
  parts_apart = known.holds.stamped_apart

  -- of a kept ballot that misses a notice or an answer nothing is held or decided
  pub unready_untouched : (r : KeptBallot) → Contains a.kept_ballots r → is_ready top node a r ≡ false → Untouched a.ballots a.prepared a.decided r.txn
  unready_untouched r m e = record {
    unbegun = λ b i same. unready (inl (b, i, same));
    unprepared = λ p i same. prepared p i same p.role refl;
    undecided = λ d i same. unready (inr (d, i, same));
  }
    where
      has : Contains a.kept_ballots r
      has = m

      unready : IsBallot a r.txn ⊎ Decided a r.txn → ⊥
      unready begun = false≢true (sym e ∙ known.holds.readied r has begun)

      followed : (p : PreparedPart) → Contains a.prepared p → p.txn ≡ r.txn → (p.role ≡ Own → ⊥) → ⊥
      followed p i same theirs = known.holds.sides r.txn (inr (inr (r, has, refl))) (inl (p, i, same, theirs))

      prepared : (p : PreparedPart) → Contains a.prepared p → p.txn ≡ r.txn → (role : Role) → p.role ≡ role → ⊥
      prepared p i same Own q = unready (inl (subst (IsBallot a) same (known.holds.own p i q)))
      prepared p i same Cohort q = followed p i same (λ own. let no : Cohort ≡ Own = sym q ∙ own in absurd (cc))
      prepared p i same Replica q = followed p i same (λ own. let no : Replica ≡ Own = sym q ∙ own in absurd (cc))

  -- what such an envelope says
  said_so : (session : ℕ) (b : Body) → IsSaid es session b → (time : ℕ) × Says top w session node time b
  said_so session b (e, has, from, is) =
      let h = all_were_sent w node e has in (
        e.time,
        subst (λ m. Says top w session node e.time m) is
            (subst₂ (λ i j. Says top w i j e.time e.body) from h.1 (inv.sent e h.0)),
      )

  -- ## What is complete

  -- the shard decided so: above the time
  excluded_by : (c time : ℕ) (t : TxnValue) (n : ℕ) (s : StampValue) → IsDecided w c t n s → time < n → Excluded w c t time
  excluded_by c time t n s k lt =
      let ds = (inv.shards c).decided k.decision k.among in
      let same = k.commit in
      record {
        clock = (let le = ds.commit in omega (arith, lt, same, le));
        above = λ d m e.
            let one = ap (λ (z : Decision). z.commit) (ds.one d m (e ∙ sym k.txn)) in
            omega (arith, lt, same, one);
      }

  module _ (r : Row) (time : ℕ) (seen : List Applied) (c : IsComplete es (w.shards node) r time seen) where
    seen_or_later : (v : Applied) → Contains (w.shards node).applied v → Contains seen v ⊎ Contains c.later v
    seen_or_later v m = Contains-append_cases seen c.later v (subst (λ l. Contains l v) c.split m)

    later_above : (v : Applied) → Contains c.later v → has_row r v.part.batch ≡ true → time < v.commit
    later_above v m touches = c.above v m touches

    -- its coordinator decided above the time
    later_excluded : (p : PreparedPart) → PreparedSound top w node p → touches_row r p ≡ true → (v : Applied) → AppliedSound top w node v → Contains c.later v
        → v.part.writer.txn ≡ p.txn → Excluded w (near top node p.coordinator) p.txn time
    later_excluded p ps touches v vs m same =
        let batch : vs.batch ≡ ps.batch = batch_one inv.submitted (written_at same vs.written) ps.written in
        let rows : v.part.batch ≡ p.rows = vs.rows ∙ ap (λ b. part_on top b node) batch ∙ sym ps.rows in
        let at : v.part.writer.shard ≡ p.coordinator = vs.coordinator ∙ ap (coordinator_of top.shards) batch ∙ sym ps.coordinator in
        excluded_by (near top node p.coordinator) time p.txn v.commit v.stamp
        (subst₂ (λ i t. IsDecided w (near top node i) t v.commit v.stamp) at same vs.decided) (later_above v m (ap (has_row r) rows ∙ touches))

    -- the coordinator told so
    told_excluded : (p : PreparedPart) → PreparedSound top w node p → IsExcluded es p.txn time → Excluded w (near top node p.coordinator) p.txn time
    told_excluded p ps x =
        let h = all_were_sent w node x.told x.among in
        let k = subst (λ b. Says top w x.told.from node x.told.time b) x.body (subst (λ i. Says top w x.told.from i x.told.time x.told.body) h.1 (inv.sent x.told h.0)) in
        let batch : k.1.batch ≡ ps.batch = batch_one inv.submitted k.1.written ps.written in
        let at : x.told.from ≡ near top node p.coordinator = k.1.here ∙ ap (lead top (dc_of top node)) batch ∙ sym (ap (shard_node top (dc_of top node)) ps.coordinator) in
        subst (λ i. Excluded w i p.txn time) at (excluded_below x.bounded k.0)

    prepared_so : (p : PreparedPart) → Contains (w.shards node).prepared p → touches_row r p ≡ true
        → Sees seen p.txn ⊎ (time ≤ p.time) ⊎ Excluded w (near top node p.coordinator) p.txn time
    prepared_so p m touches = elim (c.settled p m touches) [
      | inl is ↦
          (let v = applied_sees p.txn (w.shards node) is in
          elim (seen_or_later v.0 v.1) [
            | inl i ↦ inl (v.0, i, v.2)
            | inr i ↦ inr (inr (later_excluded p ((inv.shards node).prepared p m) touches v.0 ((inv.shards node).applied v.0 v.1) i v.2))
          ])
      | inr (inl le) ↦ inr (inl le)
      | inr (inr (inl x)) ↦ inr (inr (told_excluded p ((inv.shards node).prepared p m) x))
      | inr (inr (inr none)) ↦ absurd (none_in_empty p.txn none)
    ]

    decided_so : (d : Decision) → Contains (w.shards node).decided d → Sees seen d.txn ⊎ (time < d.commit) ⊎ Misses top w node r d.txn
    decided_so d m = elim (seen_or_later v v_in) [ inl i ↦ inl (v, i, ds.applied.2) | inr i ↦ by i (has_row r v.part.batch) refl ]
      where
        ds : DecisionSound top w node d
        ds = (inv.shards node).decided d m

        v : Applied
        v = ds.applied.0

        v_in : Contains (w.shards node).applied v
        v_in = ds.applied.1

        vs : AppliedSound top w node v
        vs = (inv.shards node).applied v v_in

        commit : v.commit ≡ d.commit
        commit =
            let batch : vs.batch ≡ ds.batch = batch_one inv.submitted (written_at ds.applied.2 vs.written) ds.written in
            let at : near top node v.part.writer.shard ≡ node =
            ap (near top node) (vs.coordinator ∙ ap (coordinator_of top.shards) batch) ∙ sym ds.here in
            let k = subst (λ i. IsDecided w i v.part.writer.txn v.commit v.stamp) at vs.decided in
            sym k.commit ∙ ap (λ (z : Decision). z.commit) (ds.one k.decision k.among (k.txn ∙ ds.applied.2))

        by : Contains c.later v → (b : Bool) → has_row r v.part.batch ≡ b → Sees seen d.txn ⊎ (time < d.commit) ⊎ Misses top w node r d.txn
        by i true e = inr (inl (subst (λ n. time < n) commit (later_above v i e)))
        by i false e =
            inr (inr (record { submission = vs.submission; batch = vs.batch; written = written_at ds.applied.2 vs.written; misses = ap (has_row r) (sym vs.rows) ∙ e }))

    complete_in : Complete top w node r time seen
    complete_in = record {
      clock = c.clock;
      apart = apart_first seen c.later (subst AreApart c.split parts_apart);
      applied = λ v m. subst (λ l. Contains l v) (sym c.split) (Contains-append_left seen c.later v m);
      prepared = prepared_so;
      decided = decided_so;
    }

  -- ## Answers

  -- what the shard's account of an answer says
  told : (e : Envelope) (b : Body) → BodySound (asked_in es) a e.to b → Says top w node e.to e.time b → Hears top w node e.to e.time b
  told e (body.PartNow number rows) k early =
      record {
        read = k.read;
        asked = (said_so e.to (body.Read number k.read) k.asked).1;
        answers = record {
          keys = k.keys;
          rows = λ r i.
              let s = k.each r i in
              record { seen = s.seen; shown = s.newest; early = early r i; complete = complete_in (row_of k.read r.key) r.lvt s.seen s.complete };
        };
      }
  told e (body.PartAt number bound (at.Rows rows)) k early =
      record {
        read = k.read;
        asked = (said_so e.to (body.ReadAt number bound k.read) k.asked).1.1;
        answers = record {
          keys = k.keys;
          rows = λ r i.
              let s = k.each r i in
              record { seen = s.seen; shown = s.right; complete = complete_in (row_of k.read r.key) bound s.seen s.complete };
        };
      }
  told e (body.PartAt number bound at.Collected) k early =
      record { low = k.low; read = k.read; asked = (said_so e.to (body.ReadAt number bound k.read) k.asked).1.1 }
  told e other k says = says

-- what each envelope says that was sent
pub hears : (top : TopologyValue) (w : Run) → Inv top w → (e : Envelope) → Contains w.sent e → Hears top w e.from e.to e.time e.body
hears top w inv e m = by e.body refl
  where
    answer : (b : Body) → e.body ≡ b → IsAnswer b → Hears top w e.from e.to e.time b
    answer b is answers =
        let p = inv.played e.from in
        told top w inv e.from e b
        (subst (BodySound (asked_in (sent_to w e.from)) (w.shards e.from) e.to) is
        ((known top w inv e.from).says e (p.answers e m refl (subst IsAnswer (sym is) answers))))
        (subst (Says top w e.from e.to e.time) is (inv.sent e m))

    by : (b : Body) → e.body ≡ b → Hears top w e.from e.to e.time b
    by (body.PartNow number rows) is = answer (body.PartNow number rows) is tt
    by (body.PartAt number bound rows) is = answer (body.PartAt number bound rows) is tt
    by other is = subst (Says top w e.from e.to e.time) is (inv.sent e m)
