-- What is unfinished on a shard of a run: the parts that it holds and hasn't applied, in order of transaction number, and
-- nothing where the shard keeps nothing waiting.
use Rattle.std.proofs.Common.{◌≡◌, ◌∙◌, ℕ, ◌<◌, Bool, true, false, cond, not, List, [], ◌∷◌, ◌++◌, map, Option, Some, None, inl, inr, refl, sym, ap, subst, arith}
use Rattle.std.specs.Prelude.{Contains, is_some, filter, filter_map, find}
use Rattle.std.specs.List.{AllByRecursion, cons_option}
use Rattle.std.specs.List.Sorted.{IsStrictlySortedBy}
use Rattle.std.specs.declared.cmp.Ordering.{Ordering}
use Rattle.std.specs.declared.cmp.Ordering.TheVariants.{Less, Equal, Greater}
use Rattle.std.specs.Ordering.{is_eq, ordering_then, nat_cmp}
use Rattle.std.proofs.lemmas.Bool.{false≢true}
use Rattle.std.proofs.lemmas.Bool.Decides.{nat_tests}
use Rattle.logical_time.specs.Stamps.{TxnValue, WriterValue, txn_cmp, writer_cmp}
use Rattle.column_family.specs.declared.batch.Change.{Change}
use Rattle.txn_state.specs.declared.part.WritePart.{WritePart}
use Rattle.store.proofs.lists.Lists.{given, given_only}
use Rattle.planner.specs.Plan.{coordinator_of}
use Rattle.messages.specs.Topology.{TopologyValue, dc_of, shard_of}
use Rattle.messages.specs.Words.{is_same_txn, in_writer_order}
use Rattle.messages.specs.Shard.{ShardState, PreparedPart, BegunBallot, Decision, KeptPart, KeptBallot}
use Rattle.messages.specs.Known.{decision_of, is_applied}
use Rattle.messages.proofs.WritersInOrder.{writers_ascend, writers_stay}
use Rattle.shard.specs.Unfinished.{part_of, parts_held, parts_unapplied}
use Rattle.world.specs.Run.{Run, RunEvent, Submission, run}
use Rattle.world.specs.Settled.{IsClear}
use Rattle.world.specs.Lookups.{TellsUnfinished, ShardsTellUnfinished}
use Rattle.world.proofs.lists.Members.{contains_first, contains_rest, Contains-append_cases, contains_map, mapped_from, filter_contains, any_false, found, find_none, same_txn}
use Rattle.world.proofs.safety.Facts.{IsWritten, part_on}
use Rattle.world.proofs.safety.Invariant.{Inv}
use Rattle.world.proofs.envelopes.Near.{lead_number}
use Rattle.world.proofs.histories.Decisions.{same_batch}
use Rattle.world.proofs.quiet.SettledShards.{sees_applied}
use Rattle.world.proofs.safety.Runs.{every_run}

-- ## Each by its writer

equal_numbers : (a b c d e f : ℕ) → is_eq (ordering_then (ordering_then (nat_cmp a b) (nat_cmp c d)) (nat_cmp e f)) ≡ true → (a ≡ b) × (c ≡ d) × (e ≡ f)
equal_numbers a b c d e f q = (grind (arith, nat_tests), grind (arith, nat_tests), grind (arith, nat_tests))

pub equal_self : (a c e : ℕ) → is_eq (ordering_then (ordering_then (nat_cmp a a) (nat_cmp c c)) (nat_cmp e e)) ≡ true
equal_self a c e = grind (arith, nat_tests)

same_writer : (v w : WriterValue) → is_eq (writer_cmp v w) ≡ true → v ≡ w
same_writer v w e i =
    let q = equal_numbers v.txn.session w.txn.session v.txn.number w.txn.number v.shard w.shard e in
    record { txn = record { session = q.0 i; number = q.1 i }; shard = q.2 i }

module _ (ps : List WritePart) where
  -- the part of this writer
  abbrev by_writer : WriterValue → Option WritePart
  by_writer w = find (λ p. is_eq (writer_cmp p.writer w)) ps

  by_found : (p : WritePart) → Contains ps p → (q : WritePart) × (by_writer p.writer ≡ Some q) × Contains ps q × (q.writer ≡ p.writer)
  by_found p m = go (by_writer p.writer) refl
    where
      go : (o : Option WritePart) → by_writer p.writer ≡ o → (q : WritePart) × (by_writer p.writer ≡ Some q) × Contains ps q × (q.writer ≡ p.writer)
      go None e =
          absurd
          (false≢true (sym (any_false (λ (z : WritePart). is_eq (writer_cmp z.writer p.writer)) ps (find_none (λ z. is_eq (writer_cmp z.writer p.writer)) ps e) p m)
          ∙ equal_self p.writer.txn.session p.writer.txn.number p.writer.shard))
      go (Some q) e = let r = found (λ (z : WritePart). is_eq (writer_cmp z.writer p.writer)) ps q e in (q, e, r.0, same_writer q.writer p.writer r.1)

  listed : (ws : List WriterValue) → ((w : WriterValue) → Contains ws w → (q : WritePart) × (by_writer w ≡ Some q) × Contains ps q × (q.writer ≡ w))
      → map (λ (p : WritePart). p.writer) (filter_map by_writer ws) ≡ ws
  listed [] f = refl
  listed (w ∷ ws) f = go (by_writer w) refl (f w (contains_first w ws)) (listed ws (λ v m. f v (contains_rest w v ws m)))
    where
      go : (o : Option WritePart) → by_writer w ≡ o → (q : WritePart) × (by_writer w ≡ Some q) × Contains ps q × (q.writer ≡ w)
          → map (λ (p : WritePart). p.writer) (filter_map by_writer ws) ≡ ws
          → map (λ (p : WritePart). p.writer) (cons_option o (filter_map by_writer ws)) ≡ w ∷ ws
      go None e k rest = let no : None ≡ Some k.0 = sym e ∙ k.1 in absurd (cc)
      go (Some p) e k rest =
          let same : Some p ≡ Some k.0 = sym e ∙ k.1 in
          let is : p ≡ k.0 = cc in
          ap (λ v. v ∷ map (λ (p : WritePart). p.writer) (filter_map by_writer ws)) (ap (λ (z : WritePart). z.writer) is ∙ k.3) ∙ ap (λ l. w ∷ l) rest

  abbrev writers : List WriterValue
  writers = in_writer_order (map (λ p. p.writer) ps)

  each_found : (w : WriterValue) → Contains writers w → (q : WritePart) × (by_writer w ≡ Some q) × Contains ps q × (q.writer ≡ w)
  each_found w m =
      let r = mapped_from (λ (p : WritePart). p.writer) ps w ((writers_stay (map (λ p. p.writer) ps) w).0 m) in
      subst (λ v. (q : WritePart) × (by_writer v ≡ Some q) × Contains ps q × (q.writer ≡ v)) (sym r.2) (by_found r.0 r.1)

  -- ## All of them, where those of one transaction are one

  module _ (one : (p q : WritePart) → Contains ps p → Contains ps q → p.writer.txn ≡ q.writer.txn → p ≡ q) where
    only : (p : WritePart) → Contains (filter_map by_writer writers) p → Contains ps p
    only p has =
        let r = given_only by_writer writers p has in
        (found (λ (z : WritePart). is_eq (writer_cmp z.writer r.0)) ps p r.2).0

    all : (p : WritePart) → Contains ps p → Contains (filter_map by_writer writers) p
    all p has =
        let m = has in
        let w = (writers_stay (map (λ p. p.writer) ps) p.writer).1 (contains_map (λ (z : WritePart). z.writer) ps p m) in
        let q = by_found p m in
        let same : q.0 ≡ p = one q.0 p q.2 m (ap (λ (v : WriterValue). v.txn) q.3) in
        given by_writer writers p.writer p w (q.1 ∙ ap Some same)

    less_txn : (o s : Ordering) → ordering_then o s ≡ Less → (o ≡ Equal → ⊥) → o ≡ Less
    less_txn Less s e n = refl
    less_txn Equal s e n = absurd (n refl)
    less_txn Greater s e n = absurd (cc)

    abbrev OneEach : List WriterValue → Type 0
    OneEach ws = (v w : WriterValue) → Contains ws v → Contains ws w → v.txn ≡ w.txn → v ≡ w

    one_each : OneEach writers
    one_each v w m n same =
        let p = each_found v m in
        let q = each_found w n in
        sym p.3 ∙ ap (λ (z : WritePart). z.writer) (one p.0 q.0 p.2 q.2 (ap (λ (z : WriterValue). z.txn) p.3 ∙ same ∙ ap (λ (z : WriterValue). z.txn) (sym q.3))) ∙ q.3

    all_less : (v : WriterValue) (ws : List WriterValue) → AllByRecursion (λ w. writer_cmp v w ≡ Less) ws → ((w : WriterValue) → Contains ws w → v.txn ≡ w.txn → v ≡ w)
        → AllByRecursion (λ u. txn_cmp v.txn u ≡ Less) (map (λ (w : WriterValue). w.txn) ws)
    all_less v [] h f = tt
    all_less v (w ∷ ws) h f = (
      less_txn (txn_cmp v.txn w.txn) (nat_cmp v.shard w.shard) h.0 (λ e. differ v w h.0 (f w (contains_first w ws) (equal_txn v.txn w.txn e))),
      all_less v ws h.1 (λ u m. f u (contains_rest w u ws m)),
    )
      where
        equal_txn : (t u : TxnValue) → txn_cmp t u ≡ Equal → t ≡ u
        equal_txn t u e = same_txn t u (ap is_eq e)

        differ : (v w : WriterValue) → writer_cmp v w ≡ Less → v ≡ w → ⊥
        differ v w less same =
            let is : is_eq (writer_cmp w w) ≡ false = ap is_eq (subst (λ z. writer_cmp z w ≡ Less) same less) in
            false≢true (sym is ∙ equal_self w.txn.session w.txn.number w.shard)

    by_txn : (ws : List WriterValue) → IsStrictlySortedBy writer_cmp ws → OneEach ws → IsStrictlySortedBy txn_cmp (map (λ (w : WriterValue). w.txn) ws)
    unfolding IsStrictlySortedBy
    by_txn [] h k = tt
    by_txn (w ∷ ws) h k = (all_less w ws h.0 (λ u m. k w u (contains_first w ws) (contains_rest w u ws m)), by_txn ws h.1 (λ u v m n. k u v (contains_rest w u ws m) (contains_rest w v ws n)))

    in_order : IsStrictlySortedBy txn_cmp (map (λ (p : WritePart). p.writer.txn) (filter_map by_writer writers))
    in_order =
        subst (IsStrictlySortedBy txn_cmp) (ap (map (λ (w : WriterValue). w.txn)) (sym (listed writers each_found)) ∙ mapped (filter_map by_writer writers))
        (by_txn writers (writers_ascend (map (λ p. p.writer) ps)) one_each)
      where
        mapped : (qs : List WritePart) → map (λ (w : WriterValue). w.txn) (map (λ (p : WritePart). p.writer) qs) ≡ map (λ (p : WritePart). p.writer.txn) qs
        mapped [] = refl
        mapped (q ∷ qs) = ap (λ l. q.writer.txn ∷ l) (mapped qs)

-- ## A shard of a run

-- the part is what its transaction's batch has on this shard
pub record IsHeld (top : TopologyValue) (w : Run) (node : ℕ) (p : WritePart) : Type 0 where
  pub submission : Submission
  pub batch : List Change
  pub written : IsWritten w p.writer.txn submission batch
  pub coordinator : p.writer.shard ≡ coordinator_of top.shards batch
  pub rows : p.batch ≡ part_on top batch node

none_kept : {X : Type 0} (q : X → Bool) (xs : List X) → ((x : X) → Contains xs x → q x ≡ false) → filter q xs ≡ []
none_kept q [] f = refl
none_kept {X} q (x ∷ xs) f = ap (λ b. cond b (x ∷ filter q xs) (filter q xs)) (f x (contains_first x xs)) ∙ none_kept q xs (λ y m. f y (contains_rest x y xs m))

module _ (top : TopologyValue) (w : Run) (some : 0 < top.shards) (inv : Inv top w) (node : ℕ) where
  abbrev a : ShardState
  a = w.shards node

  -- what holds of the parts of each kind holds of all that are held
  each_held : (P : WritePart → Type 0) → ((p : PreparedPart) → Contains a.prepared p → P (part_of p.txn p.coordinator p.rows))
      → ((b : BegunBallot) → Contains a.ballots b → P (part_of b.txn (shard_of top node) b.rows))
      → ((k : KeptPart) → Contains a.kept_parts k → P (part_of k.txn k.coordinator k.rows))
      → ((r : KeptBallot) → Contains a.kept_ballots r → P (part_of r.txn (shard_of top node) r.rows))
      → (p : WritePart) → Contains (parts_held top node a) p → P p
  each_held P prepared ballots kept remote p m = elim (Contains-append_cases ((own ++ begun) ++ replicas) away p m) [
    | inl l ↦ elim (Contains-append_cases (own ++ begun) replicas p l) [
      | inl k ↦ elim (Contains-append_cases own begun p k) [
        | inl i ↦ (let r = mapped_from (λ (x : PreparedPart). part_of x.txn x.coordinator x.rows) a.prepared p i in subst P (sym r.2) (prepared r.0 r.1))
        | inr i ↦ (let r = mapped_from (λ (x : BegunBallot). part_of x.txn (shard_of top node) x.rows) a.ballots p i in subst P (sym r.2) (ballots r.0 r.1))
      ]
      | inr i ↦ (let r = mapped_from (λ (x : KeptPart). part_of x.txn x.coordinator x.rows) a.kept_parts p i in subst P (sym r.2) (kept r.0 r.1))
    ]
    | inr i ↦ (let r = mapped_from (λ (x : KeptBallot). part_of x.txn (shard_of top node) x.rows) a.kept_ballots p i in subst P (sym r.2) (remote r.0 r.1))
  ]
    where
      own : List WritePart
      own = map (λ p. part_of p.txn p.coordinator p.rows) a.prepared

      begun : List WritePart
      begun = map (λ b. part_of b.txn (shard_of top node) b.rows) a.ballots

      replicas : List WritePart
      replicas = map (λ k. part_of k.txn k.coordinator k.rows) a.kept_parts

      away : List WritePart
      away = map (λ r. part_of r.txn (shard_of top node) r.rows) a.kept_ballots

  held : (p : WritePart) → Contains (parts_held top node a) p → IsHeld top w node p
  held =
      each_held (IsHeld top w node)
      (λ p m.
      let s = (inv.shards node).prepared p m in
      record { submission = s.submission; batch = s.batch; written = s.written; coordinator = s.coordinator; rows = s.rows })
      (λ b m.
      let s = (inv.shards node).ballots b m in
      record {
        submission = s.submission;
        batch = s.batch;
        written = s.written;
        coordinator = lead_number top node (dc_of top node) s.batch some s.here;
        rows = s.rows;
      })
      (λ k m.
      let s = (inv.shards node).kept_parts k m in
      record { submission = s.submission; batch = s.batch; written = s.written; coordinator = s.coordinator; rows = s.rows })
      (λ r m.
      let s = (inv.shards node).kept_ballots r m in
      record {
        submission = s.submission;
        batch = s.batch;
        written = s.written;
        coordinator = lead_number top node (dc_of top node) s.batch some s.here;
        rows = s.rows;
      })

  one_part : (p q : WritePart) → Contains (parts_unapplied top node a) p → Contains (parts_unapplied top node a) q → p.writer.txn ≡ q.writer.txn → p ≡ q
  one_part p q m n same =
      let h = held p (filter_contains (λ (x : WritePart). not (is_applied x.writer.txn a)) (parts_held top node a) p m).0 in
      let k = held q (filter_contains (λ (x : WritePart). not (is_applied x.writer.txn a)) (parts_held top node a) q n).0 in
      let batches = (same_batch top w p.writer.txn q.writer.txn h.submission k.submission h.batch k.batch inv.submitted same h.written k.written).1 in
      let shards = h.coordinator ∙ ap (coordinator_of top.shards) batches ∙ sym k.coordinator in
      let rows = h.rows ∙ ap (λ b. part_on top b node) batches ∙ sym k.rows in
      λ i. record { writer = record { txn = same i; shard = shards i }; batch = rows i }

  -- what the shard decided it has applied
  decided_applied : (t : TxnValue) → is_some (decision_of t a) ≡ true → is_applied t a ≡ true
  decided_applied t e = go (decision_of t a) refl e
    where
      go : (o : Option Decision) → decision_of t a ≡ o → is_some o ≡ true → is_applied t a ≡ true
      go None q e = absurd (false≢true e)
      go (Some d) q e =
          let r = found (λ (z : Decision). is_same_txn z.txn t) a.decided d q in
          let v = ((inv.shards node).decided d r.0).applied in
          sees_applied a t (v.0, v.1, v.2 ∙ same_txn d.txn t r.1)

  nothing_left : IsClear w node a → parts_unapplied top node a ≡ []
  nothing_left clear =
      none_kept (λ (x : WritePart). not (is_applied x.writer.txn a)) (parts_held top node a)
      (each_held (λ x. not (is_applied x.writer.txn a) ≡ false)
      (λ p m. ap not (clear.prepared p m))
      (λ b m. ap not (decided_applied b.txn (clear.ballots b m)))
      (λ k m. ap not (clear.kept_parts k m))
      (λ r m. ap not (decided_applied r.txn (clear.kept_ballots r m))))

  tells : TellsUnfinished top w node a
  tells =
      record {
        parts = λ p. (only (parts_unapplied top node a) one_part p, all (parts_unapplied top node a) one_part p);
        order = in_order (parts_unapplied top node a) one_part;
        clear = λ clear. ap (λ ps. filter_map (by_writer ps) (writers ps)) (nothing_left clear);
      }

pub shards_tell_unfinished : (top : TopologyValue) (events : List RunEvent) → 0 < top.shards → ShardsTellUnfinished top (run top events)
shards_tell_unfinished top events some node = tells top (run top events) some (every_run top events some) node
