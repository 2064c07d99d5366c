-- How many there can be at most, by the submissions: decisions of a shard, transactions that a read asks for, cohorts and
-- dependencies of a ballot.
use Rattle.std.proofs.Common.{◌≡◌, ◌∙◌, ℕ, ◌+◌, ◌<◌, ◌≤◌, true, eq-eqb, List, [], ◌∷◌, map, length, ◌⊎◌, inl, inr, sym, ap, subst, arith, not, ◌&&◌}
use Rattle.std.specs.Prelude.{◌==◌, filter, Contains}
use Rattle.std.specs.declared.cmp.Ordering.TheVariants.{Less}
use Rattle.std.specs.List.{range_with_len, AllByRecursion}
use Rattle.std.specs.List.Sorted.{IsStrictlySortedBy}
use Rattle.std.specs.Ordering.{is_eq}
use Rattle.std.proofs.lemmas.Bool.{false≢true}
use Rattle.std.proofs.lemmas.List.FromFn.{length-range_with_len}
use Rattle.logical_time.specs.Stamps.{TxnValue, WriterValue, writer_cmp}
use Rattle.column_family.specs.declared.batch.Change.{Change}
use Rattle.slice.specs.declared.read.Read.{Read}
use Rattle.planner.specs.Plan.{coordinator_of, cohorts_of, is_touched}
use Rattle.messages.specs.declared.op.Op.TheVariants as op
use Rattle.messages.specs.declared.body.Body.{Body}
use Rattle.messages.specs.declared.body.Body.TheVariants.{Begin, ReplBegin}
use Rattle.messages.specs.declared.envelope.Envelope.{Envelope}
use Rattle.messages.specs.Topology.{TopologyValue, dc_of, shard_of, shard_count}
use Rattle.messages.specs.Shard.{Decision}
use Rattle.messages.specs.Reads.{marks_below, asked_below}
use Rattle.messages.proofs.WritersInOrder.{writers_ascend}
use Rattle.world.specs.Run.{Run, Submission}
use Rattle.world.specs.Drains.{is_led, DecisionsAreCapped, most_dependencies, sizes_of}
use Rattle.world.proofs.lists.Members.{none_in_empty, contains_first, contains_rest, contains_cases, contains_filter}
use Rattle.world.proofs.safety.Facts.{txn_of, lead, DecidedOnce}
use Rattle.world.proofs.envelopes.Near.{lead_number}
use Rattle.world.proofs.safety.Invariant.{Says, Inv}
use Rattle.world.proofs.keeping.AskedMarks.{writer_at, asked_prepared}
use Rattle.world.proofs.in_code.Unfinished.{equal_self}
use Rattle.world.proofs.lists.Totals.{total_below}
use Rattle.world.proofs.drains.NewDecisions.{filter_short}
use Rattle.world.proofs.drains.DecisionDescents.{Fits, AreWithin, IsWithin}

-- ## Lists

-- one of a list taken out: what else there is stays
taken_out : {X : Type 0} (x : X) (xs : List X) → Contains xs x
    → (ys : List X) × (length xs ≡ length ys + 1) × ((y : X) → Contains xs y → (y ≡ x) ⊎ Contains ys y)
taken_out x [] m = absurd (none_in_empty x m)
taken_out x (z ∷ zs) m = elim (contains_cases z x zs m) [
  | inl q ↦ (zs, omega arith, λ y n. elim (contains_cases z y zs n) [ inl p ↦ inl (p ∙ sym q) | inr o ↦ inr o ])
  | inr later ↦
      let r = taken_out x zs later in
      let count = r.1 in (
        z ∷ r.0,
        omega arith,
        λ y n. elim (contains_cases z y zs n) [
          | inl p ↦ inr (subst (Contains (z ∷ r.0)) (sym p) (contains_first z r.0))
          | inr o ↦ elim (r.2 y o) [ inl p ↦ inl p | inr i ↦ inr (contains_rest z y r.0 i) ]
        ],
      )
]

-- no two of these have one transaction
abbrev Apart : {X : Type 0} → (X → TxnValue) → List X → Type 0
Apart txn [] = Unit {0}
Apart txn (x ∷ xs) = ((y : _) → Contains xs y → txn y ≡ txn x → ⊥) × Apart txn xs

-- then they are no more than the submissions that have their transactions
no_more : {X : Type 0} (txn : X → TxnValue) (xs : List X) (bs : List Submission) → Apart txn xs
    → ((x : X) → Contains xs x → (b : Submission) × Contains bs b × (txn_of b ≡ txn x)) → length xs ≤ length bs
no_more txn [] bs apart of = omega arith
no_more txn (x ∷ xs) bs (new, apart) of =
    let b = of x (contains_first x xs) in
    let r = taken_out b.0 bs b.1 in
    let rest = no_more txn xs r.0 apart (λ y m. let c = of y (contains_rest x y xs m) in elim (r.2 c.0 c.1) [
      | inl q ↦ absurd (new y m (sym c.2 ∙ ap txn_of q ∙ b.2))
      | inr i ↦ (c.0, i, c.2)
    ]) in
    let count = r.1 in
    omega arith

-- ## Writers in order

less_other : (v w : WriterValue) → writer_cmp v w ≡ Less → w ≡ v → ⊥
less_other v w less same =
    false≢true (sym (ap is_eq (subst (λ (z : WriterValue). writer_cmp v z ≡ Less) same less)) ∙ equal_self v.txn.session v.txn.number v.shard)

each_less : (v : WriterValue) (ws : List WriterValue) → AllByRecursion (λ w. writer_cmp v w ≡ Less) ws → (w : WriterValue) → Contains ws w → writer_cmp v w ≡ Less
each_less v [] all w m = absurd (none_in_empty w m)
each_less v (x ∷ ws) all w m = elim (contains_cases x w ws m) [
  | inl q ↦ subst (λ (z : WriterValue). writer_cmp v z ≡ Less) (sym q) all.0
  | inr r ↦ each_less v ws all.1 w r
]

-- in order, and each transaction with one coordinator
ascending_apart : (ws : List WriterValue) → IsStrictlySortedBy writer_cmp ws
    → ((v u : WriterValue) → Contains ws v → Contains ws u → v.txn ≡ u.txn → v ≡ u) → Apart (λ (v : WriterValue). v.txn) ws
unfolding IsStrictlySortedBy
ascending_apart [] h one = tt
ascending_apart (w ∷ ws) h one = (
  λ u m same. less_other w u (each_less w ws h.0 u m) (one u w (contains_rest w u ws m) (contains_first w ws) same),
  ascending_apart ws h.1 (λ u v m n. one u v (contains_rest w u ws m) (contains_rest w v ws n)),
)

-- ## Decisions

decided_apart : (ds : List Decision) → DecidedOnce ds → Apart (λ (d : Decision). d.txn) ds
decided_apart [] once = tt
decided_apart (d ∷ ds) once = (once.0, decided_apart ds once.1)

-- what a shard decides it coordinates
led : (top : TopologyValue) (node : ℕ) (b : Submission) (batch : List Change) → 0 < top.shards → b.op ≡ op.Batch batch → node ≡ lead top (dc_of top node) batch
    → is_led top node b.op ≡ true
led top node b batch some is here =
    ap (is_led top node) is ∙ eq-eqb (coordinator_of top.shards batch) (shard_of top node) (sym (lead_number top node (dc_of top node) batch some here))

pub decisions_capped : (top : TopologyValue) (w : Run) → 0 < top.shards → Inv top w → DecisionsAreCapped top w
decisions_capped top w some inv =
    total_below (λ node. length (w.shards node).decided) (λ node. length (filter (λ (b : Submission). is_led top node b.op) w.submitted)) (shard_count top) each
  where
    each : (node : ℕ) → length (w.shards node).decided ≤ length (filter (λ (b : Submission). is_led top node b.op) w.submitted)
    each node =
        no_more (λ (d : Decision). d.txn) (w.shards node).decided (filter (λ (b : Submission). is_led top node b.op) w.submitted)
        (decided_apart (w.shards node).decided (inv.shards node).once)
        (λ d m.
        let s = (inv.shards node).decided d m in (
          s.submission,
          contains_filter (λ (b : Submission). is_led top node b.op) w.submitted s.submission s.written.among (led top node s.submission s.batch some s.written.op s.here),
          s.written.txn,
        ))

-- ## Ballots

longest : (b : Submission) (bs : List Submission) → Contains bs b → length b.dependencies ≤ most_dependencies bs
longest b [] m = absurd (none_in_empty b m)
longest b (c ∷ bs) m = elim (contains_cases c b bs m) [
  | inl q ↦ let same : length b.dependencies ≡ length c.dependencies = ap (λ (z : Submission). length z.dependencies) q in omega arith
  | inr r ↦ let rest = longest b bs r in omega arith
]

cohorts_capped : (shards : ℕ) (batch : List Change) → length (cohorts_of shards batch) ≤ shards
cohorts_capped shards batch =
    let short = filter_short (λ s. not (s == coordinator_of shards batch) && is_touched shards batch s) (range_with_len 0 shards) in
    let all = length-range_with_len 0 shards in
    omega arith

ballot_fits : (top : TopologyValue) (w : Run) (cohorts : List ℕ) (dependencies : List WriterValue) (b : Submission) (batch : List Change) → Contains w.submitted b
    → cohorts ≡ cohorts_of top.shards batch → dependencies ≡ b.dependencies → Fits top (sizes_of w.submitted) cohorts dependencies
ballot_fits top w cohorts dependencies b batch m q r = (
  subst (λ (l : List ℕ). length l ≤ top.shards) (sym q) (cohorts_capped top.shards batch),
  subst (λ (l : List WriterValue). length l ≤ most_dependencies w.submitted) (sym r) (longest b w.submitted m),
)

-- ## What shards keep and messages say

module _ (top : TopologyValue) (w : Run) (inv : Inv top w) where
  -- of one transaction a shard prepared one part
  one_writer : (node time : ℕ) (read : Read) (v u : WriterValue) → Contains (asked_below (w.shards node) time read) v → Contains (asked_below (w.shards node) time read) u
      → v.txn ≡ u.txn → v ≡ u
  one_writer node time read v u m n same =
      let p = asked_prepared (w.shards node) time read v m in
      let q = asked_prepared (w.shards node) time read u n in
      let one = ((inv.shards node).prepared q.0 q.1).one p.0 p.1 (sym (ap (λ (z : WriterValue). z.txn) p.2) ∙ same ∙ ap (λ (z : WriterValue). z.txn) q.2) in
      p.2 ∙ ap writer_at one ∙ sym q.2

  asked_capped : (node time : ℕ) (read : Read) → length (asked_below (w.shards node) time read) ≤ length w.submitted
  asked_capped node time read =
      no_more (λ (v : WriterValue). v.txn) (asked_below (w.shards node) time read) w.submitted
      (ascending_apart (asked_below (w.shards node) time read) (writers_ascend (map writer_at (marks_below (w.shards node) time read))) (one_writer node time read))
      (λ v m.
      let p = asked_prepared (w.shards node) time read v m in
      let s = (inv.shards node).prepared p.0 p.1 in
      (s.submission, s.written.among, s.written.txn ∙ sym (ap (λ (z : WriterValue). z.txn) p.2)))

  pub shard_within : (node : ℕ) → AreWithin top (sizes_of w.submitted) (w.shards node)
  shard_within node =
      record {
        ballots =
            λ b m. let s = (inv.shards node).ballots b m in ballot_fits top w b.cohorts b.dependencies s.submission s.batch s.written.among s.cohorts s.dependencies;
        kept =
            λ r m.
            let s = (inv.shards node).kept_ballots r m in ballot_fits top w r.cohorts r.dependencies s.submission s.batch s.written.among s.cohorts s.dependencies;
        asked = asked_capped node;
      }

  body_within : (from to time : ℕ) (b : Body) → Says top w from to time b → IsWithin top (sizes_of w.submitted) b
  body_within from to time (Begin t rows cohorts dependencies) s = ballot_fits top w cohorts dependencies s.submission s.batch s.written.among s.cohorts s.dependencies
  body_within from to time (ReplBegin cohorts t rows stamp dependencies) s =
      ballot_fits top w cohorts dependencies s.submission s.batch s.written.among s.cohorts s.dependencies
  body_within from to time _ s = tt

  pub message_within : (e : Envelope) → Contains w.sent e → IsWithin top (sizes_of w.submitted) e.body
  message_within e m = body_within e.from e.to e.time e.body (inv.sent e m)
