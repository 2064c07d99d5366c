-- Steps that many messages lead to, and what a shard that doesn't know a transaction tells.
use Rattle.std.proofs.Common.{◌≡◌, ℕ, ◌+◌, ◌<◌, ◌≤◌, Bool, true, false, ◌||◌, List, [], ◌∷◌, ◌++◌, Option, Some, None, ◌⊎◌, inl, inr, refl, sym, ap, ◌∙◌, subst, arith, le_refl, le_trans, le_of_lt, lt_of_le_of_lt, map}
use Rattle.std.specs.Prelude.{find, is_some, Contains}
use Rattle.std.specs.List.{list_any}
use Rattle.std.proofs.lemmas.Bool.{false≢true}
use Rattle.logical_time.specs.Stamps.{TxnValue}
use Rattle.column_family.specs.declared.batch.Change.{Change}
use Rattle.planner.specs.Plan.{coordinator_of}
use Rattle.messages.specs.declared.envelope.Envelope.{Envelope}
use Rattle.messages.specs.Topology.{TopologyValue, dc_of, shard_of}
use Rattle.messages.specs.Words.{is_same_txn}
use Rattle.messages.specs.Shard.{ShardState, ShardStep, Role, Own, Cohort, PreparedPart, BegunBallot, Vote, Decision, Met, quiet, WaitingRead}
use Rattle.messages.specs.Known.{decision_of, prepared_part, kept_part, kept_ballot, is_known}
use Rattle.messages.specs.Commits.{hold, prepare_part}
use Rattle.messages.specs.Reads.{answer, part_at, let_go}
use Rattle.world.specs.Run.{Run, Submission}
use Rattle.world.proofs.lists.Members.{none_in_empty, contains_one, Contains-push, last_or_old, Contains-append_left, Contains-append_cases, mapped_from, any_false, find_none, same_txn_self}
use Rattle.world.proofs.growing.Growth.{NewPrepared, NewDecision, ShardGrows, Grows}
use Rattle.world.proofs.safety.Facts.{IsWritten, part_on, IsDone, DecidedOnce, PreparedBefore, RoleFits, PreparedSound, BallotSound, KeptPartSound, KeptBallotSound}
use Rattle.world.proofs.safety.Invariant.{EnvelopeSound}
use Rattle.world.proofs.safety.Able.{AddsSound, Able}
use Rattle.world.proofs.envelopes.Near.{lead_number}
use Rattle.world.proofs.safety.Lasting.{same_shard_grows, same_session_grows, written_grows, before_grows, ballot_grows}

-- ## One step after another

pub same_run : (top : TopologyValue) (w : Run) → Grows top w w
same_run top w = record { shards = λ i. same_shard_grows (w.shards i); sessions = λ i. same_session_grows top (w.sessions i); submitted = λ b m. m; transcript = λ c m. m }

pub then_grows : {a b c : ShardState} → ShardGrows a b → ShardGrows b c → ShardGrows a c
then_grows {a} {b} {c} f g =
    record {
      clock = le_trans f.clock g.clock;
      prepared = λ p m. g.prepared p (f.prepared p m);
      prepared_new = λ p m. prepared_go p (g.prepared_new p m);
      decided = λ d m. g.decided d (f.decided d m);
      decided_new = λ d m. decided_go d (g.decided_new d m);
      applied = λ v m. g.applied v (f.applied v m);
    }
  where
    prepared_go : (p : PreparedPart) → Contains b.prepared p ⊎ NewPrepared b p → Contains a.prepared p ⊎ NewPrepared a p
    prepared_go p (inl o) = f.prepared_new p o
    prepared_go p (inr k) = inr (record { above = lt_of_le_of_lt f.clock k.above; unprepared = λ g m. k.unprepared g (f.prepared g m) })

    decided_go : (d : Decision) → Contains b.decided d ⊎ NewDecision b d → Contains a.decided d ⊎ NewDecision a d
    decided_go d (inl o) = f.decided_new d o
    decided_go d (inr k) = inr (record { above = lt_of_le_of_lt f.clock k.above; undecided = λ e m. k.undecided e (f.decided e m) })

-- a state that is reached without sending
abbrev pub only : ShardState → ShardStep
only b = record { state = b; sends = [] }

pub then_fresh : (top : TopologyValue) (x : Run) (node : ℕ) (a b : ShardState) (st : ShardStep) → AddsSound top x node a (only b) → AddsSound top x node b st → AddsSound top x node a st
then_fresh top x node a b st f g =
    record {
      prepared = λ e m. elim (g.prepared e m) [ inl o ↦ f.prepared e o | inr n ↦ inr n ];
      ballots = λ e m. elim (g.ballots e m) [ inl o ↦ f.ballots e o | inr n ↦ inr n ];
      early = λ e m. elim (g.early e m) [ inl o ↦ f.early e o | inr n ↦ inr n ];
      votes = λ e m. elim (g.votes e m) [ inl o ↦ f.votes e o | inr n ↦ inr n ];
      decided = λ e m. elim (g.decided e m) [ inl o ↦ f.decided e o | inr n ↦ inr n ];
      once = g.once;
      applied = λ e m. elim (g.applied e m) [ inl o ↦ f.applied e o | inr n ↦ inr n ];
      kept_parts = λ e m. elim (g.kept_parts e m) [ inl o ↦ f.kept_parts e o | inr n ↦ inr n ];
      kept_ballots = λ e m. elim (g.kept_ballots e m) [ inl o ↦ f.kept_ballots e o | inr n ↦ inr n ];
      met = λ e m. elim (g.met e m) [ inl o ↦ f.met e o | inr n ↦ inr n ];
      askers = λ e m. elim (g.askers e m) [ inl o ↦ f.askers e o | inr n ↦ inr n ];
      sends = g.sends;
    }

-- something is added first, and then the step is made
pub added : (top : TopologyValue) (w : Run) (node : ℕ) (a b : ShardState) (st : ShardStep) → ShardGrows a b
    → ((x : Run) → Grows top w x → st.state.clock ≤ (x.shards node).clock → AddsSound top x node a (only b)) → Able top w node b st → Able top w node a st
added top w node a b st g f k =
    record {
      grows = then_grows g k.grows;
      fresh = λ x gr at. then_fresh top x node a b st (f x gr (subst (λ z. st.state.clock ≤ z.clock) (sym at) (le_refl _))) (k.fresh x gr at);
    }

-- each of these is old, or right
abbrev pub AreRight : {X : Type 0} → (X → Type 0) → List X → List X → Type 0
AreRight {X} P before after = (x : X) → Contains after x → Contains before x ⊎ P x

-- nothing is new; one is, and it is right
pub none_new : {X : Type 0} (P : X → Type 0) (xs : List X) → AreRight P xs xs
none_new P xs x m = inl m

pub one_new : {X : Type 0} (P : X → Type 0) (xs : List X) (y : X) → P y → AreRight P xs (xs ++ y ∷ [])
one_new P xs y right x m = elim (last_or_old x y xs m) [ inl o ↦ inl o | inr q ↦ inr (subst P (sym q) right) ]

-- the second differs from the first in kept inputs alone: in votes, notices, answers, or what was replicated
pub record Alike (a b : ShardState) : Type 0 where
  pub clock : b.clock ≡ a.clock
  pub prepared : b.prepared ≡ a.prepared
  pub decided : b.decided ≡ a.decided
  pub applied : b.applied ≡ a.applied
  pub askers : b.askers ≡ a.askers

pub alike_self : (a : ShardState) → Alike a a
alike_self a = record { clock = refl; prepared = refl; decided = refl; applied = refl; askers = refl }

pub alike_grows : (a b : ShardState) → Alike a b → ShardGrows a b
alike_grows a b k =
    record {
      clock = subst (λ c. a.clock ≤ c) (sym k.clock) (le_refl a.clock);
      prepared = λ p m. subst (λ l. Contains l p) (sym k.prepared) m;
      prepared_new = λ p m. inl (subst (λ l. Contains l p) k.prepared m);
      decided = λ d m. subst (λ l. Contains l d) (sym k.decided) m;
      decided_new = λ d m. inl (subst (λ l. Contains l d) k.decided m);
      applied = λ v m. subst (λ l. Contains l v) (sym k.applied) m;
    }

-- the second has besides only inputs that are right
pub record Inputs (top : TopologyValue) (x : Run) (node : ℕ) (a b : ShardState) : Type 0 where
  pub early : AreRight (λ (v : Vote). PreparedBefore x v.node v.txn (x.shards node).clock) a.early b.early
  pub votes : AreRight (λ (v : Vote). PreparedBefore x v.node v.txn (x.shards node).clock) a.votes b.votes
  pub kept_parts : AreRight (KeptPartSound top x node) a.kept_parts b.kept_parts
  pub kept_ballots : AreRight (KeptBallotSound top x node (x.shards node).clock) a.kept_ballots b.kept_ballots
  pub met : AreRight (λ (m : Met). IsDone top x (dc_of top node) m.dependency (x.shards node).clock) a.met b.met

-- an input is stored first, and then the step is made
pub stores : (top : TopologyValue) (w : Run) (node : ℕ) (a b : ShardState) (st : ShardStep) → Alike a b → b.ballots ≡ a.ballots → DecidedOnce a.decided
    → ((x : Run) → Grows top w x → st.state.clock ≤ (x.shards node).clock → Inputs top x node a b) → Able top w node b st → Able top w node a st
stores top w node a b st like ballots once f k =
    added top w node a b st (alike_grows a b like)
    (λ x gr le.
    let new = f x gr le in
    record {
      prepared = λ e m. inl (subst (λ l. Contains l e) like.prepared m);
      ballots = λ e m. inl (subst (λ l. Contains l e) ballots m);
      early = new.early;
      votes = new.votes;
      decided = λ e m. inl (subst (λ l. Contains l e) like.decided m);
      once = subst DecidedOnce (sym like.decided) once;
      applied = λ e m. inl (subst (λ l. Contains l e) like.applied m);
      kept_parts = new.kept_parts;
      kept_ballots = new.kept_ballots;
      met = new.met;
      askers = λ e m. inl (subst (λ l. Contains l e) like.askers m);
      sends = λ e m. absurd (none_in_empty e m);
    }) k

-- ## What isn't known

pub absent : {X : Type 0} (f : X → TxnValue) (t : TxnValue) (xs : List X) → list_any (λ x. is_same_txn (f x) t) xs ≡ false → (x : X) → Contains xs x → f x ≡ t → ⊥
absent f t xs e x m q =
    let p = any_false (λ x. is_same_txn (f x) t) xs e x m in
    false≢true (sym p ∙ ap (λ u. is_same_txn u t) q ∙ same_txn_self t)

pub not_found : {X : Type 0} (p : X → Bool) (xs : List X) → is_some (find p xs) ≡ false → list_any p xs ≡ false
not_found {X} p xs e = find_none p xs (go (find p xs) e)
  where
    go : (o : Option X) → is_some o ≡ false → o ≡ None
    go None e = refl
    go (Some x) e = absurd (cc)

-- each part of the test whether a transaction is known
abbrev Unknown : TxnValue → ShardState → Type 0
Unknown t a =
    (list_any (λ b. is_same_txn b.txn t) a.ballots ≡ false) × (is_some (prepared_part t a) ≡ false) × (is_some (kept_part t a) ≡ false)
    × (is_some (kept_ballot t a) ≡ false) × (is_some (decision_of t a) ≡ false)

five : (b p k r d : Bool) → (b || p || k || r || d) ≡ false → (b ≡ false) × (p ≡ false) × (k ≡ false) × (r ≡ false) × (d ≡ false)
five false false false false false e = (refl, refl, refl, refl, refl)
five true p k r d e = absurd (cc)
five false true k r d e = absurd (cc)
five false false true r d e = absurd (cc)
five false false false true d e = absurd (cc)
five false false false false true e = absurd (cc)

unknown : (t : TxnValue) (a : ShardState) → is_known t a ≡ false → Unknown t a
unknown t a e =
    five (list_any (λ b. is_same_txn b.txn t) a.ballots) (is_some (prepared_part t a)) (is_some (kept_part t a)) (is_some (kept_ballot t a)) (is_some (decision_of t a)) e

pub unbegun : (t : TxnValue) (a : ShardState) → is_known t a ≡ false → (b : BegunBallot) → Contains a.ballots b → b.txn ≡ t → ⊥
unbegun t a e = absent (λ b. b.txn) t a.ballots (unknown t a e).0

pub unprepared : (t : TxnValue) (a : ShardState) → is_known t a ≡ false → (p : PreparedPart) → Contains a.prepared p → p.txn ≡ t → ⊥
unprepared t a e = absent (λ p. p.txn) t a.prepared (not_found (λ p. is_same_txn p.txn t) a.prepared (unknown t a e).1)

-- no decision is found, so there is none
pub undecided_at : (t : TxnValue) (a : ShardState) → is_some (decision_of t a) ≡ false → (d : Decision) → Contains a.decided d → d.txn ≡ t → ⊥
undecided_at t a e = absent (λ d. d.txn) t a.decided (not_found (λ d. is_same_txn d.txn t) a.decided e)

pub undecided : (t : TxnValue) (a : ShardState) → is_known t a ≡ false → (d : Decision) → Contains a.decided d → d.txn ≡ t → ⊥
undecided t a e = undecided_at t a (unknown t a e).4

-- ## Nothing but the clock, and envelopes

pub clock_grows : (n : ℕ) (a : ShardState) (low : ℕ) (ws : List WaitingRead) → a.clock ≤ n → ShardGrows a (record a { clock = n; low = low; waiting = ws })
clock_grows n a low ws le = record { clock = le; prepared = λ p m. m; prepared_new = λ p m. inl m; decided = λ d m. m; decided_new = λ d m. inl m; applied = λ v m. m }

-- other reads may wait, and the horizon may be another
pub waits_able : (top : TopologyValue) (w : Run) (node n : ℕ) (a : ShardState) (low : ℕ) (ws : List WaitingRead) (sends : List Envelope) → a.clock < n → DecidedOnce a.decided
    → ((x : Run) → Grows top w x → x.shards node ≡ record a { clock = n; low = low; waiting = ws } → (e : Envelope) → Contains sends e → EnvelopeSound top x e)
    → Able top w node a (record { state = record a { clock = n; low = low; waiting = ws }; sends = sends })
waits_able top w node n a low ws sends lt once f =
    record {
      grows = clock_grows n a low ws (le_of_lt lt);
      fresh = λ x gr at.
          record {
            prepared = λ e m. inl m;
            ballots = λ e m. inl m;
            early = λ e m. inl m;
            votes = λ e m. inl m;
            decided = λ e m. inl m;
            once = once;
            applied = λ e m. inl m;
            kept_parts = λ e m. inl m;
            kept_ballots = λ e m. inl m;
            met = λ e m. inl m;
            askers = λ e m. inl m;
            sends = f x gr at;
          };
    }

pub sends_able : (top : TopologyValue) (w : Run) (node n : ℕ) (a : ShardState) (sends : List Envelope) → a.clock < n → DecidedOnce a.decided
    → ((x : Run) → Grows top w x → x.shards node ≡ record a { clock = n } → (e : Envelope) → Contains sends e → EnvelopeSound top x e)
    → Able top w node a (record { state = record a { clock = n }; sends = sends })
sends_able top w node n a sends lt once f = waits_able top w node n a a.low a.waiting sends lt once f

-- one envelope is sent
pub answer_able : (top : TopologyValue) (w : Run) (node n : ℕ) (a : ShardState) (e : Envelope) → a.clock < n → DecidedOnce a.decided
    → ((x : Run) → Grows top w x → x.shards node ≡ record a { clock = n } → EnvelopeSound top x e) → Able top w node a (answer n a e)
answer_able top w node n a e lt once f =
    sends_able top w node n a (e ∷ []) lt once (λ x gr at u m. subst (λ z. EnvelopeSound top x z) (sym (contains_one e u m)) (f x gr at))

-- what reads are told is right by what is known of their shard: nothing is to be said of it here
pub told_sound : (top : TopologyValue) (x : Run) (node n : ℕ) (a : ShardState) (ys : List WaitingRead) (e : Envelope) → Contains (map (part_at node n a) ys) e
    → EnvelopeSound top x e
told_sound top x node n a ys e m = let q = mapped_from (part_at node n a) ys e m in subst (λ z. EnvelopeSound top x z) (sym q.2) tt

-- reads are let go
pub let_go_able : (top : TopologyValue) (w : Run) (node n : ℕ) (a : ShardState) (t : TxnValue) (p : WaitingRead → Bool) (sends : List Envelope) → a.clock < n
    → DecidedOnce a.decided
    → ((x : Run) → Grows top w x → x.shards node ≡ (let_go node n a t p sends).state → (e : Envelope) → Contains sends e → EnvelopeSound top x e)
    → Able top w node a (let_go node n a t p sends)
let_go_able top w node n a t p sends lt once f =
    waits_able top w node n a _ _ _ lt once
    (λ x gr at e m. elim (Contains-append_cases sends _ e m) [
      | inl o ↦ f x gr at e o
      | inr o ↦ told_sound top x node n a _ e o
    ])

pub quiet_able : (top : TopologyValue) (w : Run) (node n : ℕ) (a : ShardState) → a.clock < n → DecidedOnce a.decided → Able top w node a (quiet n a)
quiet_able top w node n a lt once = sends_able top w node n a [] lt once (λ x gr at e m. absurd (none_in_empty e m))

-- ## A new mark

new_prepared : (a : ShardState) (p : PreparedPart) → a.clock < p.time → ((g : PreparedPart) → Contains a.prepared g → g.txn ≡ p.txn → ⊥)
    → (g : PreparedPart) → Contains (a.prepared ++ p ∷ []) g → Contains a.prepared g ⊎ NewPrepared a g
new_prepared a p lt none g m = elim (last_or_old g p a.prepared m) [ inl o ↦ inl o | inr q ↦ inr (subst (λ z. NewPrepared a z) (sym q) (record { above = lt; unprepared = none })) ]

prepared_one : (ps : List PreparedPart) (p : PreparedPart) → ((g : PreparedPart) → Contains ps g → g.txn ≡ p.txn → ⊥) → (g : PreparedPart) → Contains (ps ++ p ∷ []) g → g.txn ≡ p.txn → g ≡ p
prepared_one ps p none g m q = elim (last_or_old g p ps m) [ inl o ↦ absurd (none g o q) | inr e ↦ e ]

-- A cohort's part is prepared, marked with the clock, and voted for
pub prepare_able : (top : TopologyValue) (w : Run) (node n : ℕ) (a : ShardState) (t : TxnValue) (rows : List Change) (c : ℕ) (role : Role) (b : Submission) (batch : List Change)
    → a.clock < n → DecidedOnce a.decided
    → ((p : PreparedPart) → Contains a.prepared p → p.txn ≡ t → ⊥) → ((d : Decision) → Contains a.decided d → d.txn ≡ t → ⊥)
    → IsWritten w t b batch → c ≡ coordinator_of top.shards batch → rows ≡ part_on top batch node → RoleFits role top batch node → (role ≡ Cohort → dc_of top node ≡ b.home)
    → Able top w node a (prepare_part top node n a t rows c role)
prepare_able top w node n a t rows c role b batch lt once none never written coord r fits origin =
    let p : PreparedPart = record { txn = t; rows = rows; coordinator = c; time = n; role = role } in
    record {
      grows = record {
        clock = le_of_lt lt;
        prepared = λ e m. Contains-append_left a.prepared (p ∷ []) e m;
        prepared_new = new_prepared a p lt none;
        decided = λ d m. m;
        decided_new = λ d m. inl m;
        applied = λ v m. m;
      };
      fresh = λ x gr at.
          let le : n ≤ (x.shards node).clock = subst (λ z. n ≤ z.clock) (sym at) (le_refl n) in
          let ps : PreparedSound top x node p =
          record {
            submission = b;
            batch = batch;
            written = written_grows gr written;
            coordinator = coord;
            rows = r;
            role = fits;
            origin = origin;
            time = le;
            one = λ g m q. prepared_one a.prepared p none g (subst (λ z. Contains z.prepared g) at m) q;
            below = λ d m q. absurd (never d (subst (λ z. Contains z.decided d) at m) q);
          } in
          let voted : PreparedBefore x node t (n + 1) = record { part = p; among = subst (λ z. Contains z.prepared p) (sym at) (Contains-push a.prepared p); txn = refl; time = omega arith } in
          record {
            prepared = λ e m. elim (last_or_old e p a.prepared m) [ inl o ↦ inl o | inr q ↦ inr (subst (λ z. PreparedSound top x node z) (sym q) ps) ];
            ballots = λ e m. inl m;
            early = λ e m. inl m;
            votes = λ e m. inl m;
            decided = λ e m. inl m;
            once = once;
            applied = λ e m. inl m;
            kept_parts = λ e m. inl m;
            kept_ballots = λ e m. inl m;
            met = λ e m. inl m;
            askers = λ e m. inl m;
            sends = λ e m. subst (λ z. EnvelopeSound top x z) (sym (contains_one _ e m)) voted;
          };
    }

-- ## A ballot

own_cohort : Own ≡ Cohort → ⊥
own_cohort e = cc

-- the coordinator keeps the ballot and its own part, marked with the clock
pub hold_able : (top : TopologyValue) (w : Run) (node n : ℕ) (a : ShardState) (b : BegunBallot) (counted : List Vote) (sends : List Envelope)
    → 0 < top.shards → a.clock < n → DecidedOnce a.decided
    → ((p : PreparedPart) → Contains a.prepared p → p.txn ≡ b.txn → ⊥) → ((d : Decision) → Contains a.decided d → d.txn ≡ b.txn → ⊥)
    → BallotSound top w node n b → ((v : Vote) → Contains counted v → PreparedBefore w v.node v.txn n)
    → ((x : Run) → Grows top w x → x.shards node ≡ (hold top node n a b counted sends).state → (e : Envelope) → Contains sends e → EnvelopeSound top x e)
    → Able top w node a (hold top node n a b counted sends)
hold_able top w node n a b counted sends some lt once none never k voted f =
    let p : PreparedPart = record { txn = b.txn; rows = b.rows; coordinator = shard_of top node; time = n; role = Own } in
    record {
      grows = record {
        clock = le_of_lt lt;
        prepared = λ e m. Contains-append_left a.prepared (p ∷ []) e m;
        prepared_new = new_prepared a p lt none;
        decided = λ d m. m;
        decided_new = λ d m. inl m;
        applied = λ v m. m;
      };
      fresh = λ x gr at.
          let le : n ≤ (x.shards node).clock = subst (λ z. n ≤ z.clock) (sym at) (le_refl n) in
          let bs = ballot_grows gr le k in
          let own = lead_number top node (dc_of top node) k.batch some k.here in
          let ps : PreparedSound top x node p =
          record {
            submission = k.submission;
            batch = k.batch;
            written = written_grows gr k.written;
            coordinator = own;
            rows = k.rows;
            role = own;
            origin = λ q. absurd (own_cohort q);
            time = le;
            one = λ g m q. prepared_one a.prepared p none g (subst (λ z. Contains z.prepared g) at m) q;
            below = λ d m q. absurd (never d (subst (λ z. Contains z.decided d) at m) q);
          } in
          record {
            prepared = λ e m. elim (last_or_old e p a.prepared m) [ inl o ↦ inl o | inr q ↦ inr (subst (λ z. PreparedSound top x node z) (sym q) ps) ];
            ballots = λ e m. elim (last_or_old e b a.ballots m) [ inl o ↦ inl o | inr q ↦ inr (subst (λ z. BallotSound top x node (x.shards node).clock z) (sym q) bs) ];
            early = λ e m. inl m;
            votes = λ e m. elim (Contains-append_cases a.votes counted e m) [ inl o ↦ inl o | inr v ↦ inr (before_grows gr le (voted e v)) ];
            decided = λ e m. inl m;
            once = once;
            applied = λ e m. inl m;
            kept_parts = λ e m. inl m;
            kept_ballots = λ e m. inl m;
            met = λ e m. inl m;
            askers = λ e m. inl m;
            sends = f x gr at;
          };
    }
