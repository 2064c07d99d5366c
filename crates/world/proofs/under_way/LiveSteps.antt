-- What a step leaves under way: steps that many messages lead to, and the ballots of a shard.
use Rattle.std.proofs.Common.{◌≡◌, ℕ, Bool, true, false, cond, List, [], ◌∷◌, map, Option, Some, None, refl, sym, ap, ◌∙◌, subst, subst₂}
use Rattle.std.specs.Prelude.{filter, Contains}
use Rattle.logical_time.specs.Stamps.{StampValue, TxnValue}
use Rattle.column_family.specs.declared.batch.Change.{Change}
use Rattle.planner.specs.Plan.{cohorts_of}
use Rattle.messages.specs.declared.envelope.Envelope.{Envelope}
use Rattle.messages.specs.Topology.{TopologyValue, dc_of}
use Rattle.messages.specs.Shard.{ShardState, ShardStep, BegunBallot, KeptBallot, WaitingRead}
use Rattle.messages.specs.Reads.{part_at, without, lessened, is_free}
use Rattle.messages.specs.Replication.{ballot_of}
use Rattle.world.specs.Run.{Run, Submission}
use Rattle.world.proofs.lists.Members.{none_in_empty, contains_one, mapped_from, filter_contains}
use Rattle.world.proofs.safety.Facts.{IsWritten, lead, StampFits, BallotSound, KeptBallotSound}
use Rattle.world.proofs.envelopes.About.{kind_of}
use Rattle.world.proofs.under_way.Underway.{Leads, Round, ShardLive, SaysLive}

-- the step's state and what it sends stand in the run
pub record Here (x : Run) (node : ℕ) (st : ShardStep) : Type 0 where
  pub state : x.shards node ≡ st.state
  pub sent : (e : Envelope) → Contains st.sends e → Contains x.sent e

-- what the envelope rests on holds
abbrev pub Fine : TopologyValue → Run → Envelope → Type 0
Fine top x e = SaysLive top x e.from e.to (kind_of e.body)

-- what a step leaves in the run after it
pub record Left (top : TopologyValue) (x : Run) (node : ℕ) (st : ShardStep) : Type 0 where
  pub live : ShardLive top x node st.state
  pub sends : (e : Envelope) → Contains st.sends e → Fine top x e

-- ## The clock, the horizon, the reads that wait, and envelopes

pub clock_live : {top : TopologyValue} {x : Run} {node : ℕ} {a : ShardState} (n low : ℕ) (ws : List WaitingRead) → ShardLive top x node a → ShardLive top x node (record a { clock = n; low = low; waiting = ws })
clock_live n low ws k =
    let e = k.entries in
    record {
      entries =
          record {
            prepared = e.prepared;
            ballots = e.ballots;
            kept_parts = e.kept_parts;
            kept_ballots = e.kept_ballots;
            early = e.early;
            votes = e.votes;
            notices = e.notices;
            decided = e.decided;
            applied = e.applied;
            askers = e.askers;
            told = e.told;
          };
      counted = k.counted;
      voted = k.voted;
      ready = k.ready;
    }

pub quiet_left : {top : TopologyValue} {x : Run} {node : ℕ} {a : ShardState} (n : ℕ) → ShardLive top x node a → Left top x node (record { state = record a { clock = n }; sends = [] })
quiet_left {a = a} n k = record { live = clock_live n a.low a.waiting k; sends = λ e m. absurd (none_in_empty e m) }

pub answer_left : {top : TopologyValue} {x : Run} {node : ℕ} {a : ShardState} (n : ℕ) (e : Envelope) → Fine top x e → ShardLive top x node a → Left top x node (record { state = record a { clock = n }; sends = e ∷ [] })
answer_left {top = top} {x = x} {a = a} n e f k =
    record { live = clock_live n a.low a.waiting k; sends = λ u m. subst (λ z. Fine top x z) (sym (contains_one e u m)) f }

-- ## Reads that are let go

-- each waiting read's second round was begun
abbrev pub Rounds : Run → List WaitingRead → Type 0
Rounds x ws = (y : WaitingRead) → Contains ws y → Round (x.sessions y.session) y.number y.time

abbrev pub less : TxnValue → (WaitingRead → Bool) → WaitingRead → WaitingRead
less t p y = cond (p y) (record y { left = without t y.left }) y

pub less_from : (t : TxnValue) (p : WaitingRead → Bool) (y : WaitingRead) → ((less t p y).session ≡ y.session) × ((less t p y).number ≡ y.number) × ((less t p y).time ≡ y.time)
less_from t p y = go (p y)
  where
    go : (b : Bool) → ((cond b (record y { left = without t y.left }) y).session ≡ y.session) × ((cond b (record y { left = without t y.left }) y).number ≡ y.number) × ((cond b (record y { left = without t y.left }) y).time ≡ y.time)
    go true = (refl, refl, refl)
    go false = (refl, refl, refl)

pub less_equal : (t : TxnValue) (p : WaitingRead → Bool) (y q : WaitingRead) → q ≡ less t p y → (q.session ≡ y.session) × (q.number ≡ y.number) × (q.time ≡ y.time)
less_equal t p y q e =
    let r = less_from t p y in (
      ap (λ (z : WaitingRead). z.session) e ∙ r.0,
      ap (λ (z : WaitingRead). z.number) e ∙ r.1,
      ap (λ (z : WaitingRead). z.time) e ∙ r.2,
    )

pub let_go_sends : (top : TopologyValue) (x : Run) (node n : ℕ) (a : ShardState) (t : TxnValue) (p : WaitingRead → Bool) (ws : List WaitingRead) → Rounds x ws
    → (e : Envelope) → Contains (map (part_at node n a) (filter is_free (lessened t p ws))) e → Fine top x e
let_go_sends top x node n a t p ws f e m =
    let q = mapped_from (part_at node n a) (filter is_free (lessened t p ws)) e m in
    let k = filter_contains is_free (lessened t p ws) q.0 q.1 in
    let y = mapped_from (λ x. cond (p x) (record x { left = without t x.left }) x) ws q.0 k.0 in
    let r = less_equal t p y.0 q.0 y.2 in
    subst (λ z. Fine top x z) (sym q.2)
    (subst (λ u. Round (x.sessions q.0.session) q.0.number u) (sym r.2) (subst₂ (λ i n. Round (x.sessions i) n y.0.time) (sym r.0) (sym r.1) (f y.0 y.1)))

-- ## A ballot of this shard

pub record BallotAt (top : TopologyValue) (x : Run) (node : ℕ) (b : BegunBallot) : Type 0 where
  pub submission : Submission
  pub batch : List Change
  pub written : IsWritten x b.txn submission batch
  pub here : node ≡ lead top (dc_of top node) batch
  pub cohorts : b.cohorts ≡ cohorts_of top.shards batch
  pub origin : b.stamp ≡ None → dc_of top node ≡ submission.home

fits_origin : (top : TopologyValue) (x : Run) (node n : ℕ) (b : Submission) (batch : List Change) (o : Option StampValue) → StampFits top x node n b batch o → o ≡ None → dc_of top node ≡ b.home
fits_origin top x node n b batch None k e = k
fits_origin top x node n b batch (Some s) k e = absurd (cc)

pub ballot_at : {top : TopologyValue} {x : Run} {node n : ℕ} {b : BegunBallot} → BallotSound top x node n b → BallotAt top x node b
ballot_at {top = top} {x = x} {node = node} {n = n} {b = b} k =
    record {
      submission = k.submission;
      batch = k.batch;
      written = k.written;
      here = k.here;
      cohorts = k.cohorts;
      origin = fits_origin top x node n k.submission k.batch b.stamp k.stamp;
    }

pub some_none : (s : StampValue) → Some s ≡ None → ⊥
some_none s e = cc

pub kept_at : {top : TopologyValue} {x : Run} {node n : ℕ} {r : KeptBallot} → KeptBallotSound top x node n r → BallotAt top x node (ballot_of r)
kept_at {r = r} k =
    record {
      submission = k.submission;
      batch = k.batch;
      written = k.written;
      here = k.here;
      cohorts = k.cohorts;
      origin = λ e. absurd (some_none r.stamp e);
    }

-- it leads in its data centre
pub ballot_leads : {top : TopologyValue} {x : Run} {node : ℕ} {b : BegunBallot} → BallotAt top x node b → Leads top x node b.txn
ballot_leads k = record { submission = k.submission; batch = k.batch; written = k.written; here = k.here }
