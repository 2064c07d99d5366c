-- Where a run is quiet among the actors of a data centre, no read waits on its shards, and each session that is at home there has no
-- batch and no read open.
use Rattle.std.proofs.Common.{◌≡◌, ℕ, ◌<◌, true, false, List, inl, inr, refl, sym, ap, ◌∙◌, subst}
use Rattle.std.specs.Prelude.{Contains}
use Rattle.std.proofs.lemmas.Bool.{false≢true}
use Rattle.logical_time.specs.Stamps.{TxnValue}
use Rattle.messages.specs.declared.body.Body.{Body}
use Rattle.messages.specs.declared.body.Body.TheVariants.{Check, At, NotBy}
use Rattle.messages.specs.declared.op.Op.{Op}
use Rattle.messages.specs.Topology.{TopologyValue, is_topology, dc_of, shard_node}
use Rattle.messages.specs.Shard.{WaitingRead}
use Rattle.messages.specs.Session.{Open, Idle, Writing, FirstRound, SecondRound, Moving, is_idle}
use Rattle.messages.proofs.Numbering.{dc_of_shard, shard_is_shard}
use Rattle.world.specs.Run.{Run, RunEvent, Submission, run}
use Rattle.world.specs.Quiet.{IsQuietAmong}
use Rattle.world.specs.Local.{IsShardOf, IsActorOf, IsLocallyQuiet, IsAtHomeOf, IsServed, MovesAtMost, IsLocal, AllAnswered, AnswersLocally}
use Rattle.world.proofs.safety.Invariant.{Says, IsOpen, OpenSound, Inv}
use Rattle.world.proofs.safety.Runs.{every_run}
use Rattle.world.proofs.causal.Causal.{Causal}
use Rattle.world.proofs.causal.CausalRuns.{every_causal}
use Rattle.world.proofs.keeping.SessionEnds.{open_txn}
use Rattle.world.proofs.envelopes.Near.{lead_dc}
use Rattle.world.proofs.envelopes.About.{kind_of}
use Rattle.world.proofs.envelopes.Addresses.{stands}
use Rattle.world.proofs.under_way.Underway.{StillOpen, Live}
use Rattle.world.proofs.under_way.LiveEvents.{run_live}
use Rattle.world.proofs.under_way.Owed.{IsOwed, asks, answers, Owing, run_owing}
use Rattle.world.proofs.quiet.Among.{Around, one_around}
use Rattle.world.proofs.quiet.Answered.{answered, outcome_of}
use Rattle.world.proofs.quiet.SettledShards.{nothing}

-- what is open is of the last number
the_open : (top : TopologyValue) (w : Run) → Inv top w → (node : ℕ) (b : Submission) → Contains w.submitted b → b.session ≡ node → StillOpen w b
    → {n : ℕ} {o : Op} (k : IsOpen w node (w.sessions node).count n o) → b ≡ k.submission
the_open top w inv node b m at still k = inv.submitted.one b k.submission m k.among (named b.session node b.number (w.sessions node).count at number ∙ sym (open_txn k))
  where
    number : b.number ≡ (w.sessions node).count
    number = still.number ∙ ap (λ i. (w.sessions i).count) at

    txn : ℕ → ℕ → TxnValue
    txn s n = record { session = s; number = n }

    named : (s n i j : ℕ) → s ≡ n → i ≡ j → txn s i ≡ txn n j
    named s n i j p q = ap (λ z. txn z i) p ∙ ap (λ z. txn n z) q

module _ (top : TopologyValue) (w : Run) (some : 0 < top.shards) (inv : Inv top w) (live : Live top w) (causal : Causal top w) (owing : Owing top w)
    (among : ℕ → Type 0) (quiet : IsQuietAmong among w) where
  -- ## No read waits

  -- what a read that waits is owed goes between shards of its data centre
  owed_near : (node time : ℕ) (t : TxnValue) (from to late : ℕ) (b : Body) → Says top w from to late b → IsOwed node time t from to (kind_of b)
      → (dc_of top from ≡ dc_of top node) × (dc_of top to ≡ dc_of top node)
  owed_near node time t from to late (Check u bound) says (asks p q) = (ap (dc_of top) p, sym says.1 ∙ ap (dc_of top) p)
  owed_near node time t from to late (At u commit stamp) says (answers p q) = (says.1 ∙ ap (dc_of top) p, ap (dc_of top) p)
  owed_near node time t from to late (NotBy u bound) says (answers p q) =
      (ap (dc_of top) says.1.here ∙ lead_dc top (dc_of top to) says.1.batch some ∙ ap (dc_of top) p, ap (dc_of top) p)
  owed_near node time t from to late _ says (asks p q) = absurd (cc)
  owed_near node time t from to late _ says (answers p (inl q)) = absurd (cc)
  owed_near node time t from to late _ says (answers p (inr q)) = absurd (cc)

  no_wait : (dc node : ℕ) → Around top among dc → dc_of top node ≡ dc → (y : WaitingRead) → Contains (w.shards node).waiting y → ⊥
  no_wait dc node around here y m =
      let t = (live.waiting node y m).0 in
      let o = owing.owed node y m t.0 t.1 in
      let e = o.message in
      let near = owed_near node y.time t.0 e.from e.to e.time e.body (inv.sent e o.among) o.is in
      let one : (shard : ℕ) → dc_of top shard ≡ dc_of top node → among shard =
      λ shard same. one_around top w some inv live among quiet shard (subst (λ d. Around top among d) (sym (same ∙ here)) around) in
      o.unhandled (quiet e o.among (one e.from near.0) (one e.to near.1))

  -- ## Nothing but a move is open

  module _ (node : ℕ) (own : among node) (around : Around top among (w.sessions node).home) where
    moves_at_most : MovesAtMost (w.sessions node).current
    moves_at_most =
        answered top w some inv live causal among quiet node own around
        (λ shard y here. no_wait (w.sessions node).home shard around here y)
        (w.sessions node).current refl (inv.sessions node).current (live.current node)

    -- an open operation is a move
    pub open_moves : (b : Submission) → Contains w.submitted b → b.session ≡ node → IsLocal b.op → StillOpen w b → ⊥
    open_moves b m at local still = go (w.sessions node).current refl (inv.sessions node).current moves_at_most
      where
        busy : is_idle (w.sessions node).current ≡ false
        busy = sym (ap (λ i. is_idle (w.sessions i).current) at) ∙ still.current

        go : (o : Open) → (w.sessions node).current ≡ o → OpenSound top w node (w.sessions node) o → MovesAtMost o → ⊥
        go Idle e s k = false≢true (sym busy ∙ ap is_idle e)
        go (Writing coordinator) e s k = k
        go (FirstRound read heard) e s k = k
        go (SecondRound read time first heard) e s k = k
        go (Moving dc left floor) e s k = subst IsLocal (ap (λ (z : Submission). z.op) (the_open top w inv node b m at still s.opened) ∙ s.opened.op) local

    pub is_answered : AllAnswered w node
    is_answered =
        record {
          current = moves_at_most;
          outcomes = λ b m at local. outcome_of top w inv live b m (open_moves b m at local);
        }

-- ## Among whom

-- the home of a session is the one where it submitted what is open
open_home : (top : TopologyValue) (w : Run) → Inv top w → (b : Submission) → Contains w.submitted b → StillOpen w b → (w.sessions b.session).home ≡ b.home
open_home top w inv b m still = go (w.sessions b.session).current refl (inv.sessions b.session).current
  where
    of : {n : ℕ} {o : Op} → IsOpen w b.session (w.sessions b.session).count n o → n ≡ b.home
    of k = sym k.home ∙ sym (ap (λ (z : Submission). z.home) (the_open top w inv b.session b m refl still k))

    go : (o : Open) → (w.sessions b.session).current ≡ o → OpenSound top w b.session (w.sessions b.session) o → (w.sessions b.session).home ≡ b.home
    go Idle e s = absurd (false≢true (sym still.current ∙ ap is_idle e))
    go (Writing coordinator) e s = of s.opened
    go (FirstRound read heard) e s = of s.opened
    go (SecondRound read time first heard) e s = of s.opened
    go (Moving dc left floor) e s = of s.opened

module _ (top : TopologyValue) (w : Run) (ok : is_topology top.dcs top.shards top.homes ≡ true) (inv : Inv top w) (live : Live top w) (causal : Causal top w)
    (owing : Owing top w) where
  shards_of : (among : ℕ → Type 0) (dc : ℕ) → dc < top.dcs → ((node : ℕ) → IsShardOf top dc node → among node) → Around top among dc
  shards_of among dc there each c lt = each (shard_node top dc c) (shard_is_shard top dc c there lt, dc_of_shard top dc c lt)

  served : (session : ℕ) → IsServed top w session → AllAnswered w session
  served session quiet =
      is_answered top w (stands top ok).some inv live causal owing (IsAtHomeOf top w session) quiet session (inl refl)
      (shards_of (IsAtHomeOf top w session) (w.sessions session).home (live.homes session) (λ node is. inr is))

  local : (dc : ℕ) → dc < top.dcs → IsLocallyQuiet top dc w → AnswersLocally top w dc
  local dc there quiet =
      record {
        sessions = λ session opened home.
            is_answered top w (stands top ok).some inv live causal owing (IsActorOf top dc) quiet session (inr opened) (around_home session home);
        outcomes = λ b m opened home kind. outcome_of top w inv live b m
            (λ still.
            open_moves top w (stands top ok).some inv live causal owing (IsActorOf top dc) quiet b.session (inr opened)
            (around_home b.session (open_home top w inv b m still ∙ home)) b m refl kind still);
        waiting = λ node is.
            nothing (w.shards node).waiting
            (no_wait top w (stands top ok).some inv live causal owing (IsActorOf top dc) quiet dc node around is.1);
      }
    where
      around : Around top (IsActorOf top dc) dc
      around = shards_of (IsActorOf top dc) dc there (λ node is. inl is)

      around_home : (session : ℕ) → (w.sessions session).home ≡ dc → Around top (IsActorOf top dc) (w.sessions session).home
      around_home session home = subst (λ d. Around top (IsActorOf top dc) d) (sym home) around

-- ## Every run

pub sessions_are_served : (top : TopologyValue) (events : List RunEvent) (session : ℕ) → is_topology top.dcs top.shards top.homes ≡ true
    → IsServed top (run top events) session → AllAnswered (run top events) session
sessions_are_served top events session ok quiet =
    let some = (stands top ok).some in
    served top (run top events) ok (every_run top events some) (run_live top events ok) (every_causal top events some) (run_owing top events ok) session quiet

pub answers_are_local : (top : TopologyValue) (events : List RunEvent) (dc : ℕ) → is_topology top.dcs top.shards top.homes ≡ true → dc < top.dcs
    → IsLocallyQuiet top dc (run top events) → AnswersLocally top (run top events) dc
answers_are_local top events dc ok there quiet =
    let some = (stands top ok).some in
    local top (run top events) ok (every_run top events some) (run_live top events ok) (every_causal top events some) (run_owing top events ok) dc there quiet
