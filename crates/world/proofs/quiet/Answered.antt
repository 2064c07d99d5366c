-- Where a run is quiet among a session and the shards of its home, and no read waits on these, the session has no batch and no read
-- open.
use Rattle.std.proofs.Common.{◌≡◌, ℕ, ◌<◌, ◌⊎◌, inl, inr, refl, sym, ap, ◌∙◌, subst, arith}
use Rattle.std.specs.Prelude.{false, Contains}
use Rattle.std.proofs.lemmas.Bool.{false≢true}
use Rattle.slice.specs.declared.read.Read.{Read}
use Rattle.planner.specs.Plan.{shards_asked}
use Rattle.messages.specs.Topology.{TopologyValue, dc_of}
use Rattle.messages.specs.Shard.{WaitingRead}
use Rattle.messages.specs.Submitting.{home_node}
use Rattle.messages.specs.Rounds.{asked_nodes, is_late}
use Rattle.messages.specs.Session.{Open, Idle, Writing, FirstRound, SecondRound, Moving, is_idle}
use Rattle.messages.proofs.Numbering.{dc_of_shard}
use Rattle.world.specs.Run.{Run, Submission, Completed}
use Rattle.world.specs.Quiet.{IsQuietAmong}
use Rattle.world.specs.Settled.{IsOutcomeOf}
use Rattle.world.specs.Local.{MovesAtMost}
use Rattle.world.proofs.safety.Facts.{txn_of}
use Rattle.world.proofs.safety.Invariant.{OpenSound, Inv}
use Rattle.world.proofs.causal.Causal.{txn_ended, Causal}
use Rattle.world.proofs.keeping.SessionEnds.{open_txn}
use Rattle.world.proofs.lists.Members.{mapped_from, filter_contains}
use Rattle.world.proofs.envelopes.About.{OfRead, OfReadAt, OfPartNow, OfPartAt}
use Rattle.world.proofs.envelopes.Asking.{asked_below, missing_asked, missing_late}
use Rattle.world.proofs.under_way.Underway.{FirstHas, SecondHas, SecondIs, OpenLive, HasEnded, StillOpen, Live}
use Rattle.world.proofs.quiet.Among.{Around, act, write_ended}

module _ (top : TopologyValue) (w : Run) (causal : Causal top w) where
  -- an open operation hasn't ended
  not_idle : (node : ℕ) (o : Open) → (w.sessions node).current ≡ o → is_idle o ≡ false → (c : Completed) → Contains w.transcript c → c.node ≡ node
      → c.number ≡ (w.sessions node).count → ⊥
  not_idle node o e busy c m at is =
      let lt = causal.closed c m (ap (λ i. is_idle (w.sessions i).current) at ∙ ap is_idle e ∙ busy) in
      let same : (w.sessions c.node).count ≡ (w.sessions node).count = ap (λ i. (w.sessions i).count) at in
      omega arith

module _ (top : TopologyValue) (w : Run) (some : 0 < top.shards) (inv : Inv top w) (live : Live top w) (causal : Causal top w) (among : ℕ → Type 0)
    (quiet : IsQuietAmong among w) (node : ℕ) (own : among node) (around : Around top among (w.sessions node).home)
    (no_wait : (shard : ℕ) (y : WaitingRead) → dc_of top shard ≡ (w.sessions node).home → Contains (w.shards shard).waiting y → ⊥) where
  -- a shard that a read asks is one of the home
  asked_home : (read : Read) (shard : ℕ) → Contains (asked_nodes top (w.sessions node) read) shard → among shard × (dc_of top shard ≡ (w.sessions node).home)
  asked_home read shard m =
      let q = mapped_from (home_node top (w.sessions node)) (shards_asked top.shards read.keys) shard m in
      let lt = asked_below top.shards read.keys q.0 q.1 in
      (subst among (sym q.2) (around q.0 lt), ap (dc_of top) q.2 ∙ dc_of_shard top (w.sessions node).home q.0 lt)

  pub answered : (o : Open) → (w.sessions node).current ≡ o → OpenSound top w node (w.sessions node) o → OpenLive top w node (w.sessions node) o
      → MovesAtMost o
  answered Idle e s k = tt
  answered (Writing coordinator) e s k =
      let t = open_txn s.opened in
      let b = s.opened.submission in
      let home = subst (λ d. Around top among d) (sym s.opened.home) around in
      let mine = subst among (sym s.opened.session) own in
      let c = write_ended top w some inv live among quiet (txn_of b) b s.batch (record { among = s.opened.among; txn = refl; op = s.opened.op }) home mine in
      let u : txn_ended c.0 ≡ record { session = node; number = (w.sessions node).count } = c.2 ∙ t in
      absurd (not_idle top w causal node (Writing coordinator) e refl c.0 c.1 (ap (λ z. z.session) u) (ap (λ z. z.number) u))
  answered (FirstRound read heard) e s k =
      let shard = k.some.0 in
      let to = (asked_home read shard (missing_asked (asked_nodes top (w.sessions node) read) heard shard k.some.1)).0 in
      let sent = act top w some inv live among quiet node shard (OfRead (w.sessions node).count) own to (k.asked shard k.some.1) in
      let heard_it = (act top w some inv live among quiet shard node (OfPartNow (w.sessions node).count) to own sent).round refl in
      let has : FirstHas top (w.sessions node) (FirstRound read heard) shard = subst (λ z. FirstHas top (w.sessions node) z shard) e heard_it in
      false≢true (sym has ∙ k.some.1)
  answered (SecondRound read time first heard) e s k =
      let shard = k.some.0 in
      let nodes = asked_nodes top (w.sessions node) read in
      let late = missing_late nodes time first heard shard k.some.1 in
      let at = asked_home read shard (filter_contains (is_late time first) nodes shard late).0 in
      elim (act top w some inv live among quiet node shard (OfReadAt (w.sessions node).count time) own at.0 (k.asked shard k.some.1)) [
        | inl sent ↦
            let heard_it = (act top w some inv live among quiet shard node (OfPartAt (w.sessions node).count time) at.0 own sent).round refl in
            let has : SecondHas top (w.sessions node) (SecondRound read time first heard) shard = subst
            (λ z. SecondHas top (w.sessions node) z shard) e heard_it in
            false≢true (sym has ∙ k.some.1)
        | inr (inl y) ↦ no_wait shard y.0 at.1 y.1
        | inr (inr y) ↦
            let is : SecondIs (SecondRound read time first heard) y.0 = subst (λ z. SecondIs z y.0) e (y.2.round refl) in
            y.1 (sym is)
      ]
  answered (Moving dc left floor) e s k = tt

-- ## Outcomes

-- an operation that isn't open has its outcome
pub outcome_of : (top : TopologyValue) (w : Run) → Inv top w → Live top w → (b : Submission) → Contains w.submitted b → (StillOpen w b → ⊥)
    → (c : Completed) × IsOutcomeOf w b c
outcome_of top w inv live b m done = go (live.ends b m)
  where
    go : StillOpen w b ⊎ HasEnded w (txn_of b) → (c : Completed) × IsOutcomeOf w b c
    go (inl o) = absurd (done o)
    go (inr (c, i, e)) =
        let k = (inv.transcript c i).opened in
        let same = inv.submitted.one k.submission b k.among m (open_txn k ∙ e) in (
          c,
          record {
            ended = i;
            node = ap (λ z. z.session) e;
            number = ap (λ z. z.number) e;
            home = sym k.home ∙ ap (λ z. z.home) same;
            op = sym k.op ∙ ap (λ z. z.op) same;
          },
        )
