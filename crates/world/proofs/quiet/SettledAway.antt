-- In a quiet run what another data centre submitted is decided here, once what it depends on is.
use Rattle.std.proofs.Common.{◌≡◌, ℕ, ◌<◌, not, List, ◌⊎◌, inl, inr, refl, sym, ap, ◌∙◌, subst, subst₂}
use Rattle.std.specs.Prelude.{◌==◌, Contains}
use Rattle.std.specs.List.{range_with_len}
use Rattle.std.proofs.lemmas.Bool.{ne_eqb}
use Rattle.logical_time.specs.Stamps.{TxnValue, WriterValue}
use Rattle.column_family.specs.declared.batch.Change.{Change}
use Rattle.planner.specs.Plan.{coordinator_of, cohorts_of}
use Rattle.planner.proofs.Members.{contains_below}
use Rattle.messages.specs.declared.op.Op.TheVariants as op
use Rattle.messages.specs.Topology.{TopologyValue, dc_of, shard_of, shard_node}
use Rattle.messages.specs.Words.{other_dcs}
use Rattle.messages.specs.Shard.{Role, Own, Cohort, Replica, KeptBallot}
use Rattle.messages.proofs.Numbering.{dc_of_shard, number_of_shard}
use Rattle.world.specs.Run.{Run, Submission}
use Rattle.world.specs.Quiet.{IsQuiet}
use Rattle.world.proofs.lists.Members.{contains_filter}
use Rattle.world.proofs.safety.Facts.{txn_of, IsWritten, near, lead, RoleFits}
use Rattle.world.proofs.safety.Invariant.{MovesTo, Inv}
use Rattle.world.proofs.safety.OneBatch.{written_at, submitted_one, batch_one}
use Rattle.world.proofs.envelopes.Near.{coordinator_below, cohort_below, cohort_other, lead_dc, lead_number}
use Rattle.world.proofs.envelopes.About.{OfReplBegin, OfReplPart, OfNotify, OfDepCheck, OfDepOk, Sent}
use Rattle.world.proofs.under_way.Underway.{HasDecision, HasKeptPart, HasKeptBallot, Knows, vote_of, met_of, RoleLive, WasCounted, by_ballot, by_move, Live}
use Rattle.world.proofs.quiet.Among.{each_or, cohort_undecided, lead_leads}
use Rattle.world.proofs.quiet.Settling.{act, known_decided, home_decided, cohort_applied}

module _ (top : TopologyValue) (w : Run) (some : 0 < top.shards) (inv : Inv top w) (live : Live top w) (quiet : IsQuiet w)
    (b : Submission) (batch : List Change) (k : IsWritten w (txn_of b) b batch) (dc : ℕ) (lt : dc < top.dcs) (ne : dc ≡ b.home → ⊥)
    -- what it depends on is decided in this data centre
    (before : (u : WriterValue) → Contains b.dependencies u → (c : Submission) (other : List Change) → IsWritten w u.txn c other → HasDecision
    (w.shards (lead top dc other)) u.txn) where
  abbrev t : TxnValue
  t = txn_of b

  -- the coordinators here and where it was submitted
  abbrev s : ℕ
  s = lead top dc batch

  abbrev s0 : ℕ
  s0 = lead top b.home batch

  dc_here : dc_of top s ≡ dc
  dc_here = lead_dc top dc batch some

  dc_home : dc_of top s0 ≡ b.home
  dc_home = lead_dc top b.home batch some

  here : s ≡ lead top (dc_of top s) batch
  here = ap (λ d. lead top d batch) (sym dc_here)

  -- this data centre is another than that of a shard there
  other : (node : ℕ) → dc_of top node ≡ b.home → Contains (other_dcs top node) dc
  other node e =
      contains_filter (λ d. not (d == dc_of top node)) (range_with_len 0 top.dcs) dc (contains_below top.dcs dc lt)
      (ap not (ne_eqb dc (dc_of top node) (λ q. ne (q ∙ e))))

  decided_there : HasDecision (w.shards s0) t
  decided_there = home_decided top w some inv live quiet t b batch k

  ballot_came : HasKeptBallot (w.shards s) t ⊎ Knows (w.shards s) t
  ballot_came =
      let d = decided_there in
      let l = (live.shards s0).entries.decided d.0 d.1 in
      let one = submitted_one inv.submitted (written_at d.2 l.written) k in
      let sent = l.copies (dc_home ∙ ap (λ z. z.home) (sym one)) dc (other s0 dc_home) in
      let number : shard_of top s0 ≡ coordinator_of top.shards batch = number_of_shard top b.home (coordinator_of top.shards batch)
      (coordinator_below top.shards batch some) in
      act top w some inv live quiet s0 s (OfReplBegin t) (subst₂ (λ n u. Sent w.sent s0 (shard_node top dc n) (OfReplBegin u)) number d.2 sent)

  -- ## Each cohort's notice

  module _ (c : ℕ) (m : Contains (cohorts_of top.shards batch) c) where
    below : c < top.shards
    below = cohort_below top.shards batch c m

    -- the cohort here, and where it was submitted
    abbrev c1 : ℕ
    c1 = near top s c

    abbrev c0 : ℕ
    c0 = near top s0 c

    c1_is : c1 ≡ shard_node top dc c
    c1_is = ap (λ d. shard_node top d c) dc_here

    dc_c1 : dc_of top c1 ≡ dc
    dc_c1 = dc_of_shard top (dc_of top s) c below ∙ dc_here

    dc_c0 : dc_of top c0 ≡ b.home
    dc_c0 = dc_of_shard top (dc_of top s0) c below ∙ dc_home

    number_c1 : shard_of top c1 ≡ c
    number_c1 = number_of_shard top (dc_of top s) c below

    number_c0 : shard_of top c0 ≡ c
    number_c0 = number_of_shard top (dc_of top s0) c below

    cohort_here : Contains (cohorts_of top.shards batch) (shard_of top c1)
    cohort_here = subst (λ z. Contains (cohorts_of top.shards batch) z) (sym number_c1) m

    abbrev Noticed : Type 0
    Noticed = Contains (w.shards s).notices (vote_of t c1) ⊎ Knows (w.shards s) t

    kept_notice : HasKeptPart (w.shards c1) t → Noticed
    kept_notice (p, i, e) =
        let ps = (inv.shards c1).kept_parts p i in
        let same = batch_one inv.submitted (written_at e ps.written) k in
        let to : near top c1 p.coordinator ≡ s = ap (near top c1) (ps.coordinator ∙ ap (coordinator_of top.shards) same) ∙ ap (λ d. lead top d batch) dc_c1 in
        act top w some inv live quiet c1 s (OfNotify t)
        (subst₂ (λ n u. Sent w.sent c1 n (OfNotify u)) to e ((live.shards c1).entries.kept_parts p i).told)

    prepared_notice : (r : Role) → RoleFits r top batch c1 → RoleLive r w c1 s t → (r ≡ Cohort → dc_of top c1 ≡ b.home) → Noticed
    prepared_notice Own fits l home = absurd (cohort_other top.shards batch (shard_of top c1) cohort_here fits)
    prepared_notice Cohort fits l home = absurd (ne (sym dc_c1 ∙ home refl))
    prepared_notice Replica fits l home = kept_notice l.1

    part_notice : HasKeptPart (w.shards c1) t ⊎ HasKeptBallot (w.shards c1) t ⊎ Knows (w.shards c1) t → Noticed
    part_notice (inl p) = kept_notice p
    part_notice (inr (inl (r, i, e))) =
        let rs = (inv.shards c1).kept_ballots r i in
        let same = batch_one inv.submitted (written_at e rs.written) k in
        absurd (cohort_other top.shards batch (shard_of top c1) cohort_here (lead_number top c1 (dc_of top c1) rs.batch some rs.here ∙ ap
        (coordinator_of top.shards) same))
    part_notice (inr (inr (inr d))) = absurd (cohort_undecided top w some inv c1 t b batch k cohort_here d)
    part_notice (inr (inr (inl (p, i, e)))) =
        let ps = (inv.shards c1).prepared p i in
        let k' = written_at e ps.written in
        let same = batch_one inv.submitted k' k in
        let to : near top c1 p.coordinator ≡ s = ap (near top c1) (ps.coordinator ∙ ap (coordinator_of top.shards) same) ∙ ap (λ d. lead top d batch) dc_c1 in
        prepared_notice p.role (subst (λ z. RoleFits p.role top z c1) same ps.role)
        (subst₂ (λ n u. RoleLive p.role w c1 n u) to e ((live.shards c1).entries.prepared p i))
        (λ q. ps.origin q ∙ ap (λ z. z.home) (submitted_one inv.submitted k' k))

    -- the part of the cohort there has come
    notice : Noticed
    notice =
        let v = cohort_applied top w some inv live quiet s0 t b batch k decided_there c m in
        let vs = (inv.shards c0).applied v.0 v.1 in
        let same = batch_one inv.submitted (written_at v.2 vs.written) k in
        elim ((live.shards c0).entries.applied v.0 v.1) [
          | inl e ↦ absurd (cohort_other top.shards batch c m (sym number_c0 ∙ sym e ∙ vs.coordinator ∙ ap (coordinator_of top.shards) same))
          | inr (inl a) ↦ absurd (a.away (dc_c0 ∙ ap (λ z. z.home) (submitted_one inv.submitted k (written_at v.2 a.written))))
          | inr (inr f) ↦
              part_notice
              (act top w some inv live quiet c0 c1 (OfReplPart t)
              (subst₂ (λ n u. Sent w.sent c0 n (OfReplPart u)) (ap (shard_node top dc) number_c0 ∙ sym c1_is) v.2 (f dc (other c0 dc_c0))))
        ]

  -- ## Each dependency's answer

  -- who waits here is a ballot, so no move
  ballot_met : (r : KeptBallot) → Contains (w.shards s).kept_ballots r → (u : TxnValue) → WasCounted w s r.txn u → Contains (w.shards s).met (met_of r.txn u)
  ballot_met r m u (by_ballot k i) = i
  ballot_met r m u (by_move c i is there moves h) =
      let rs = (inv.shards s).kept_ballots r m in
      let same = inv.submitted.one c rs.submission i rs.written.among (is ∙ sym rs.written.txn) in
      let none : MovesTo there (op.Batch rs.batch) = subst (MovesTo there) (ap (λ z. z.op) same ∙ rs.written.op) moves in
      absurd none

  met : (r : KeptBallot) → Contains (w.shards s).kept_ballots r → (u : WriterValue) → Contains r.dependencies u → Contains b.dependencies u
      → Contains (w.shards s).met (met_of r.txn u.txn)
  met r m u i j =
      let p = (live.submitted b batch k.among k.op).dependencies u j in
      let s' = near top s u.shard in
      let to : s' ≡ lead top dc p.batch = ap (near top s) p.coordinator ∙ ap (λ d. lead top d p.batch) dc_here in
      let d : HasDecision (w.shards s') u.txn = subst (λ z. HasDecision (w.shards z) u.txn) (sym to) (before u j p.submission p.batch p.written) in
      elim (act top w some inv live quiet s s' (OfDepCheck u.txn r.txn) (((live.shards s).entries.kept_ballots r m).asked u i)) [
        | inl y ↦ ballot_met r m u.txn (act top w some inv live quiet s' s (OfDepOk u.txn r.txn) y)
        | inr z ↦
            let y = (live.shards s').entries.told z.0 d.0 z.1 d.1 (d.2 ∙ sym z.2) in
            let sent = subst (λ n. Sent w.sent s' n (OfDepOk u.txn r.txn)) z.4 (subst₂ (λ x y. Sent w.sent s' z.0.from (OfDepOk x y)) z.2 z.3 y) in
            ballot_met r m u.txn (act top w some inv live quiet s' s (OfDepOk u.txn r.txn) sent)
      ]

  -- ## The coordinator here

  come : HasKeptBallot (w.shards s) t ⊎ Knows (w.shards s) t → Knows (w.shards s) t
  come (inr y) = y
  come (inl (r, i, e)) =
      let rs = (inv.shards s).kept_ballots r i in
      let k' = written_at e rs.written in
      let cs : r.cohorts ≡ cohorts_of top.shards batch = rs.cohorts ∙ ap (cohorts_of top.shards) (batch_one inv.submitted k' k) in
      let ds : r.dependencies ≡ b.dependencies = rs.dependencies ∙ ap (λ z. z.dependencies) (submitted_one inv.submitted k' k) in
      elim (each_or r.cohorts (λ c m. notice c (subst (λ l. Contains l c) cs m))) [
        | inl all ↦
            subst (λ u. Knows (w.shards s) u) e
            ((live.shards s).ready r i (λ c m. subst (λ u. Contains (w.shards s).notices (vote_of u (near top s c))) (sym e) (all c m))
            (λ u m. met r i u m (subst (λ l. Contains l u) ds m)))
        | inr y ↦ y
      ]

  pub decided_here : HasDecision (w.shards s) t
  decided_here = known_decided top w some inv live quiet s t (lead_leads top w some inv dc t b batch k) (come ballot_came)
