-- What a replicated ballot leaves under way once its last missing thing is there.
use Rattle.std.proofs.Common.{◌≡◌, ℕ, ◌<◌, true, List, [], ◌∷◌, ◌++◌, map, None, ◌⊎◌, inl, inr, refl, sym, ap, ◌∙◌, subst}
use Rattle.std.specs.Prelude.{Contains}
use Rattle.std.proofs.lemmas.Bool.{false≢true, and_parts, and_from}
use Rattle.logical_time.specs.Stamps.{TxnValue, WriterValue}
use Rattle.planner.specs.Plan.{cohorts_of}
use Rattle.messages.specs.declared.body.Body.TheVariants.{PrepareRemote}
use Rattle.messages.specs.declared.envelope.Envelope.{Envelope}
use Rattle.messages.specs.Topology.{TopologyValue, dc_of, shard_node}
use Rattle.messages.specs.Words.{envelope}
use Rattle.messages.specs.Shard.{ShardState, ShardStep, Vote, KeptBallot}
use Rattle.messages.specs.Known.{has_vote, all_voted, all_met}
use Rattle.messages.specs.Replication.{ballot_of, is_ready}
use Rattle.world.specs.Run.{Run}
use Rattle.world.proofs.lists.Members.{none_in_empty, contains_first, Contains-append_cases, contains_map, mapped_from, all_have}
use Rattle.world.proofs.safety.Facts.{near, KeptBallotSound}
use Rattle.world.proofs.safety.Invariant.{Inv}
use Rattle.world.proofs.envelopes.Near.{near_dc, cohort_below}
use Rattle.world.proofs.safety.OneBatch.{written_at, submitted_one, batch_one}
use Rattle.world.proofs.envelopes.About.{OfPrepareRemote, Sent}
use Rattle.world.proofs.under_way.Underway.{Knows, vote_of, met_of, Away, Entries, EarlyCounted, Voted}
use Rattle.world.proofs.under_way.LivePlaces.{txn_split, vote_from, all_voted_from, all_met_from}
use Rattle.world.proofs.under_way.LiveSteps.{Here, Fine, Left, quiet_left, Rounds, BallotAt, kept_at, ballot_leads, some_none}
use Rattle.world.proofs.under_way.LiveDecides.{decide_left}
use Rattle.world.proofs.under_way.LiveHeld.{hold_left, hold_known}
use Rattle.world.proofs.under_way.LiveGrow.{stays_in}
use Rattle.shard.proofs.steps.HandledCases.{ReadyStep, misses, alone, asks}
use Rattle.shard.proofs.steps.Within.{ready_step_in}

-- At a shard with all its inputs stored
module _ (top : TopologyValue) (x : Run) (node n : ℕ) (some : 0 < top.shards) (inv : Inv top x) (a : ShardState) (r : KeptBallot)
    (rounds : Rounds x a.waiting) (entries : Entries top x node a) (counted : EarlyCounted a) (voted : Voted top node a) (kept : Contains a.kept_ballots r)
    (st : ShardStep) (step : ReadyStep top node n a r st) (here : Here x node st)
    -- the other ballots with nothing missing are known, and nobody voted for this one
    (rest : (u : KeptBallot) → Contains a.kept_ballots u → (u.txn ≡ r.txn → ⊥) → ((c : ℕ) → Contains u.cohorts c → Contains a.notices (vote_of u.txn (near top node c)))
    → ((k : WriterValue) → Contains u.dependencies k → Contains a.met (met_of u.txn k.txn)) → Knows a u.txn)
    (unvoted : (v : Vote) → Contains a.votes v → v.txn ≡ r.txn → ⊥) where
  sound : (u : KeptBallot) → Contains a.kept_ballots u → KeptBallotSound top x node (x.shards node).clock u
  sound u m = (inv.shards node).kept_ballots u (subst (λ z. Contains z.kept_ballots u) (sym here.state) (stays_in _ _ (ready_step_in top node n a r st step).kept_ballots u m))

  kept_ballot_at : BallotAt top x node (ballot_of r)
  kept_ballot_at = kept_at (sound r kept)

  ready_or_this : (u : KeptBallot) → Contains a.kept_ballots u → ((c : ℕ) → Contains u.cohorts c → Contains a.notices (vote_of u.txn (near top node c)))
      → ((k : WriterValue) → Contains u.dependencies k → Contains a.met (met_of u.txn k.txn)) → Knows a u.txn ⊎ (u.txn ≡ r.txn)
  ready_or_this u m f g = elim (txn_split u.txn r.txn) [ inl e ↦ inr e | inr ne ↦ inl (rest u m ne f g) ]

  -- a kept ballot of the same transaction needs the same
  ready_from : (u : KeptBallot) → Contains a.kept_ballots u → u.txn ≡ r.txn → ((c : ℕ) → Contains u.cohorts c → Contains a.notices (vote_of u.txn (near top node c)))
      → ((k : WriterValue) → Contains u.dependencies k → Contains a.met (met_of u.txn k.txn)) → is_ready top node a r ≡ true
  ready_from u m e f g =
      let k = sound r kept in
      let l = sound u m in
      let written = written_at e l.written in
      let cohorts : r.cohorts ≡ u.cohorts = k.cohorts ∙ ap (cohorts_of top.shards) (batch_one inv.submitted k.written written) ∙ sym l.cohorts in
      let dependencies : r.dependencies ≡ u.dependencies = k.dependencies ∙ ap (λ s. s.dependencies) (submitted_one inv.submitted k.written written) ∙ sym l.dependencies in
      and_from (all_voted top node r.cohorts a.notices r.txn) (all_met a.met r.txn r.dependencies)
      (all_voted_from top node r.cohorts a.notices r.txn (λ c i. subst (λ z. Contains a.notices (vote_of z (near top node c))) e (f c (subst (λ l. Contains l c) cohorts i))))
      (all_met_from a.met r.txn r.dependencies (λ d i. subst (λ z. Contains a.met (met_of z d.txn)) e (g d (subst (λ l. Contains l d) dependencies i))))

  -- ## It prepares

  prepare_remote_fine : all_voted top node r.cohorts a.notices r.txn ≡ true → Knows (x.shards node) r.txn → (cs : List ℕ) → r.cohorts ≡ cs
      → (e : Envelope) → Contains (map (λ s. envelope node (shard_node top (dc_of top node) s) n (PrepareRemote r.txn)) cs) e → Fine top x e
  prepare_remote_fine all known cs q e m =
      let p = mapped_from (λ s. envelope node (shard_node top (dc_of top node) s) n (PrepareRemote r.txn)) cs e m in
      let c = subst (λ l. Contains l p.0) (sym q) p.1 in
      let k = sound r kept in
      let v = vote_from a.notices r.txn (near top node p.0) (all_have (λ s. has_vote a.notices r.txn (shard_node top (dc_of top node) s)) r.cohorts p.0 all c) in
      subst (λ z. Fine top x z) (sym p.2) (
        (entries.notices (vote_of r.txn (near top node p.0)) v).0,
        known,
        ballot_leads kept_ballot_at,
        sym (near_dc top node p.0 (cohort_below top.shards k.batch p.0 (subst (λ l. Contains l p.0) k.cohorts c))),
      )

  every_notice : is_ready top node a r ≡ true → all_voted top node r.cohorts a.notices r.txn ≡ true
  every_notice e = (and_parts (all_voted top node r.cohorts a.notices r.txn) (all_met a.met r.txn r.dependencies) e).0

  ready_go : (z : ShardStep) → ReadyStep top node n a r z → Here x node z → Left top x node z
  ready_go z (alone e q) at_state =
      decide_left top x node n some inv a (ballot_of r) kept_ballot_at (inr (entries.kept_ballots r kept).away) rounds at_state entries counted
      (λ u i f. inl (voted u i f)) ready_or_this
  ready_go z (asks e c cs q) at_state =
      let b = ballot_of r in
      let to : ℕ → Envelope = λ s. envelope node (shard_node top (dc_of top node) s) n (PrepareRemote r.txn) in
      let sends = map to (c ∷ cs) in
      let asked : (b.stamp ≡ None) ⊎ (Away top x node b.txn × ((k : ℕ) → Contains b.cohorts k → Sent x.sent node (near top node k) (OfPrepareRemote b.txn))) =
      inr (
        (entries.kept_ballots r kept).away,
        λ k i. record { message = to k; among = at_state.sent (to k) (contains_map to (c ∷ cs) k (subst (λ l. Contains l k) q i)); by = refl; for = refl; is = refl },
      ) in
      let of : (v : Vote) → Contains [] v → v.txn ≡ b.txn = λ v m. absurd (none_in_empty v m) in
      let early : b.stamp ≡ None → (v : Vote) → Contains a.early v → v.txn ≡ b.txn → Contains [] v = λ o. absurd (some_none r.stamp o) in
      let votes : (u : TxnValue) (k : ℕ) → Contains (a.votes ++ []) (vote_of u k) → Contains a.votes (vote_of u k) =
      λ u k m. elim (Contains-append_cases a.votes [] (vote_of u k) m) [ inl o ↦ o | inr i ↦ absurd (none_in_empty (vote_of u k) i) ] in
      let missing : ((k : ℕ) → Contains b.cohorts k → Contains (a.votes ++ []) (vote_of b.txn (near top node k))) → ⊥ =
      λ f. unvoted (vote_of r.txn (near top node c)) (votes r.txn (near top node c) (f c (subst (λ l. Contains l c) (sym q) (contains_first c cs)))) refl in
      hold_left top x node n a b [] sends entries counted at_state asked of early missing
      (λ u m f. voted u m (λ k i. votes u.txn (near top node k) (f k i))) ready_or_this
      (prepare_remote_fine (every_notice e) (inl (hold_known top x node n a b [] sends entries counted at_state asked of early missing)) (c ∷ cs) q)
  ready_go z (misses e) at_state =
      quiet_left n
      (record {
        entries = entries;
        counted = counted;
        voted = voted;
        ready = λ u m f g. elim (txn_split u.txn r.txn) [ inl q ↦ absurd (false≢true (sym e ∙ ready_from u m q f g)) | inr ne ↦ rest u m ne f g ];
      })

  pub ready_left : Left top x node st
  ready_left = ready_go st step here
