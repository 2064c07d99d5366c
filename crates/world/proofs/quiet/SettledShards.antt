-- In a quiet run every batch is decided in every data centre, and no shard keeps anything waiting.
use Rattle.std.proofs.Common.{◌≡◌, ◌≢◌, ℕ, ◌<◌, List, [], ◌∷◌, ◌++◌, Option, Some, None, ◌⊎◌, inl, inr, refl, sym, ap, ◌∙◌, subst, subst₂}
use Rattle.std.specs.Prelude.{true, is_some, Contains}
use Rattle.std.proofs.lemmas.Bool.{cases_eq, false≢true}
use Rattle.logical_time.specs.Stamps.{TxnValue, WriterValue}
use Rattle.column_family.specs.declared.batch.Change.{Change}
use Rattle.planner.specs.Plan.{cohorts_of}
use Rattle.messages.specs.declared.body.Body.{Body}
use Rattle.messages.specs.declared.body.Body.TheVariants.{DepOk}
use Rattle.messages.specs.declared.op.Op.TheVariants as op
use Rattle.messages.specs.Topology.{TopologyValue, dc_of, shard_of, shard_node}
use Rattle.messages.specs.Words.{is_same_txn}
use Rattle.messages.specs.Shard.{Vote, ShardState, Role, Own, Cohort, Replica, PreparedPart, KeptPart, KeptBallot, Asker, WaitingRead}
use Rattle.messages.specs.Known.{decision_of, is_applied}
use Rattle.messages.proofs.Numbering.{shard_again}
use Rattle.world.specs.Run.{Run, Submission}
use Rattle.world.specs.Quiet.{IsQuiet}
use Rattle.world.specs.Settled.{WasAnswered, IsClear}
use Rattle.world.proofs.lists.Members.{none_in_empty, contains_first, contains_rest, contains_cases, last_or_old, any_false, any_has, find_none, same_txn_self}
use Rattle.world.proofs.safety.Facts.{txn_of, IsWritten, near, lead, RoleFits, Sees}
use Rattle.world.proofs.safety.Invariant.{Inv}
use Rattle.world.proofs.envelopes.Near.{lead_dc}
use Rattle.world.proofs.envelopes.About.{OfDepOk, kind_of}
use Rattle.world.proofs.under_way.Underway.{HasDecision, Leads, RoleLive, Earlier, Live}
use Rattle.world.proofs.quiet.Settling.{ballot_decided, home_decided, cohort_applied}
use Rattle.world.proofs.quiet.SettledAway.{decided_here}

-- ## What the shard's own tests tell

pub sees_applied : (a : ShardState) (t : TxnValue) → Sees a.applied t → is_applied t a ≡ true
sees_applied a t v = any_has (λ p. is_same_txn p.part.writer.txn t) a.applied v.0 v.1 (ap (λ u. is_same_txn u t) v.2 ∙ same_txn_self t)

pub has_decided : (a : ShardState) (t : TxnValue) → HasDecision a t → is_some (decision_of t a) ≡ true
has_decided a t d = go (decision_of t a) refl
  where
    go : (o : Option _) → decision_of t a ≡ o → is_some o ≡ true
    go (Some e) q = refl
    go None q = absurd (false≢true (sym (any_false (λ e. is_same_txn e.txn t) a.decided
        (find_none (λ e. is_same_txn e.txn t) a.decided q) d.0 d.1) ∙ ap (λ u. is_same_txn u t) d.2 ∙ same_txn_self t))

-- a message about an answered dependency is that answer
dep_ok_is : (b : Body) (dependency waiter : TxnValue) → kind_of b ≡ OfDepOk dependency waiter → (commit : ℕ) × (b ≡ DepOk dependency waiter commit)
dep_ok_is (DepOk t u commit) dependency waiter e = let a : t ≡ dependency = cc in let c : u ≡ waiter = cc in (
  commit,
  subst₂
      (λ x y. DepOk t u commit ≡ DepOk x y commit) a c refl,
)
dep_ok_is _ dependency waiter e = absurd (cc)

pub nothing : {X : Type 0} (xs : List X) → ((x : X) → Contains xs x → ⊥) → xs ≡ []
nothing [] f = refl
nothing (x ∷ xs) f = absurd (f x (contains_first x xs))

module _ (top : TopologyValue) (w : Run) (some : 0 < top.shards) (inv : Inv top w) (live : Live top w) (quiet : IsQuiet w) where
  -- ## Every batch in every data centre: what it depends on was submitted before it

  module _ (dc : ℕ) (lt : dc < top.dcs) where
    -- the write of this submission, if it is one, is decided here
    abbrev DecidedHere : Submission → Type 0
    DecidedHere b = (batch : List Change) → b.op ≡ op.Batch batch → HasDecision (w.shards (lead top dc batch)) (txn_of b)

    one_decided : (before : List Submission) → ((c : Submission) → Contains before c → Contains w.submitted c)
        → ((c : Submission) → Contains before c → DecidedHere c)
        → (b : Submission) → Contains w.submitted b
        → ((k : WriterValue) → Contains b.dependencies k → (c : Submission) × Contains before c × (txn_of c ≡ k.txn)) → DecidedHere b
    one_decided before old done b m earlier batch e = go (cases_eq dc b.home)
      where
        k : IsWritten w (txn_of b) b batch
        k = record { among = m; txn = refl; op = e }

        depends : (u : WriterValue) → Contains b.dependencies u → (c : Submission) (other : List Change) → IsWritten w u.txn c other
            → HasDecision (w.shards (lead top dc other)) u.txn
        depends u i c other j =
            let r = earlier u i in
            let same : c ≡ r.0 = inv.submitted.one c r.0 j.among (old r.0 r.1) (j.txn ∙ sym r.2) in
            subst (λ t. HasDecision (w.shards (lead top dc other)) t) r.2 (done r.0 r.1 other (sym (ap (λ z. z.op) same) ∙ j.op))

        go : (dc ≡ b.home) ⊎ (dc ≢ b.home) → HasDecision (w.shards (lead top dc batch)) (txn_of b)
        go (inl q) = subst (λ d. HasDecision (w.shards (lead top d batch)) (txn_of b)) (sym q) (home_decided top w some inv live quiet (txn_of b) b batch k)
        go (inr ne) = decided_here top w some inv live quiet b batch k dc lt ne depends

    all_decided : (before rest : List Submission) → ((c : Submission) → Contains before c → Contains w.submitted c)
        → ((c : Submission) → Contains rest c → Contains w.submitted c)
        → ((c : Submission) → Contains before c → DecidedHere c) → Earlier before rest → (b : Submission) → Contains rest b → DecidedHere b
    all_decided before [] old new done e b m = absurd (none_in_empty b m)
    all_decided before (c ∷ cs) old new done e b m =
        let first = new c (contains_first c cs) in
        elim (contains_cases c b cs m) [
          | inl q ↦ subst DecidedHere (sym q) (one_decided before old done c first e.0)
          | inr n ↦
              all_decided (before ++ c ∷ []) cs
              (λ u i. elim (last_or_old u c before i) [ inl o ↦ old u o | inr q ↦ subst (λ z. Contains w.submitted z) (sym q) first ])
              (λ u i. new u (contains_rest c u cs i))
              (λ u i. elim (last_or_old u c before i) [ inl o ↦ done u o | inr q ↦ subst DecidedHere (sym q) (one_decided before old done c first e.0) ])
              e.1 b n
        ]

  pub each_decided : (t : TxnValue) (b : Submission) (batch : List Change) → IsWritten w t b batch → (dc : ℕ) → dc < top.dcs
      → HasDecision (w.shards (lead top dc batch)) t
  each_decided t b batch k dc lt =
      subst (λ u. HasDecision (w.shards (lead top dc batch)) u) k.txn
      (all_decided dc lt [] w.submitted (λ c m. absurd (none_in_empty c m)) (λ c m. m) (λ c m. absurd (none_in_empty c m)) live.earlier b k.among batch k.op)

  pub leader_decided : (node : ℕ) (t : TxnValue) → Leads top w node t → dc_of top node < top.dcs → HasDecision (w.shards node) t
  leader_decided node t l lt = subst (λ z. HasDecision (w.shards z) t) (sym l.here) (each_decided t l.submission l.batch l.written (dc_of top node) lt)

  -- each cohort in each data centre has applied its part
  pub aside_applied : (node : ℕ) (t : TxnValue) (b : Submission) (batch : List Change) → IsWritten w t b batch
      → Contains (cohorts_of top.shards batch) (shard_of top node) → dc_of top node < top.dcs → Sees (w.shards node).applied t
  aside_applied node t b batch k m lt =
      let l = lead top (dc_of top node) batch in
      let to : near top l (shard_of top node) ≡ node = ap (λ d. shard_node top d (shard_of top node))
      (lead_dc top (dc_of top node) batch some) ∙ shard_again top node in
      subst (λ z. Sees (w.shards z).applied t) to
      (cohort_applied top w some inv live quiet l t b batch k (each_decided t b batch k (dc_of top node) lt) (shard_of top node) m)

  -- ## What a shard kept

  prepared_go : (r : Role) (node c : ℕ) (t : TxnValue) (b : Submission) (batch : List Change) → IsWritten w t b batch → RoleFits r top batch node
      → RoleLive r w node c t → (r ≡ Cohort → dc_of top node ≡ b.home) → Sees (w.shards node).applied t
  prepared_go Own node c t b batch k fits (u, i, e) home =
      let d = ballot_decided top w some inv live quiet node u i in
      let v = ((inv.shards node).decided d.0 d.1).applied in
      (v.0, v.1, v.2 ∙ d.2 ∙ e)
  prepared_go Cohort node c t b batch k fits l home =
      aside_applied node t b batch k fits (subst (λ d. d < top.dcs) (sym (home refl)) (live.submitted b batch k.among k.op).home)
  prepared_go Replica node c t b batch k fits (l, (p, i, e)) home = aside_applied node t b batch k fits ((live.shards node).entries.kept_parts p i).here

  pub prepared_applied : (node : ℕ) (p : PreparedPart) → Contains (w.shards node).prepared p → Sees (w.shards node).applied p.txn
  prepared_applied node p m =
      let ps = (inv.shards node).prepared p m in
      prepared_go p.role node (near top node p.coordinator) p.txn ps.submission ps.batch ps.written ps.role ((live.shards node).entries.prepared p m) ps.origin

  pub no_wait : (node : ℕ) (y : WaitingRead) → Contains (w.shards node).waiting y → ⊥
  no_wait node y m =
      let k = live.waiting node y m in
      let t = k.0 in
      let h = k.1 t.0 t.1 in
      let v = prepared_applied node h.0.0 h.0.1 in
      h.1 (v.0, v.1, v.2 ∙ h.0.2)

  kept_applied : (node : ℕ) (p : KeptPart) → Contains (w.shards node).kept_parts p → Sees (w.shards node).applied p.txn
  kept_applied node p m =
      let ps = (inv.shards node).kept_parts p m in
      aside_applied node p.txn ps.submission ps.batch ps.written ps.cohort ((live.shards node).entries.kept_parts p m).here

  kept_decided : (node : ℕ) (r : KeptBallot) → Contains (w.shards node).kept_ballots r → HasDecision (w.shards node) r.txn
  kept_decided node r m =
      let rs = (inv.shards node).kept_ballots r m in
      leader_decided node r.txn (record { submission = rs.submission; batch = rs.batch; written = rs.written; here = rs.here })
      ((live.shards node).entries.kept_ballots r m).here

  pub asked_decided : (node : ℕ) (k : Asker) → Contains (w.shards node).askers k → HasDecision (w.shards node) k.dependency
  asked_decided node k m =
      let a = (live.shards node).entries.askers k m in
      leader_decided node k.dependency a.leads a.here

  early_decided : (node : ℕ) (v : Vote) → Contains (w.shards node).early v → HasDecision (w.shards node) v.txn
  early_decided node v m =
      let e = (live.shards node).entries.early v m in
      let o = e.0 in
      leader_decided node v.txn e.1 (subst (λ d. d < top.dcs) (sym o.here) (live.submitted o.submission o.batch o.written.among o.written.op).home)

  voted_decided : (node : ℕ) (v : Vote) → Contains (w.shards node).votes v → HasDecision (w.shards node) v.txn
  voted_decided node v m =
      let u = (live.shards node).entries.votes v m in
      let d = ballot_decided top w some inv live quiet node u.0 u.1 in
      (d.0, d.1, d.2 ∙ u.2)

  noticed_decided : (node : ℕ) (v : Vote) → Contains (w.shards node).notices v → HasDecision (w.shards node) v.txn
  noticed_decided node v m =
      let e = (live.shards node).entries.notices v m in
      leader_decided node v.txn e.1 (subst (λ d. d < top.dcs) e.2 ((live.shards v.node).entries.kept_parts e.0.0 e.0.1).here)

  was_answered : (node : ℕ) (k : Asker) → Contains (w.shards node).askers k → WasAnswered w node k
  was_answered node k m =
      let d = asked_decided node k m in
      let y = (live.shards node).entries.told k d.0 m d.1 d.2 in
      let is = dep_ok_is y.message.body k.dependency k.waiter y.is in
      record { answer = y.message; sent = y.among; from = y.by; to = y.for; commit = is.0; body = is.1 }

  pub shard_clear : (node : ℕ) → IsClear w node (w.shards node)
  shard_clear node =
      let a = w.shards node in
      record {
        prepared = λ p c. sees_applied a p.txn (prepared_applied node p c);
        ballots = λ u c. has_decided a u.txn (ballot_decided top w some inv live quiet node u c);
        kept_parts = λ p c. sees_applied a p.txn (kept_applied node p c);
        kept_ballots = λ r c. has_decided a r.txn (kept_decided node r c);
        early = λ v c. has_decided a v.txn (early_decided node v c);
        votes = λ v c. has_decided a v.txn (voted_decided node v c);
        notices = λ v c. has_decided a v.txn (noticed_decided node v c);
        askers = λ k c. has_decided a k.dependency (asked_decided node k c);
        answered = λ k c. was_answered node k c;
        waiting = nothing a.waiting (no_wait node);
      }
