-- What each message that a session hears leaves under way.
use Rattle.std.proofs.Common.{◌≡◌, ℕ, ◌<◌, ◌≤◌, Bool, true, false, List, ◌⊎◌, inl, inr, sym, ap, ap₂, ◌∙◌, subst, subst₂}
use Rattle.std.specs.Prelude.{Contains}
use Rattle.std.proofs.lemmas.Bool.{false≢true}
use Rattle.logical_time.specs.Stamps.{StampValue, TxnValue, WriterValue}
use Rattle.column_family.specs.declared.batch.Change.{Change}
use Rattle.slice.specs.declared.read.Read.{Read}
use Rattle.messages.specs.declared.op.Op.{Op}
use Rattle.messages.specs.declared.op.Op.TheVariants as op
use Rattle.messages.specs.declared.body.Body.{Body}
use Rattle.messages.specs.declared.body.Body.TheVariants.{At, NotBy, Check, DepOk, Done, PartNow, PartAt}
use Rattle.messages.specs.Topology.{TopologyValue, dc_of}
use Rattle.messages.specs.Shard.{KeptBallot}
use Rattle.messages.specs.Session.{SessionStep, Open, Idle, Writing, FirstRound, SecondRound, Moving, is_idle}
use Rattle.messages.specs.SessionEvents.{heard, session_taken}
use Rattle.world.specs.Run.{Run, Submission}
use Rattle.world.proofs.safety.Facts.{txn_of, IsWritten, IsDecided}
use Rattle.world.proofs.safety.Invariant.{IsOpen, OpenSound, Inv, Hears}
use Rattle.world.proofs.keeping.SessionEnds.{open_txn}
use Rattle.world.proofs.envelopes.About.{Kind, OfBegin, OfPrepare, OfYes, OfCommit, OfAt, OfNotBy, OfCheck, OfRead, OfReadAt, OfReplBegin, OfReplPart, OfNotify, OfPrepareRemote, OfDepCheck, OfDepOk, OfDone, OfPartNow, OfPartAt, kind_of}
use Rattle.world.proofs.under_way.Underway.{WaitsFor, of_ballot, of_moving, Placed, NotMissing, NotAwaited, NotLeft, SaysLive, WasCounted, by_move, Acted, HasEnded, StillOpen, Live}
use Rattle.world.proofs.under_way.LiveSessions.{Comes, Went}
use Rattle.world.proofs.under_way.LiveReads.{WritesNothing, heard_went, heard_leaves}

-- a message that leaves something on a shard, or something that a shard sent
abbrev pub is_for_shard : Kind → Bool
is_for_shard (OfBegin t) = true
is_for_shard (OfPrepare t) = true
is_for_shard (OfYes t) = true
is_for_shard (OfCommit t) = true
is_for_shard (OfAt t) = false
is_for_shard (OfNotBy t time) = false
is_for_shard (OfCheck t time) = false
is_for_shard (OfRead number) = true
is_for_shard (OfReadAt number time) = true
is_for_shard (OfReplBegin t) = true
is_for_shard (OfReplPart t) = true
is_for_shard (OfNotify t) = true
is_for_shard (OfPrepareRemote t) = true
is_for_shard (OfDepCheck dependency waiter) = true
is_for_shard (OfDepOk dependency waiter) = false
is_for_shard (OfDone t) = false
is_for_shard (OfPartNow number) = false
is_for_shard (OfPartAt number time) = false

module _ (top : TopologyValue) (w x : Run) (node n : ℕ) (some : 0 < top.shards) (inv : Inv top w) (le : (w.sessions node).clock ≤ n)
    (live : Live top w) (no_ballot : (r : KeptBallot) → Contains (w.shards node).kept_ballots r → ⊥) where
  abbrev placed : (k : WriterValue) → Contains (w.sessions node).dependencies k → Placed top w k
  placed = λ k m. live.dependencies node k m

  abbrev now : TxnValue
  now = record { session = node; number = (w.sessions node).count }

  -- ## Done

  -- an open read is no write, nor is an open move
  written_so : (t : TxnValue) (b : Submission) (batch : List Change) → IsWritten w t b batch → t ≡ now → (dc : ℕ) (o : Op)
      → IsOpen w node (w.sessions node).count dc o → o ≡ op.Batch batch
  written_so t b batch k e dc o is =
      let same = inv.submitted.one is.submission b is.among k.among (open_txn is ∙ sym e ∙ sym k.txn) in sym is.op ∙ ap (λ z. z.op) same ∙ k.op

  no_read : (t : TxnValue) (b : Submission) (batch : List Change) → IsWritten w t b batch → t ≡ now → (dc : ℕ) (read : Read)
      → IsOpen w node (w.sessions node).count dc (op.Read read) → ⊥
  no_read t b batch k e dc read o = let q : op.Read read ≡ op.Batch batch = written_so t b batch k e dc (op.Read read) o in absurd (cc)

  no_move : (t : TxnValue) (b : Submission) (batch : List Change) → IsWritten w t b batch → t ≡ now → (dc there : ℕ)
      → IsOpen w node (w.sessions node).count dc (op.Move there) → ⊥
  no_move t b batch k e dc there o = let q : op.Move there ≡ op.Batch batch = written_so t b batch k e dc (op.Move there) o in absurd (cc)

  -- where the end of the open write is told, it ended
  ended_of : (t : TxnValue) (b : Submission) (batch : List Change) → IsWritten w t b batch → t ≡ now → (o : Open) → OpenSound top w node (w.sessions node) o
      → WritesNothing o → ⊥
  ended_of t b batch k q Idle s r = r
  ended_of t b batch k q (Writing coordinator) s r = r
  ended_of t b batch k q (FirstRound read heard) s r = no_read t b batch k q (w.sessions node).home read s.opened
  ended_of t b batch k q (SecondRound read time first heard) s r = no_read t b batch k q (w.sessions node).home read s.opened
  ended_of t b batch k q (Moving dc left floor) s r = no_move t b batch k q (w.sessions node).home dc s.opened

  done_left : (from : ℕ) (t : TxnValue) (commit : ℕ) (stamp : StampValue) → IsDecided w from t commit stamp → node ≡ t.session
      → Comes w x node (heard top node n (w.sessions node) from (Done t commit stamp))
      → Went top w x node (heard top node n (w.sessions node) from (Done t commit stamp)) → HasEnded x t
  done_left from t commit stamp d to c went =
      let ds = (inv.shards from).decided d.decision d.among in
      let k : IsWritten w t ds.submission ds.batch = record { among = ds.written.among; txn = ds.written.txn ∙ d.txn; op = ds.written.op } in
      ends ds.submission ds.batch k (live.ends ds.submission ds.written.among)
    where
      st : SessionStep
      st = heard top node n (w.sessions node) from (Done t commit stamp)

      over : (b : Submission) (batch : List Change) → IsWritten w t b batch → t ≡ now → is_idle (w.sessions node).current ≡ false → is_idle st.state.current ≡ true
      over b batch k q busy = elim (heard_leaves top node n (w.sessions node) from (Done t commit stamp) q) [
        | inl idle ↦ absurd (false≢true (sym busy ∙ idle))
        | inr (inl r) ↦ absurd (ended_of t b batch k q (w.sessions node).current (inv.sessions node).current r)
        | inr (inr e) ↦ e
      ]

      ends : (b : Submission) (batch : List Change) → IsWritten w t b batch → StillOpen w b ⊎ HasEnded w (txn_of b) → HasEnded x t
      ends b batch k (inr h) = (h.0, c.transcript h.0 h.1, h.2 ∙ k.txn)
      ends b batch k (inl o) =
          let here : b.session ≡ node = ap (λ z. z.session) k.txn ∙ sym to in
          let is : t ≡ now = sym k.txn ∙ ap₂ (λ i m. let z : TxnValue = record { session = i; number = m } in z) here
          (o.number ∙ ap (λ i. (w.sessions i).count) here) in
          let busy = ap (λ i. is_idle (w.sessions i).current) (sym here) ∙ o.current in
          elim (went.ends) [
            | inl f ↦ absurd (false≢true (sym (f busy) ∙ over b batch k is busy))
            | inr h ↦ subst (λ z. HasEnded x z) (sym is) h
          ]

  -- ## DepOk

  counted : (from dc : ℕ) (dependency waiter : TxnValue) (commit : ℕ) → WaitsFor top w dc node waiter dependency
      → Comes w x node (heard top node n (w.sessions node) from (DepOk dependency waiter commit))
      → Went top w x node (heard top node n (w.sessions node) from (DepOk dependency waiter commit)) → WasCounted x node waiter dependency
  counted from dc dependency waiter commit (of_ballot k) c went = absurd (no_ballot k.ballot k.among)
  counted from dc dependency waiter commit (of_moving b m is own moves k named q) c went =
      let st = heard top node n (w.sessions node) from (DepOk dependency waiter commit) in
      let le : b.number ≤ (w.sessions b.session).count = inv.submitted.number b m in
      let number : waiter.number ≤ (w.sessions node).count = subst₂ (λ i j. i ≤ (w.sessions j).count) (ap (λ (z : TxnValue). z.number) is) own le in
      let session : waiter.session ≡ node = sym (ap (λ (z : TxnValue). z.session) is) ∙ own in
      let has : NotLeft (session_taken st.state) waiter.number dependency =
      record {
        number = subst (λ i. waiter.number ≤ i) (sym went.count) number;
        round = λ r. heard_leaves top node n (w.sessions node) from (DepOk dependency waiter commit)
            (ap₂ (λ i j. let z : TxnValue = record { session = i; number = j } in z) session (r ∙ went.count));
      } in
      by_move b (c.submitted b m) is dc moves (subst (λ z. NotLeft z waiter.number dependency) (sym c.state) has)

  -- ## Every message

  -- what it was about, once its step is right
  acted : (from sent : ℕ) (b : Body) → is_for_shard (kind_of b) ≡ false → Hears top w from node sent b → SaysLive top w from node (kind_of b)
      → Comes w x node (heard top node n (w.sessions node) from b) → Went top w x node (heard top node n (w.sessions node) from b)
      → Acted top x from node (kind_of b)
  acted from sent (At t commit stamp) e s k c went = tt
  acted from sent (NotBy t time) e s k c went = tt
  acted from sent (Check t time) e s k c went = tt
  acted from sent (Done t commit stamp) e s k c went = done_left from t commit stamp s.0.decided k c went
  acted from sent (PartNow number rows) e s k c went =
      let st = heard top node n (w.sessions node) from (PartNow number rows) in
      let has : NotMissing top (session_taken st.state) number from =
      record { number = subst (λ m. number ≤ m) (sym went.count) k; round = λ q. heard_leaves top node n (w.sessions node) from (PartNow number rows) (q ∙ went.count) } in
      subst (λ z. NotMissing top z number from) (sym c.state) has
  acted from sent (PartAt number bound answer) e s k c went =
      let st = heard top node n (w.sessions node) from (PartAt number bound answer) in
      let has : NotAwaited top (session_taken st.state) number from =
      record {
        number = subst (λ m. number ≤ m) (sym went.count) k.number;
        round = λ q. heard_leaves top node n (w.sessions node) from (PartAt number bound answer) k.round (q ∙ went.count);
      } in
      subst (λ z. NotAwaited top z number from) (sym c.state) has
  acted from sent (DepOk dependency waiter commit) e s k c went = counted from (dc_of top from) dependency waiter commit k c went
  acted from sent _ e s k c went = absurd (false≢true (sym e))

  pub heard_left : (from sent : ℕ) (b : Body) → is_for_shard (kind_of b) ≡ false → sent ≤ n → Hears top w from node sent b
      → SaysLive top w from node (kind_of b)
      → Comes w x node (heard top node n (w.sessions node) from b)
      → Went top w x node (heard top node n (w.sessions node) from b) × Acted top x from node (kind_of b)
  heard_left from sent b e early s k c =
      let went = heard_went top w x node n some inv le (live.homes node) placed (live.current node) from sent b early s c in
      (went, acted from sent b e s k c went)
