-- What is before an operation is committed before it: the past of a read stands in its table.
use Rattle.std.proofs.Common.{◌≡◌, ℕ, ◌+◌, ◌<◌, List, [], ◌∷◌, Some, None, Option, ◌⊎◌, inl, inr, refl, sym, ap, ◌∙◌, subst, arith}
use Rattle.std.specs.Prelude.{option_and_then, Contains}
use Rattle.logical_time.specs.Stamps.{TxnValue, WriterValue}
use Rattle.column_family.specs.declared.batch.Change.{Change}
use Rattle.slice.specs.declared.read.Read.{Read}
use Rattle.slice.specs.declared.read.AnsweredRow.{AnsweredRow}
use Rattle.messages.specs.declared.rows_at.RowAt.{RowAt}
use Rattle.messages.specs.declared.op.Op.{Op}
use Rattle.messages.specs.declared.op.Op.TheVariants as op
use Rattle.messages.specs.declared.outcome.Outcome.{Outcome}
use Rattle.messages.specs.declared.outcome.Outcome.TheVariants as outcome
use Rattle.messages.specs.Topology.{TopologyValue, dc_of}
use Rattle.messages.specs.Words.{is_same_txn}
use Rattle.messages.specs.Shard.{Decision}
use Rattle.world.specs.Run.{Run, Submission, Completed, submission_of}
use Rattle.world.specs.Committed.{time_of}
use Rattle.world.specs.Histories.{batch_in}
use Rattle.world.specs.Before.{IsSubmitted, IsWrite, IsCompleted, ReadRestsOn, EndRestsOn, RestsOn, IsJustBefore, IsBeforeOver, Past}
use Rattle.world.specs.Promises.{Fits}
use Rattle.world.proofs.steps.EndCases.{end_cases}
use Rattle.world.proofs.lists.Members.{found, same_txn}
use Rattle.world.proofs.safety.Facts.{txn_of, IsWritten, IsDone}
use Rattle.world.proofs.safety.Invariant.{AnsweredFrom, DependsOnDone, EndSound, Inv}
use Rattle.world.proofs.safety.Lasting.{done_later}
use Rattle.world.proofs.causal.Causal.{txn_ended, Covered, direct, via, LaterCovered, writers_in, EndCausal, Causal}

-- the submission of a write, of its batch
pub written_at : (w : Run) (t : TxnValue) → IsWrite w t → (b : Submission) × (batch : List Change) × IsWritten w t b batch
written_at w t k = go (submission_of w.submitted t) refl k.1
  where
    op_go : (b : Submission) (o : Op) → b.op ≡ o → batch_in o ≡ Some k.0 → b.op ≡ op.Batch k.0
    op_go b (op.Batch batch) e q = e ∙ ap op.Batch (cc)
    op_go b (op.Read read) e q = absurd (cc)
    op_go b (op.Move dc) e q = absurd (cc)

    go : (o : Option Submission) → submission_of w.submitted t ≡ o → option_and_then (λ s. batch_in s.op) o ≡ Some k.0 → (b : Submission) × (batch : List Change) × IsWritten w t b batch
    go None e q = absurd (cc)
    go (Some b) e q =
        let f = found (λ s. is_same_txn (record { session = s.session; number = s.number }) t) w.submitted b e in
        (b, k.0, record { among = f.0; txn = same_txn (txn_of b) t f.1; op = op_go b b.op refl q })

module _ (top : TopologyValue) (w : Run) (some : 0 < top.shards) (inv : Inv top w) (causal : Causal top w)
    (rests : (dc time : ℕ) (read : Read) (rows : List RowAt) → AnsweredFrom top w dc read time rows → (u : TxnValue) → ReadRestsOn top w dc read time u → (k : WriterValue) × Contains (writers_in rows) k × (k.txn ≡ u))
    (committed : (dc time : ℕ) (read : Read) (rows : List RowAt) → AnsweredFrom top w dc read time rows → (k : WriterValue) → Contains (writers_in rows) k → IsDone top w dc k.txn (time + 1)) where
  -- ## What reaches an operation

  -- the transaction is committed before the operation: below each commit time of a write, not above a read's time, nor above a
  -- move's floor in the new home
  pub record Reached (u v : TxnValue) : Type 0 where
    pub write : (node : ℕ) (d : Decision) → Contains (w.shards node).decided d → d.txn ≡ v → IsDone top w (dc_of top node) u d.commit
    pub read : (c : Completed) → Contains w.transcript c → txn_ended c ≡ v → (r : Read) (time : ℕ) (answer : List AnsweredRow) → c.op ≡ op.Read r → c.outcome ≡ outcome.Read time answer → IsDone top w c.home u (time + 1)
    pub move : (c : Completed) → Contains w.transcript c → txn_ended c ≡ v → (dc floor : ℕ) → c.outcome ≡ outcome.Moved dc floor → IsDone top w dc u (floor + 1)

  -- what dependencies cover is committed where they are, before them
  covered_done : (t : TxnValue) (deps : List WriterValue) (dc n : ℕ) → ((k : WriterValue) → Contains deps k → IsDone top w dc k.txn n) → Covered w t deps → IsDone top w dc t n
  covered_done t deps dc n f (direct l k m q) = subst (λ z. IsDone top w dc z n) q (f k m)
  covered_done t deps dc n f (via l k b m among q c) =
      let d = f k m in
      let s = (inv.shards d.node).decided d.decision d.among in
      let same : s.submission ≡ b = inv.submitted.one s.submission b s.written.among among (s.written.txn ∙ d.txn ∙ sym q) in
      let lt = d.commit in
      let here : IsDone top w (dc_of top d.node) t d.decision.commit =
      covered_done t b.dependencies (dc_of top d.node) d.decision.commit (λ k m. s.done k (subst (λ z. Contains z.dependencies k) (sym same) m)) c in
      subst (λ z. IsDone top w z t n) d.here (done_later (omega arith) here)

  later_write : (session m : ℕ) (t : TxnValue) → LaterCovered w session m t → (y : TxnValue) → y.session ≡ session → m < y.number → (node : ℕ) (d : Decision) → Contains (w.shards node).decided d → d.txn ≡ y → IsDone top w (dc_of top node) t d.commit
  later_write session m t k y es lt node d among q =
      let s = (inv.shards node).decided d among in
      let e : txn_of s.submission ≡ y = s.written.txn ∙ q in
      let number : s.submission.number ≡ y.number = ap (λ z. z.number) e in
      covered_done t s.submission.dependencies (dc_of top node) d.commit s.done
      (k.submitted s.submission s.written.among (ap (λ z. z.session) e ∙ es) (omega arith))

  read_go : (e : Completed) (o : Op) (out : Outcome) → EndSound o out top w e.home (txn_ended e) → (read : Read) (time : ℕ) (answer : List AnsweredRow)
      → o ≡ op.Read read → out ≡ outcome.Read time answer → DependsOnDone top w e.home (txn_ended e) (time + 1)
  read_go e o out k read time answer p q =
      let s : EndSound (op.Read read) (outcome.Read time answer) top w e.home (txn_ended e) =
      subst (λ z. EndSound (op.Read read) z top w e.home (txn_ended e)) q (subst (λ z. EndSound z out top w e.home (txn_ended e)) p k) in
      s.depends

  later_read : (session m : ℕ) (t : TxnValue) → LaterCovered w session m t → (e : Completed) → Contains w.transcript e → e.node ≡ session → m < e.number
      → (read : Read) (time : ℕ) (answer : List AnsweredRow) → e.op ≡ op.Read read → e.outcome ≡ outcome.Read time answer → IsDone top w e.home t (time + 1)
  later_read session m t k e among es lt read time answer o a =
      let d = read_go e e.op e.outcome (inv.transcript e among).came read time answer o a in
      let number : d.submission.number ≡ e.number = ap (λ z. z.number) d.txn in
      covered_done t d.submission.dependencies e.home (time + 1) d.done
      (k.submitted d.submission d.among (ap (λ z. z.session) d.txn ∙ es) (omega arith))

  move_go : (e : Completed) (o : Op) (out : Outcome) → Fits o out → EndSound o out top w e.home (txn_ended e) → (dc floor : ℕ) → out ≡ outcome.Moved dc floor
      → DependsOnDone top w dc (txn_ended e) (floor + 1)
  move_go e o out =
      end_cases (λ o out. EndSound o out top w e.home (txn_ended e) → (dc floor : ℕ) → out ≡ outcome.Moved dc floor → DependsOnDone top w dc (txn_ended e) (floor + 1))
      (record {
        wrote = λ batch commit stamp k dc floor q. absurd (cc);
        answered = λ read time answer k dc floor q. absurd (cc);
        given_up = λ read k dc floor q. absurd (cc);
        moved = λ there low k dc floor q.
            let homes : there ≡ dc = cc in
            let floors : low ≡ floor = cc in
            subst (λ z. DependsOnDone top w z (txn_ended e) (floor + 1)) homes (subst (λ z. DependsOnDone top w there (txn_ended e) (z + 1)) floors k);
      }) o out

  later_move : (session m : ℕ) (t : TxnValue) → LaterCovered w session m t → (e : Completed) → Contains w.transcript e → e.node ≡ session → m < e.number
      → (dc floor : ℕ) → e.outcome ≡ outcome.Moved dc floor → IsDone top w dc t (floor + 1)
  later_move session m t k e among es lt dc floor a =
      let c = inv.transcript e among in
      let d = move_go e e.op e.outcome c.fits c.came dc floor a in
      let number : d.submission.number ≡ e.number = ap (λ z. z.number) d.txn in
      covered_done t d.submission.dependencies dc (floor + 1) d.done
      (k.submitted d.submission d.among (ap (λ z. z.session) d.txn ∙ es) (omega arith))

  -- what covers the transaction reaches it from all that the session submits later
  later_reached : (session m : ℕ) (t : TxnValue) → LaterCovered w session m t → (y : TxnValue) → session ≡ y.session → m < y.number → Reached t y
  later_reached session m t k y es lt =
      record {
        write = λ x d i p. later_write session m t k y (sym es) lt x d i p;
        read = λ f i p r time answer o a.
            let number : f.number ≡ y.number = ap (λ z. z.number) p in
            later_read session m t k f i (ap (λ z. z.session) p ∙ sym es) (omega arith) r time answer o a;
        move = λ f i p dc floor a.
            let number : f.number ≡ y.number = ap (λ z. z.number) p in
            later_move session m t k f i (ap (λ z. z.session) p ∙ sym es) (omega arith) dc floor a;
      }

  -- the transaction is the operation or is committed before it, and is committed before all that its session submits after
  -- completing it
  pub record Carries (u z : TxnValue) : Type 0 where
    pub here : (z ≡ u) ⊎ Reached u z
    pub later : IsCompleted w z → (y : TxnValue) → IsSubmitted w y → z.session ≡ y.session → z.number < y.number → Reached u y

  -- ## A write that its session completed

  write_go : (c : Completed) (b : Submission) (batch : List Change) → b.op ≡ op.Batch batch → b.op ≡ c.op → (o : Op) (e : Outcome) → Fits o e → c.op ≡ o
      → EndCausal o e top w c → LaterCovered w c.node c.number (txn_ended c)
  write_go c b batch is same o e =
      end_cases (λ o e. c.op ≡ o → EndCausal o e top w c → LaterCovered w c.node c.number (txn_ended c))
      (record {
        wrote = λ other commit stamp p l. l;
        answered = λ read time answer p l. let z : op.Batch batch ≡ op.Read read = sym is ∙ same ∙ p in absurd (cc);
        given_up = λ read p l. let z : op.Batch batch ≡ op.Read read = sym is ∙ same ∙ p in absurd (cc);
        moved = λ dc floor p l. let z : op.Batch batch ≡ op.Move dc = sym is ∙ same ∙ p in absurd (cc);
      }) o e

  write_end : (c : Completed) → Contains w.transcript c → (b : Submission) (batch : List Change) → IsWritten w (txn_ended c) b batch
      → LaterCovered w c.node c.number (txn_ended c)
  write_end c m b batch k =
      let s = inv.transcript c m in
      let o = s.opened in
      let same : b ≡ o.submission = inv.submitted.one b o.submission k.among o.among (k.txn ∙ λ i. record { session = sym o.session i; number = sym o.number i }) in
      write_go c b batch k.op (ap (λ z. z.op) same ∙ o.op) c.op c.outcome s.fits refl (causal.ended c m)

  own_carries : (u : TxnValue) → IsWrite w u → Carries u u
  own_carries u k = record { here = inl refl; later = λ done y sub es lt. go (written_at w u k) done y es lt }
    where
      go : (b : Submission) × (batch : List Change) × IsWritten w u b batch → IsCompleted w u → (y : TxnValue) → u.session ≡ y.session → u.number < y.number → Reached u y
      go (b, batch, k) (c, (m, q), t) y es lt =
          let later = write_end c m b batch (record { among = k.among; txn = k.txn ∙ sym q; op = k.op }) in
          let number : c.number ≡ u.number = ap (λ z. z.number) q in
          subst (λ z. Reached z y) q (later_reached c.node c.number (txn_ended c) later y (ap (λ z. z.session) q ∙ es) (omega arith))

  -- ## A read that rests on a transaction

  pub record ReadEnd (c : Completed) (z : TxnValue) : Type 0 where
    pub time : ℕ
    pub is : time_of c.outcome ≡ time
    pub read : Read
    pub op : c.op ≡ op.Read read
    pub done : IsDone top w c.home z (time + 1)
    pub later : LaterCovered w c.node c.number z

  rests_go : (c : Completed) (z : TxnValue) (o : Op) (e : Outcome) → Fits o e → c.op ≡ o → c.outcome ≡ e → EndRestsOn o e top w c.home z → EndCausal o e top w c → ReadEnd c z
  rests_go c z o e =
      end_cases (λ o e. c.op ≡ o → c.outcome ≡ e → EndRestsOn o e top w c.home z → EndCausal o e top w c → ReadEnd c z)
      (record {
        wrote = λ batch commit stamp p q r k. absurd r;
        answered = λ read time answer p q r k.
            let n = rests c.home time read k.0 k.1 z r in
            record {
              time = time;
              is = ap time_of q;
              read = read;
              op = p;
              done = subst (λ v. IsDone top w c.home v (time + 1)) n.2 (committed c.home time read k.0 k.1 n.0 n.1);
              later = subst (λ v. LaterCovered w c.node c.number v) n.2 (k.2 n.0 n.1);
            };
        given_up = λ read p q r k. absurd r;
        moved = λ dc floor p q r k. absurd r;
      }) o e

  read_end : (c : Completed) → Contains w.transcript c → (z : TxnValue) → EndRestsOn c.op c.outcome top w c.home z → ReadEnd c z
  read_end c m z r = rests_go c z c.op c.outcome (causal.fits c m) refl refl r (causal.ended c m)

  -- where what carries the transaction is decided or done, so is the transaction
  through : (u z : TxnValue) → Carries u z → (dc n : ℕ) → IsDone top w dc z n → IsDone top w dc u n
  through u z k dc n d =
      elim (k.here) [
        | inl same ↦ subst (λ v. IsDone top w dc v n) same d
        | inr r ↦ let lt = d.commit in subst (λ v. IsDone top w v u n) d.here (done_later (omega arith) (r.write d.node d.decision d.among d.txn))
      ]

  -- a read is no write
  no_decision : (c : Completed) → Contains w.transcript c → (r : Read) → c.op ≡ op.Read r → (node : ℕ) (d : Decision) → Contains (w.shards node).decided d → d.txn ≡ txn_ended c → ⊥
  no_decision c m r e node d among q =
      let s = (inv.shards node).decided d among in
      let o = (inv.transcript c m).opened in
      let same : s.submission ≡ o.submission =
      inv.submitted.one s.submission o.submission s.written.among o.among (s.written.txn ∙ q ∙ λ i. record { session = sym o.session i; number = sym o.number i }) in
      let z : op.Batch s.batch ≡ op.Read r = sym s.written.op ∙ ap (λ v. v.op) same ∙ o.op ∙ e in
      absurd (cc)

  rests_reached : (u z y : TxnValue) → Carries u z → RestsOn top w y z → Reached u y
  rests_reached u z y k (c, (m, q), r) =
      let among = m in
      let e = read_end c among z r in
      let done : IsDone top w c.home u (e.time + 1) = through u z k c.home (e.time + 1) e.done in
      record {
        write = λ x d i p. absurd (no_decision c among e.read e.op x d i (p ∙ sym q));
        read = λ f i p r time answer o a.
            let same : f ≡ c = causal.one f c i among (p ∙ sym q) in
            let t : e.time ≡ time = sym e.is ∙ ap (λ v. time_of v.outcome) (sym same) ∙ ap time_of a in
            subst (λ v. IsDone top w v.home u (time + 1)) (sym same) (subst (λ v. IsDone top w c.home u (v + 1)) t done);
        move = λ f i p dc floor a.
            let same : f ≡ c = causal.one f c i among (p ∙ sym q) in
            let fits : Fits c.op (outcome.Moved dc floor) = subst (Fits c.op) (ap (λ v. v.outcome) (sym same) ∙ a) (causal.fits c among) in
            absurd (subst (λ o. Fits o (outcome.Moved dc floor)) e.op fits);
      }

  rests_later : (u z y : TxnValue) → Carries u z → RestsOn top w y z → (v : TxnValue) → y.session ≡ v.session → y.number < v.number → Reached u v
  rests_later u z y k (c, (m, q), r) v es lt =
      let e = read_end c m z r in
      let number : c.number ≡ y.number = ap (λ v. v.number) q in
      let reached = later_reached c.node c.number z e.later v (ap (λ v. v.session) q ∙ es) (omega arith) in
      record {
        write = λ x d i p. through u z k (dc_of top x) d.commit (reached.write x d i p);
        read = λ f i p r time answer o a. through u z k f.home (time + 1) (reached.read f i p r time answer o a);
        move = λ f i p dc floor a. through u z k dc (floor + 1) (reached.move f i p dc floor a);
      }

  -- ## Chains

  link_reached : (u z y : TxnValue) → Carries u z → IsJustBefore top w z y → Reached u y
  link_reached u z y k (inl (ended, sub, es, lt)) = k.later ended y sub es lt
  link_reached u z y k (inr r) = rests_reached u z y k r

  link_later : (u z y : TxnValue) → Carries u z → IsJustBefore top w z y → (v : TxnValue) → IsSubmitted w v → y.session ≡ v.session → y.number < v.number → Reached u v
  link_later u z y k (inl (ended, sub, es, lt)) v more same lv = k.later ended v more (es ∙ same) (omega arith)
  link_later u z y k (inr r) v more same lv = rests_later u z y k r v same lv

  chain_reached : (u z : TxnValue) (xs : List TxnValue) (v : TxnValue) → Carries u z → IsBeforeOver top w z xs v → Reached u v
  chain_reached u z [] v k b = link_reached u z v k b
  chain_reached u z (x ∷ xs) v k b =
      chain_reached u x xs v (record { here = inr (link_reached u z x k b.0); later = λ ended y sub es lt. link_later u z x k b.0 y sub es lt }) b.1

  -- what is in the past of an operation is committed before it
  pub past_reached : (u v : TxnValue) → Past top w v u → Reached u v
  past_reached u v p = chain_reached u u p.1.0 v (own_carries u p.0) p.1.1
