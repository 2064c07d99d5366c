-- What a session's step leaves under way: steps that many messages lead to.
use Rattle.std.proofs.Common.{◌≡◌, ℕ, ◌<◌, false, List, [], Option, Some, None, ◌⊎◌, inl, inr, refl, ap, subst}
use Rattle.std.specs.Prelude.{option_map, Contains}
use Rattle.logical_time.specs.Stamps.{TxnValue, WriterValue}
use Rattle.slice.specs.declared.read.Read.{Read}
use Rattle.planner.specs.Partition.{shard_of as shard_of_key}
use Rattle.messages.specs.declared.rows_at.RowAt.{RowAt}
use Rattle.messages.specs.declared.op.Op.{Op}
use Rattle.messages.specs.declared.op.Op.TheVariants as op
use Rattle.messages.specs.declared.outcome.Outcome.{Outcome}
use Rattle.messages.specs.declared.outcome.Outcome.TheVariants as outcome
use Rattle.messages.specs.declared.envelope.Envelope.{Envelope}
use Rattle.messages.specs.Topology.{TopologyValue, shard_node}
use Rattle.messages.specs.Session.{SessionStep, Open, Idle, Writing, FirstRound, SecondRound, Moving, Finished, calm, is_idle, ended, moved}
use Rattle.messages.specs.Rounds.{with_writers, answer_of}
use Rattle.messages.specs.SessionEvents.{answered, given_up, session_taken}
use Rattle.world.specs.Run.{Run, Submission, Completed, completed_of, ended_by}
use Rattle.world.proofs.safety.Invariant.{IsOpen, AnsweredFrom, Inv}
use Rattle.world.proofs.histories.DecidedIn.{found_submission}
use Rattle.world.proofs.keeping.SessionEnds.{open_txn}
use Rattle.world.proofs.keeping.WritersDone.{writer_applied, cases}
use Rattle.world.proofs.envelopes.About.{kind_of}
use Rattle.world.proofs.under_way.Underway.{Placed, FirstHas, SecondIs, SecondHas, IsNotLeft, SessionOnward, SaysLive, HasEnded, OpenLive}
use Rattle.world.proofs.under_way.LiveGrow.{sent_in}
use Rattle.world.proofs.under_way.OpenReads.{first_home, second_home, goes_on}
use Rattle.world.proofs.lists.Members.{none_in_empty}

-- the session's step is in the run after it
pub record Comes (w x : Run) (node : ℕ) (st : SessionStep) : Type 0 where
  pub state : x.sessions node ≡ session_taken st.state
  pub sent : (e : Envelope) → Contains w.sent e → Contains x.sent e
  pub news : (e : Envelope) → Contains st.sends e → Contains x.sent e
  pub submitted : (b : Submission) → Contains w.submitted b → Contains x.submitted b
  pub transcript : (c : Completed) → Contains w.transcript c → Contains x.transcript c
  pub ended : (c : Completed) → ended_by w.submitted node st ≡ Some c → Contains x.transcript c

-- what a session's step at a message leaves in the run after it
pub record Went (top : TopologyValue) (w x : Run) (node : ℕ) (st : SessionStep) : Type 0 where
  pub onward : SessionOnward top (w.sessions node) (session_taken st.state)
  pub count : st.state.count ≡ (w.sessions node).count
  pub sends : (e : Envelope) → Contains st.sends e → SaysLive top x e.from e.to (kind_of e.body)
  pub dependencies : (k : WriterValue) → Contains st.state.dependencies k → Placed top x k
  pub home : st.state.home < top.dcs
  pub current : OpenLive top x node (session_taken st.state) st.state.current
  -- the open operation goes on or ends
  pub ends : (is_idle (w.sessions node).current ≡ false → is_idle st.state.current ≡ false) ⊎ HasEnded x
      (record { session = node; number = (w.sessions node).count })

pub placed_later : {top : TopologyValue} {w x : Run} {k : WriterValue} → ((b : Submission) → Contains w.submitted b → Contains x.submitted b)
    → Placed top w k → Placed top x k
placed_later f p =
    record {
      submission = p.submission;
      batch = p.batch;
      written = record { among = f p.submission p.written.among; txn = p.written.txn; op = p.written.op };
      coordinator = p.coordinator;
    }

module _ (top : TopologyValue) (w x : Run) (node n : ℕ) (some : 0 < top.shards) (inv : Inv top w)
    (homed : (w.sessions node).home < top.dcs) (placed : (k : WriterValue) → Contains (w.sessions node).dependencies k → Placed top w k)
    (live : OpenLive top w node (w.sessions node) (w.sessions node).current) where
  -- ## The operation goes on

  pub waits_onward : (o : Open) → ((m : ℕ) → FirstHas top (w.sessions node) (w.sessions node).current m → FirstHas top (w.sessions node) o m)
      → ((time : ℕ) → SecondIs (w.sessions node).current time → SecondIs o time)
      → ((m : ℕ) → SecondHas top (w.sessions node) (w.sessions node).current m → SecondHas top (w.sessions node) o m)
      → ((t : TxnValue) → IsNotLeft (w.sessions node).current t → IsNotLeft o t) → SessionOnward top (w.sessions node) (record (w.sessions node) { clock = n; current = o; untaken = None })
  waits_onward o first time second left =
      let a = w.sessions node in
      let b = record a { clock = n; current = o; untaken = None } in
      goes_on top a b refl (λ m k. first_home top a b refl o m (first m k)) time (λ m k. second_home top a b refl o m (second m k)) left

  pub waits_went : (o : Open) (sends : List Envelope)
      → Comes w x node (record { state = record (w.sessions node) { clock = n; current = o }; sends = sends })
      → SessionOnward top (w.sessions node) (record (w.sessions node) { clock = n; current = o; untaken = None })
      → ((e : Envelope) → Contains sends e → SaysLive top x e.from e.to (kind_of e.body))
      → OpenLive top x node (record (w.sessions node) { clock = n; current = o; untaken = None }) o
      → (is_idle (w.sessions node).current ≡ false → is_idle o ≡ false) → Went top w x node
      (record { state = record (w.sessions node) { clock = n; current = o }; sends = sends })
  waits_went o sends c onward f k busy =
      record {
        onward = onward;
        count = refl;
        sends = f;
        dependencies = λ d m. placed_later c.submitted (placed d m);
        home = homed;
        current = k;
        ends = inl busy;
      }

  -- what is open goes on so
  open_later : (now o : Open) → ((e : Envelope) → Contains w.sent e → Contains x.sent e) → OpenLive top w node (w.sessions node) o
      → OpenLive top x node (record (w.sessions node) { clock = n; current = now; untaken = None }) o
  open_later now Idle f k = tt
  open_later now (Writing coordinator) f k = tt
  open_later now (FirstRound read heard) f k = record { some = k.some; asked = λ shard m. sent_in f (k.asked shard m) }
  open_later now (SecondRound read time first heard) f k = record { some = k.some; asked = λ shard m. sent_in f (k.asked shard m) }
  open_later now (Moving dc left floor) f k = record { there = k.there; some = k.some; asked = λ d m. sent_in f (k.asked d m) }

  pub calm_went : Comes w x node (calm n (w.sessions node)) → Went top w x node (calm n (w.sessions node))
  calm_went c =
      let o = (w.sessions node).current in
      waits_went o [] c (waits_onward o (λ m k. k) (λ m k. k) (λ m k. k) (λ t k. k)) (λ e m. absurd (none_in_empty e m)) (open_later o o c.sent live) (λ e. e)

  -- ## The operation ends

  -- it stands in the transcript
  pub ended_here : (home floor : ℕ) (dependencies : List WriterValue) (out : Outcome) (dc : ℕ) (o : Op) → IsOpen w node (w.sessions node).count dc o
      → Comes w x node (ended n (record (w.sessions node) { home = home }) floor dependencies out)
      → HasEnded x (record { session = node; number = (w.sessions node).count })
  ended_here home floor dependencies out dc o k c =
      let a = w.sessions node in
      let t : TxnValue = record { session = node; number = a.count } in
      let s = k.submission in
      let f : Finished = record { number = a.count; outcome = out } in
      let done : Completed = record { node = node; number = a.count; home = s.home; op = s.op; outcome = out } in
      let is : completed_of w.submitted node f ≡ Some done =
      ap (λ (z : Option Submission). option_map (λ s. record { node = node; number = f.number; home = s.home; op = s.op; outcome = f.outcome }) z)
      (found_submission top w inv.submitted s t k.among (open_txn k)) in
      (done, c.ended done is, refl)

  -- at this home
  pub ended_at_went : (home floor : ℕ) (dependencies : List WriterValue) (out : Outcome) (dc : ℕ) (o : Op) → IsOpen w node (w.sessions node).count dc o
      → home < top.dcs → ((k : WriterValue) → Contains dependencies k → Placed top x k)
      → Comes w x node (ended n (record (w.sessions node) { home = home }) floor dependencies out)
      → Went top w x node (ended n (record (w.sessions node) { home = home }) floor dependencies out)
  ended_at_went home floor dependencies out dc o k there f c =
      let st = ended n (record (w.sessions node) { home = home }) floor dependencies out in
      record {
        onward = goes_on top (w.sessions node) (session_taken st.state) refl (λ m q. tt) (λ m q. tt) (λ m q. tt) (λ t q. tt);
        count = refl;
        sends = λ e m. absurd (none_in_empty e m);
        dependencies = f;
        home = there;
        current = tt;
        ends = inr (ended_here home floor dependencies out dc o k c);
      }

  pub ended_went : (floor : ℕ) (dependencies : List WriterValue) (out : Outcome) (dc : ℕ) (o : Op) → IsOpen w node (w.sessions node).count dc o
      → ((k : WriterValue) → Contains dependencies k → Placed top x k)
      → Comes w x node (ended n (w.sessions node) floor dependencies out) → Went top w x node (ended n (w.sessions node) floor dependencies out)
  ended_went floor dependencies out dc o k f c = ended_at_went (w.sessions node).home floor dependencies out dc o k homed f c

  pub moved_went : (dc floor : ℕ) → dc < top.dcs → IsOpen w node (w.sessions node).count (w.sessions node).home (op.Move dc)
      → Comes w x node (moved n (w.sessions node) dc floor) → Went top w x node (moved n (w.sessions node) dc floor)
  moved_went dc floor there opened c =
      ended_at_went dc floor (w.sessions node).dependencies (outcome.Moved dc floor) (w.sessions node).home (op.Move dc) opened there
      (λ k m. placed_later c.submitted (placed k m)) c

  -- each writer that a read rests on is named with its coordinator
  writers_named : (dc time : ℕ) (read : Read) (rows : List RowAt) → AnsweredFrom top w dc read time rows → (k : WriterValue)
      → Contains (with_writers (w.sessions node).dependencies rows) k → Placed top w k
  writers_named dc time read rows from k m = go (cases top w some inv rows (w.sessions node).dependencies k m)
    where
      go : Contains (w.sessions node).dependencies k ⊎ ((r : RowAt) × Contains rows r × Contains r.writers k) → Placed top w k
      go (inl i) = placed k i
      go (inr (r, i, j)) =
          let v = writer_applied top w some inv (shard_node top dc (shard_of_key top.shards r.key)) time read r (from.right r i) k j in
          subst (λ z. Placed top w z) v.3 (record { submission = v.1.submission; batch = v.1.batch; written = v.1.written; coordinator = v.1.coordinator })

  pub answered_went : (read : Read) (time : ℕ) (rows : List RowAt) → IsOpen w node (w.sessions node).count (w.sessions node).home (op.Read read)
      → AnsweredFrom top w (w.sessions node).home read time rows
      → Comes w x node (answered n (w.sessions node) read time rows) → Went top w x node (answered n (w.sessions node) read time rows)
  answered_went read time rows opened from c =
      ended_went time (with_writers (w.sessions node).dependencies rows) (outcome.Read time (answer_of read rows)) (w.sessions node).home (op.Read read) opened
      (λ k m. placed_later c.submitted (writers_named (w.sessions node).home time read rows from k m)) c

  pub given_up_went : (read : Read) → IsOpen w node (w.sessions node).count (w.sessions node).home (op.Read read)
      → Comes w x node (given_up n (w.sessions node)) → Went top w x node (given_up n (w.sessions node))
  given_up_went read opened c =
      ended_went (w.sessions node).floor (w.sessions node).dependencies outcome.Collected (w.sessions node).home (op.Read read) opened
      (λ k m. placed_later c.submitted (placed k m)) c
