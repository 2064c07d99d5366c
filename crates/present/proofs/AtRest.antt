-- A collection at rest raises no horizon above what an open read may ask for: so no read is given up.
use Rattle.std.proofs.Common.{◌≡◌, ◌∙◌, ℕ, ◌+◌, ◌<◌, ◌≤◌, Bool, true, false, ◌&&◌, not, nat_lt, List, [], ◌∷◌, ◌++◌, Some, Ok, inl, inr, refl, sym, ap, subst, arith, eqb-true}
use Rattle.std.specs.Prelude.{◌==◌, filter, Contains}
use Rattle.std.specs.List.{list_any}
use Rattle.std.proofs.lemmas.Bool.{false≢true, and_parts}
use Rattle.std.proofs.lemmas.Bool.Decides.{nat_tests}
use Rattle.logical_time.specs.Stamps.{TxnValue}
use Rattle.slice.specs.declared.read.Read.{Read}
use Rattle.slice.specs.Rows.{row_of}
use Rattle.store.specs.declared.part.Applied.{Applied}
use Rattle.messages.specs.declared.op.Op.{Op}
use Rattle.messages.specs.declared.outcome.Outcome.{Outcome}
use Rattle.messages.specs.declared.outcome.Outcome.TheVariants as outcome
use Rattle.messages.specs.declared.rows_at.AtTime.TheVariants as at
use Rattle.messages.specs.declared.rows_now.RowNow.{RowNow}
use Rattle.messages.specs.declared.body.Body.{Body}
use Rattle.messages.specs.declared.body.Body.TheVariants.{PartNow}
use Rattle.messages.specs.declared.envelope.Envelope.{Envelope}
use Rattle.messages.specs.Topology.{TopologyValue, is_topology}
use Rattle.messages.specs.Words.{is_same_txn}
use Rattle.messages.specs.Clock.{ticked}
use Rattle.messages.specs.Shard.{ShardState, PreparedPart}
use Rattle.messages.specs.Known.{is_applied}
use Rattle.messages.specs.Rows.{touches_row, marks_on, least_mark, row_now}
use Rattle.messages.specs.Session.{SessionState, SessionStep, Finished, Open, Idle, Writing, FirstRound, SecondRound, Moving, HeardNow, HeardAt, is_idle}
use Rattle.messages.specs.Rounds.{asked_nodes, rows_from, is_late, late_nodes, was_heard_at}
use Rattle.messages.specs.ShardEvents.{handled, collected}
use Rattle.messages.specs.SessionEvents.{heard, session_taken}
use Rattle.messages.specs.Submitting.{begun}
use Rattle.shard.proofs.lists.Lists.{each_contained}
use Rattle.shard.proofs.steps.Handles.{ticked_above}
use Rattle.shard.proofs.steps.Sending.{handled_gives}
use Rattle.world.specs.declared.run_event.RunEvent.{RunEvent}
use Rattle.world.specs.declared.run_event.RunEvent.TheVariants.{Submit}
use Rattle.world.specs.Run.{Run, Submission, opening, ended_by, with_session, submission_by, after_shard, after_session, after_submission, step, continued, run}
use Rattle.world.specs.Quiet.{IsQuiet}
use Rattle.world.specs.Settled.{Settled}
use Rattle.world.proofs.lists.Members.{none_in_empty, contains_first, contains_rest, last_or_old, mapped_from, filter_contains, flat_contains, any_found, any_has, contains_get, Contains-append_cases}
use Rattle.world.proofs.growing.Growth.{Grows, SecondAsked}
use Rattle.world.proofs.safety.Invariant.{Inv, Hears, TellsCollected}
use Rattle.world.proofs.safety.Runs.{every_run, step_grows, run_after}
use Rattle.world.proofs.envelopes.Addresses.{stands}
use Rattle.world.proofs.shards.RightAnswers.{hears}
use Rattle.world.proofs.steps.EventCases.{timed_cases}
use Rattle.world.proofs.steps.HeardCases.{FirstAnswer, SecondAnswer, with_rows_now, heard_cases, heard_kinds}
use Rattle.world.proofs.steps.BegunCases.{begun_cases}
use Rattle.world.proofs.steps.OwnSends.{handled_own, handled_low}
use Rattle.world.proofs.steps.SessionSends.{IsOfSession, heard_sends, begun_sends}
use Rattle.world.proofs.steps.Transcripts.{ended_or_old}
use Rattle.world.proofs.fresh.HeardRuns.{ended_is_finished, changed_actor}
use Rattle.world.proofs.promised.Laws.{quiet_means_done}
use Rattle.present.specs.AtRest.{ComesAtRest, ComeAtRest, NoneIsGivenUp}

-- ## What holds of every run whose collections come at rest

-- what the open read heard in its first round
abbrev pub heard_in : Open → List HeardNow
heard_in Idle = []
heard_in (Writing coordinator) = []
heard_in (FirstRound read hs) = hs
heard_in (SecondRound read time first hs) = first
heard_in (Moving dc left floor) = []

-- each of these rows of a shard is valid up to the shard's horizon, or longer
abbrev pub AreAbove : (ℕ → ShardState) → ℕ → List RowNow → Type 0
AreAbove shards node rows = (r : RowNow) → Contains rows r → (shards node).low ≤ r.lvt

-- so are those of a first answer to the open operation of its session
abbrev pub IsAbove : Run → Envelope → Body → Type 0
IsAbove w e (PartNow number rows) = number ≡ (w.sessions e.to).count → is_idle (w.sessions e.to).current ≡ false → AreAbove w.shards e.from rows
IsAbove w e other = Unit {0}

pub record Rests (w : Run) : Type 0 where
  pub low : (node : ℕ) → (w.shards node).low ≤ (w.shards node).clock
  -- a mark isn't below the horizon
  pub marks : (node : ℕ) (p : PreparedPart) → Contains (w.shards node).prepared p → is_applied p.txn (w.shards node) ≡ false → (w.shards node).low ≤ p.time
  pub heard : (node : ℕ) (h : HeardNow) → Contains (heard_in (w.sessions node).current) h → AreAbove w.shards h.from h.rows
  pub sent : (e : Envelope) → Contains w.sent e → IsAbove w e e.body
  pub none : NoneIsGivenUp w

-- ## Latest valid times

least_above : (low n : ℕ) (ps : List PreparedPart) → low ≤ n → ((p : PreparedPart) → Contains ps p → low ≤ p.time) → low ≤ least_mark n ps
least_above low n [] le each = le
least_above low n (p ∷ ps) le each =
    let here = each p (contains_first p ps) in
    let rest = least_above low n ps le (λ q has. each q (contains_rest p q ps has)) in
    omega arith

-- the rows of a PartNow are valid up to this time, or longer
abbrev pub RowsAbove : ℕ → Body → Type 0
RowsAbove low (PartNow number rows) = (r : RowNow) → Contains rows r → low ≤ r.lvt
RowsAbove low other = Unit {0}

no_test : (b : Bool) → not b ≡ true → b ≡ false
no_test true e = absurd (false≢true e)
no_test false e = refl

-- what a shard answers first is valid up to its horizon, or longer
now_above : (top : TopologyValue) (me n : ℕ) (a : ShardState) (from : ℕ) (b : Body) → a.low ≤ n
    → ((p : PreparedPart) → Contains a.prepared p → is_applied p.txn a ≡ false → a.low ≤ p.time) → (e : Envelope) → Contains (handled top me n a from b).sends e
    → RowsAbove a.low e.body
now_above top me n a from b le marks e m =
    each_contained (λ (z : Envelope). RowsAbove a.low z.body) (handled top me n a from b).sends
    (handled_gives top me n a from b (λ z. RowsAbove a.low z.body) (λ y. Unit {0})
    (record {
      plain =
          record {
            yes = λ s t. tt;
            commit = λ s t stamp. tt;
            done = λ t stamp. tt;
            repl_begin = λ dc t rows stamp cohorts dependencies. tt;
            notify = λ s t. tt;
            prepare_remote = λ s t. tt;
            dep_check = λ s dependency waiter. tt;
            dep_ok = λ to dependency waiter commit. tt;
            check = λ s t time. tt;
          };
      less = λ y left h. tt;
      old = λ y has. tt;
      asked = λ number time read left is new. tt;
      answers = λ y h. tt;
      now = λ number read asked r has.
          let f = mapped_from (row_now n a read) read.keys r has in
          subst (λ z. a.low ≤ z) (sym (ap (λ (z : RowNow). z.lvt) f.2))
          (least_above a.low n (marks_on (row_of read f.0) a) le
          (λ p there.
          let g = filter_contains (λ p. touches_row (row_of read f.0) p && not (is_applied p.txn a)) a.prepared p there in
          marks p g.0 (no_test (is_applied p.txn a) (and_parts (touches_row (row_of read f.0) p) (not (is_applied p.txn a)) g.1).1)));
      at = λ t time commit stamp asked. tt;
      not_by = λ t time asked. tt;
      repl_part = λ dc t rows commit stamp coordinator told. tt;
    })).sends
    e m

-- ## Where no horizon rises

module _ (top : TopologyValue) (w v : Run) (k : Rests w) (g : Grows top w v) (lows : (m : ℕ) → (v.shards m).low ≡ (w.shards m).low) where
  unapplied : (m : ℕ) (t : TxnValue) → is_applied t (v.shards m) ≡ false → is_applied t (w.shards m) ≡ false
  unapplied m t e = go (is_applied t (w.shards m)) refl
    where
      go : (b : Bool) → is_applied t (w.shards m) ≡ b → b ≡ false
      go false q = refl
      go true q =
          let r = any_found (λ (p : Applied). is_same_txn p.part.writer.txn t) (w.shards m).applied q in
          absurd (false≢true (sym e ∙ any_has (λ (p : Applied). is_same_txn p.part.writer.txn t) (v.shards m).applied r.0 ((g.shards m).applied r.0 r.1) r.2))

  pub marks_stay : (m : ℕ) (p : PreparedPart) → Contains (v.shards m).prepared p → is_applied p.txn (v.shards m) ≡ false → (v.shards m).low ≤ p.time
  marks_stay m p has e =
      subst (λ z. z ≤ p.time) (sym (lows m))
      (elim ((g.shards m).prepared_new p has) [
        | inl old ↦ k.marks m p old (unapplied m p.txn e)
        | inr new ↦ (let above = new.above in let le = k.low m in omega arith)
      ])

  pub above_still : (node : ℕ) (rows : List RowNow) → AreAbove w.shards node rows → AreAbove v.shards node rows
  above_still node rows a r has = subst (λ z. z ≤ r.lvt) (sym (lows node)) (a r has)

-- ## A message to a shard

module _ (top : TopologyValue) (w : Run) (x : RunEvent) (k : Rests w) (e : Envelope) (n : ℕ) (clock : ticked (w.shards e.to).clock e.time ≡ Some n) where
  abbrev a : ShardState
  a = w.shards e.to

  abbrev b : ShardState
  b = (handled top e.to n (w.shards e.to) e.from e.body).state

  abbrev v : Run
  v = after_shard (Ok (handled top e.to n (w.shards e.to) e.from e.body)) w x e.to

  lows : (m : ℕ) → (v.shards m).low ≡ (w.shards m).low
  lows m =
      changed_actor (λ (z : ShardState). z.low ≡ (w.shards m).low) w.shards e.to b m
      (λ same. handled_low top e.to n (w.shards e.to) e.from e.body ∙ ap (λ z. (w.shards z).low) (sym same)) (λ other. refl)

  own_low : b.low ≤ b.clock
  own_low =
      let low = handled_low top e.to n (w.shards e.to) e.from e.body in
      let now = (handled_own top e.to n (w.shards e.to) e.from e.body).0 in
      let le = k.low e.to in
      let lt = (ticked_above (w.shards e.to).clock e.time n clock).0 in
      omega arith

  new_above : (z : Envelope) → z.from ≡ e.to → (c : Body) → RowsAbove (w.shards e.to).low c → IsAbove v z c
  new_above z from (PartNow number rows) r = λ same busy row has. subst (λ y. y ≤ row.lvt) (sym (lows z.from ∙ ap (λ m. (w.shards m).low) from)) (r row has)
  new_above z from _ r = tt

  old_above : Grows top w v → (z : Envelope) (c : Body) → IsAbove w z c → IsAbove v z c
  old_above g z (PartNow number rows) r = λ same busy. above_still top w v k g lows z.from rows (r same busy)
  old_above g z _ r = tt

  pub handled_rests : Grows top w v → Rests v
  handled_rests g =
      record {
        low = λ m. changed_actor (λ (z : ShardState). z.low ≤ z.clock) w.shards e.to b m (λ same. own_low) (λ other. k.low m);
        marks = marks_stay top w v k g lows;
        heard = λ m h has. above_still top w v k g lows h.from h.rows (k.heard m h has);
        sent = λ z has. elim (Contains-append_cases w.sent (handled top e.to n (w.shards e.to) e.from e.body).sends z has) [
          | inl old ↦ old_above g z z.body (k.sent z old)
          | inr new ↦ new_above z ((handled_own top e.to n (w.shards e.to) e.from e.body).1 z new).0 z.body
              (now_above top e.to n (w.shards e.to) e.from e.body
              (let le = k.low e.to in let lt = (ticked_above (w.shards e.to).clock e.time n clock).0 in omega arith) (k.marks e.to) z new)
        ];
        none = k.none;
      }

-- ## A step of a session

-- the session's own step is in order: what it heard is above horizons, and what it ended wasn't given up
pub record IsCalm (w : Run) (a : SessionState) (st : SessionStep) : Type 0 where
  pub heard : (h : HeardNow) → Contains (heard_in st.state.current) h → AreAbove w.shards h.from h.rows
  pub none : (f : Finished) → st.state.untaken ≡ Some f → f.outcome ≡ outcome.Collected → ⊥

-- an answer to the operation that is open then was one to the operation that was open
abbrev pub IsSameOpen : SessionState → SessionState → ℕ → Type 0
IsSameOpen a b number = number ≡ b.count → is_idle b.current ≡ false → (number ≡ a.count) × (is_idle a.current ≡ false)

module _ (w : Run) (x : RunEvent) (node : ℕ) (submitted : List Submission) (st : SessionStep) (k : Rests w) (calm : IsCalm w (w.sessions node) st) where
  abbrev u : Run
  u = with_session w x node submitted st

  session_rests : ((z : Envelope) → Contains st.sends z → IsOfSession z.body)
      → ((z : Envelope) (number : ℕ) (rows : List RowNow) → Contains w.sent z → z.body ≡ PartNow number rows → z.to ≡ node → IsSameOpen (w.sessions node) st.state number) → Rests u
  session_rests plain same =
      record {
        low = k.low;
        marks = k.marks;
        heard = λ m h has.
            changed_actor (λ (z : SessionState). Contains (heard_in z.current) h → AreAbove w.shards h.from h.rows) w.sessions node (session_taken st.state) m
            (λ here there. calm.heard h there) (λ other there. k.heard m h there) has;
        sent = λ z has. elim (Contains-append_cases w.sent st.sends z has) [
          | inl old ↦ old_above z old z.body refl (k.sent z old)
          | inr new ↦ new_above z z.body (plain z new)
        ];
        none = λ c has is. elim (ended_or_old c w.transcript (ended_by submitted node st) has) [
          | inl old ↦ k.none c old is
          | inr new ↦ (let f = ended_is_finished submitted node st c new in calm.none f.finished f.told (sym f.outcome ∙ is))
        ];
      }
    where
      new_above : (z : Envelope) (c : Body) → IsOfSession c → IsAbove u z c
      new_above z (PartNow number rows) r = absurd r
      new_above z _ r = tt

      old_above : (z : Envelope) → Contains w.sent z → (c : Body) → z.body ≡ c → IsAbove w z c → IsAbove u z c
      old_above z old (PartNow number rows) body r = λ number_is busy.
          let both = changed_actor (λ (y : SessionState). number ≡ y.count → is_idle y.current ≡ false → (number ≡ (w.sessions z.to).count) × (is_idle (w.sessions z.to).current ≡ false)) w.sessions node (session_taken st.state) z.to
          (λ here p q. subst (λ m. (number ≡ (w.sessions m).count) × (is_idle (w.sessions m).current ≡ false)) (sym here) (same z number rows old body here p q)) (λ other p q. (p, q)) number_is busy in
          r both.0 both.1
      old_above z old _ body r = tt

-- ## A message to a session

module _ (top : TopologyValue) (w : Run) (k : Rests w) (inv : Inv top w) (e : Envelope) (has : Contains w.sent e) (n : ℕ) where
  abbrev s : SessionState
  s = w.sessions e.to

  old_heard : (o : Open) → (w.sessions e.to).current ≡ o → (h : HeardNow) → Contains (heard_in o) h → AreAbove w.shards h.from h.rows
  old_heard o is h there = k.heard e.to h (subst (λ z. Contains (heard_in z) h) (sym is) there)

  -- with one answer more
  with_one : (read : Read) (hs : List HeardNow) (rows : List RowNow) → FirstAnswer top (w.sessions e.to) e.from e.body read hs rows
      → (h : HeardNow) → Contains (with_rows_now hs e.from rows) h → AreAbove w.shards h.from h.rows
  with_one read hs rows f h there = elim (last_or_old h (record { from = e.from; rows = rows }) hs there) [
    | inl old ↦ old_heard (FirstRound read hs) f.current h old
    | inr new ↦ subst (λ (z : HeardNow). AreAbove w.shards z.from z.rows) (sym new)
        (subst (IsAbove w e) f.body (k.sent e has) refl (ap is_idle f.current))
  ]

  nothing : (h : HeardNow) → Contains [] h → AreAbove w.shards h.from h.rows
  nothing h there = absurd (none_in_empty h there)

  ended_as : (number : ℕ) (o : Outcome) → (o ≡ outcome.Collected → ⊥) → (f : Finished) → Some (record { number = number; outcome = o }) ≡ Some f → f.outcome ≡ outcome.Collected → ⊥
  ended_as number o other f is given = let same : record { number = number; outcome = o } ≡ f = cc in other (ap (λ (z : Finished). z.outcome) same ∙ given)

  untaken_none : (f : Finished) → (w.sessions e.to).untaken ≡ Some f → f.outcome ≡ outcome.Collected → ⊥
  untaken_none f is given = let taken = (inv.sessions e.to).taken in absurd (cc)

  -- an awaited shard has a row that isn't valid long enough, so its horizon isn't above the read's time
  not_given : (read : Read) (time : ℕ) (first : List HeardNow) (hs : List HeardAt) → SecondAnswer top (w.sessions e.to) e.from e.body read time first hs at.Collected → ⊥
  not_given read time first hs f =
      let says : TellsCollected w e.from e.to (w.sessions e.to).count f.bound = subst (λ b. Hears top w e.from e.to e.time b) f.body (hears top w inv e has) in
      let its = subst (λ o. SecondAsked o f.bound e.from says.read) f.current (says.asked.round refl) in
      let asked = asked_nodes top (w.sessions e.to) read in
      let late = any_found (λ z. z == e.from) (late_nodes asked time first)
      (and_parts (list_any (λ z. z == e.from) (late_nodes asked time first)) (not (was_heard_at hs e.from)) f.missing).0 in
      let is = filter_contains (is_late time first) asked late.0 late.1 in
      let row = any_found (λ (r : RowNow). nat_lt r.lvt time) (rows_from first e.from) (subst (λ z. is_late time first z ≡ true) (eqb-true late.0 e.from late.2) is.1) in
      let h = flat_contains (λ (z : HeardNow). z.rows) (filter (λ (z : HeardNow). z.from == e.from) first) row.0 row.1 in
      let of = filter_contains (λ (z : HeardNow). z.from == e.from) first h.0 h.1 in
      let above = old_heard (SecondRound read time first hs) f.current h.0 of.0 row.0 h.2 in
      let low = subst (λ m. (w.shards m).low ≤ row.0.lvt) (eqb-true h.0.from e.from of.1) above in
      past (w.shards e.from).low row.0.lvt time f.bound low row.2 its.0 says.low
    where
      past : (low lvt time bound : ℕ) → low ≤ lvt → nat_lt lvt time ≡ true → time ≡ bound → bound < low → ⊥
      past low lvt time bound le lt same above = grind (arith, nat_tests)

  pub heard_calm : IsCalm w (w.sessions e.to) (heard top e.to n (w.sessions e.to) e.from e.body)
  heard_calm =
      heard_cases top e.to n (w.sessions e.to) e.from e.body (IsCalm w (w.sessions e.to))
      (record {
        still = λ ignored. record { heard = λ h there. k.heard e.to h there; none = untaken_none };
        wrote = λ coordinator t commit stamp f. record { heard = nothing; none = ended_as (w.sessions e.to).count (outcome.Wrote commit stamp) (λ q. absurd (cc)) };
        kept = λ read hs rows f some. record { heard = with_one read hs rows f; none = untaken_none };
        second = λ read hs rows f all node nodes is. record { heard = with_one read hs rows f; none = untaken_none };
        ends = λ read hs rows f all is. record { heard = nothing; none = ended_as (w.sessions e.to).count (outcome.Read _ _) (λ q. absurd (cc)) };
        kept_at = λ read time first hs rows f some. record { heard = old_heard (SecondRound read time first hs) f.current; none = untaken_none };
        ends_at = λ read time first hs rows f all. record { heard = nothing; none = ended_as (w.sessions e.to).count (outcome.Read _ _) (λ q. absurd (cc)) };
        gives_up = λ read time first hs f. absurd (not_given read time first hs f);
        counted = λ dc left floor dependency commit f t ts is. record { heard = nothing; none = untaken_none };
        arrives = λ dc left floor dependency commit f is. record { heard = nothing; none = ended_as (w.sessions e.to).count (outcome.Moved dc _) (λ q. absurd (cc)) };
      })

  heard_same : (number : ℕ) → IsSameOpen (w.sessions e.to) (heard top e.to n (w.sessions e.to) e.from e.body).state number
  heard_same number =
      heard_kinds top e.to n (w.sessions e.to) e.from e.body (λ (st : SessionStep). IsSameOpen (w.sessions e.to) st.state number)
      (record {
        still = λ p q. (p, q);
        goes_on = λ o sends busy open_still p q. (p, busy);
        over = λ floor dependencies o busy p q. absurd (false≢true (sym q));
      })

  pub heard_rests : (x : RunEvent) → Rests (after_session (Ok (heard top e.to n (w.sessions e.to) e.from e.body)) w x e.to)
  heard_rests x =
      session_rests w x e.to w.submitted (heard top e.to n (w.sessions e.to) e.from e.body) k heard_calm
      (λ z new. (heard_sends top e.to n (w.sessions e.to) e.from e.body z new).1) (λ z number rows old body to. heard_same number)

-- ## A submission

module _ (top : TopologyValue) (w : Run) (k : Rests w) (inv : Inv top w) (node : ℕ) (o : Op) (n : ℕ) where
  begun_calm : IsCalm w (w.sessions node) (begun top node n (w.sessions node) o)
  begun_calm =
      begun_cases top node n (w.sessions node) (λ o. IsCalm w (w.sessions node))
      (record {
        writes = λ batch. record { heard = λ h there. absurd (none_in_empty h there); none = λ f is given. absurd (cc) };
        reads = λ read. record { heard = λ h there. absurd (none_in_empty h there); none = λ f is given. absurd (cc) };
        moves = λ dc t ts is. record { heard = λ h there. absurd (none_in_empty h there); none = λ f is given. absurd (cc) };
        at_once = λ dc is. record { heard = λ h there. absurd (none_in_empty h there); none = λ f told given. moved_on ((w.sessions node).count + 1) dc f told given };
      }) o
    where
      moved_on : (number dc : ℕ) (f : Finished) → Some (record { number = number; outcome = outcome.Moved dc 0 }) ≡ Some f → f.outcome ≡ outcome.Collected → ⊥
      moved_on number dc f told given =
          let same : record { number = number; outcome = outcome.Moved dc 0 } ≡ f = cc in
          let no : outcome.Moved dc 0 ≡ outcome.Collected = ap (λ (z : Finished). z.outcome) same ∙ given in
          absurd (cc)

  counts : (begun top node n (w.sessions node) o).state.count ≡ (w.sessions node).count + 1
  counts =
      begun_cases top node n (w.sessions node) (λ o (st : SessionStep). st.state.count ≡ (w.sessions node).count + 1)
      (record { writes = λ batch. refl; reads = λ read. refl; moves = λ dc t ts is. refl; at_once = λ dc is. refl }) o

  -- nothing that was sent answers it yet
  none_yet : (z : Envelope) (number : ℕ) (rows : List RowNow) → Contains w.sent z → z.body ≡ PartNow number rows → z.to ≡ node
      → IsSameOpen (w.sessions node) (begun top node n (w.sessions node) o).state number
  none_yet z number rows old body to is busy =
      let says = subst (λ b. Hears top w z.from z.to z.time b) body (hears top w inv z old) in
      let le = subst (λ m. number ≤ (w.sessions m).count) to says.asked.number in
      let now : number ≡ (w.sessions node).count + 1 = is ∙ counts in
      absurd (omega arith)

  pub begun_rests : Rests (after_submission (Ok (begun top node n (w.sessions node) o)) w node o)
  begun_rests =
      session_rests w (Submit node o) node (w.submitted ++ submission_by w node o (begun top node n (w.sessions node) o) ∷ []) (begun top node n (w.sessions node) o) k begun_calm
      (λ z new. (begun_sends top node n (w.sessions node) o z new).1) none_yet

-- ## A collection

module _ (top : TopologyValue) (w : Run) (x : RunEvent) (k : Rests w) (settled : Settled top w) (node time n : ℕ) (reached : time ≤ (w.shards node).clock)
    (clock : ticked (w.shards node).clock (w.shards node).clock ≡ Some n) where
  abbrev c : Run
  c = after_shard (Ok (collected n (w.shards node) time)) w x node

  all_applied : (m : ℕ) (p : PreparedPart) → Contains (c.shards m).prepared p → is_applied p.txn (c.shards m) ≡ true
  all_applied m p has =
      changed_actor (λ (z : ShardState). Contains z.prepared p → is_applied p.txn z ≡ true) w.shards node (collected n (w.shards node) time).state m
      (λ same there. (settled.shards node).prepared p there) (λ other there. (settled.shards m).prepared p there) has

  none_open : (z : Envelope) (d : Body) → IsAbove c z d
  none_open z (PartNow number rows) = λ same busy. absurd (false≢true (sym busy ∙ ap is_idle (settled.idle z.to)))
  none_open z _ = tt

  pub collected_rests : Rests c
  collected_rests =
      record {
        low = λ m.
            changed_actor (λ (z : ShardState). z.low ≤ z.clock) w.shards node (collected n (w.shards node) time).state m
            (λ same. let le = k.low node in let lt = (ticked_above (w.shards node).clock (w.shards node).clock n clock).0 in omega arith) (λ other. k.low m);
        marks = λ m p has new. absurd (false≢true (sym new ∙ all_applied m p has));
        heard = λ m h has. absurd (none_in_empty h (subst (λ o. Contains (heard_in o) h) (settled.idle m) has));
        sent = λ z has. none_open z z.body;
        none = k.none;
      }

-- ## Every run

event_rests : (top : TopologyValue) (w : Run) (x : RunEvent) → 0 < top.shards → Inv top w → (IsQuiet w → Settled top w) → Rests w → ComesAtRest w x → Rests (step top w x)
event_rests top w x some inv settles k comes =
    timed_cases top w x (λ v. Grows top w v → Rests v)
    (record {
      nothing = λ g. k;
      handled = λ j e n is sent to clock g. handled_rests top w x k e n clock g;
      heard = λ j e n is sent other to clock g. heard_rests top w k inv e (contains_get w.sent j e sent) n x;
      begun = λ node o n is to clock g. begun_rests top w k inv node o n;
      collected = λ node time n is clock g.
          let rest = subst (ComesAtRest w) is comes in
          collected_rests top w x k (settles rest.0) node time n rest.1 clock;
    })
    (step_grows top w x some inv)

opening_rests : (top : TopologyValue) → Rests (opening top)
opening_rests top =
    record {
      low = λ node. omega arith;
      marks = λ node p has new. absurd (none_in_empty p has);
      heard = λ node h has. absurd (none_in_empty h has);
      sent = λ e has. absurd (none_in_empty e has);
      none = λ c has is. absurd (none_in_empty c has);
    }

rests_later : (top : TopologyValue) → is_topology top.dcs top.shards top.homes ≡ true → (before xs : List RunEvent) → Rests (run top before) → ComeAtRest top (run top before) xs
    → Rests (continued top (run top before) xs)
rests_later top ok before [] k come = k
rests_later top ok before (x ∷ xs) k come =
    let some = (stands top ok).some in
    let then : run top (before ++ x ∷ []) ≡ step top (run top before) x = run_after top (opening top) before (x ∷ []) in
    let now = event_rests top (run top before) x some (every_run top before some) (quiet_means_done top before ok) k come.0 in
    subst (λ v. Rests (continued top v xs)) then
    (rests_later top ok (before ++ x ∷ []) xs (subst Rests (sym then) now) (subst (λ v. ComeAtRest top v xs) (sym then) come.1))

-- in every run whose collections come at rest no read is given up
pub none_is_given_up : (top : TopologyValue) (events : List RunEvent) → is_topology top.dcs top.shards top.homes ≡ true → ComeAtRest top (opening top) events → NoneIsGivenUp (run top events)
none_is_given_up top events ok come = (rests_later top ok [] events (opening_rests top) come).none
