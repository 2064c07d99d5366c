-- Each entry of the transcript came at an event: the delivery of a message that ended the operation of its session. Of moves
-- nothing is said, since one without dependencies ends where it is submitted.
use Rattle.std.proofs.Common.{◌<◌, Option, None, ◌≡◌, ◌∙◌, ℕ, ◌+◌, ap, sym, refl, subst, true, inl, inr, List, [], ◌∷◌, ◌++◌, Some, slice_get}
use Rattle.std.specs.Prelude.{◌⊎◌, Contains}
use Rattle.slice.specs.declared.read.Read.{Read}
use Rattle.messages.specs.declared.rows_now.RowNow.{RowNow}
use Rattle.messages.specs.declared.rows_at.RowAt.{RowAt}
use Rattle.messages.specs.declared.rows_at.AtTime.TheVariants as at
use Rattle.messages.specs.declared.op.Op.{Op}
use Rattle.messages.specs.declared.outcome.Outcome.{Outcome}
use Rattle.messages.specs.declared.outcome.Outcome.TheVariants as outcome
use Rattle.messages.specs.declared.body.Body.{Body}
use Rattle.messages.specs.declared.envelope.Envelope.{Envelope}
use Rattle.messages.specs.Topology.{TopologyValue}
use Rattle.messages.specs.Session.{SessionState, SessionStep, HeardNow, HeardAt, Finished}
use Rattle.messages.specs.Rounds.{asked_nodes, all_heard}
use Rattle.messages.specs.SessionEvents.{heard}
use Rattle.world.specs.Run.{Run, RunEvent, Deliver, Submission, Completed, ended_by, submission_by, opening, step, continued, run}
use Rattle.world.proofs.steps.EventCases.{event_cases}
use Rattle.world.proofs.safety.Invariant.{Inv}
use Rattle.world.proofs.safety.Runs.{opening_holds, step_kept}
use Rattle.world.proofs.steps.BegunCases.{moved_at_once}
use Rattle.world.proofs.steps.Transcripts.{ended_or_old, nothing_ended, submission_tells}
use Rattle.world.proofs.fresh.HeardRuns.{ended_is_finished}
use Rattle.messages.specs.Submitting.{begun}
use Rattle.world.proofs.steps.HeardCases.{FirstAnswer, SecondAnswer, heard_cases}
use Rattle.world.proofs.lists.Members.{none_in_empty}

-- ## What ends an operation

-- the last answer of a first round
pub record LastFirst (top : TopologyValue) (a : SessionState) (from : ℕ) (m : Body) : Type 0 where
  pub read : Read
  pub heard : List HeardNow
  pub rows : List RowNow
  pub answer : FirstAnswer top a from m read heard rows
  pub all : all_heard (asked_nodes top a read) (heard ++ record { from = from; rows = rows } ∷ []) ≡ true

-- an answer of a second round
pub record LastSecond (top : TopologyValue) (a : SessionState) (from : ℕ) (m : Body) : Type 0 where
  pub read : Read
  pub time : ℕ
  pub first : List HeardNow
  pub heard : List HeardAt
  pub rows : List RowAt
  pub answer : SecondAnswer top a from m read time first heard (at.Rows rows)

-- Collected in a second round
pub record SaidCollected (top : TopologyValue) (a : SessionState) (from : ℕ) (m : Body) : Type 0 where
  pub read : Read
  pub time : ℕ
  pub first : List HeardNow
  pub heard : List HeardAt
  pub answer : SecondAnswer top a from m read time first heard at.Collected

-- what ended the operation with this outcome; of writes and moves nothing is said
abbrev pub EndsBy : Outcome → TopologyValue → SessionState → ℕ → Body → Type 0
EndsBy (outcome.Wrote commit stamp) top a from m = Unit {0}
EndsBy (outcome.Read time answer) top a from m = LastFirst top a from m ⊎ LastSecond top a from m
EndsBy outcome.Collected top a from m = SaidCollected top a from m
EndsBy (outcome.Moved dc floor) top a from m = Unit {0}

-- the outcome is that of a write or of a read
abbrev pub IsNotMoved : Outcome → Type 0
IsNotMoved (outcome.Moved dc floor) = ⊥
IsNotMoved (outcome.Wrote commit stamp) = Unit {0}
IsNotMoved (outcome.Read time answer) = Unit {0}
IsNotMoved outcome.Collected = Unit {0}

module _ (top : TopologyValue) (me n : ℕ) (a : SessionState) (from : ℕ) (m : Body) (taken : a.untaken ≡ None) where
  -- what the step finished, with this outcome after it, is the open operation
  abbrev Finishes : Option Finished → Type 0
  Finishes o = (f : Finished) → o ≡ Some f → (f.number ≡ a.count) × EndsBy f.outcome top a from m

  none : Finishes a.untaken
  none f e = let no : None ≡ Some f = sym taken ∙ e in absurd (cc)

  this : (o : Outcome) → EndsBy o top a from m → Finishes (Some (record { number = a.count; outcome = o }))
  this o k f e =
      let same : record { number = a.count; outcome = o } ≡ f = cc in
      (ap (λ (z : Finished). z.number) (sym same), subst (λ (z : Finished). EndsBy z.outcome top a from m) same k)

  finishes : Finishes (heard top me n a from m).state.untaken
  finishes =
      heard_cases top me n a from m (λ (st : SessionStep). Finishes st.state.untaken)
      (record {
        still = λ ignored. none;
        wrote = λ coordinator t commit stamp k. this (outcome.Wrote commit stamp) tt;
        kept = λ read hs rows k some. none;
        second = λ read hs rows k all s ss e. none;
        ends = λ read hs rows k all e. this (outcome.Read _ _) (inl (record { read = read; heard = hs; rows = rows; answer = k; all = all }));
        kept_at = λ read time first hs rows k some. none;
        ends_at =
            λ read time first hs rows k all.
            this (outcome.Read time _) (inr (record { read = read; time = time; first = first; heard = hs; rows = rows; answer = k }));
        gives_up =
            λ read time first hs k. this outcome.Collected (record { read = read; time = time; first = first; heard = hs; answer = k });
        counted = λ dc left floor dependency commit k u us e. none;
        arrives = λ dc left floor dependency commit k e. this (outcome.Moved dc _) tt;
      })

-- ## Where an entry came

-- the event brought this entry
pub record Brings (top : TopologyValue) (w : Run) (x : RunEvent) (c : Completed) : Type 0 where
  pub k : ℕ
  pub delivery : x ≡ Deliver k
  pub message : Envelope
  pub number : slice_get w.sent k ≡ Some message
  pub to : message.to ≡ c.node
  pub count : (w.sessions c.node).count ≡ c.number
  pub ends : EndsBy c.outcome top (w.sessions c.node) message.from message.body

-- a submission brings none, but for a move
begun_brings : (top : TopologyValue) (n : ℕ) (a : SessionState) (node : ℕ) (o : Op) (submitted : List Submission) (c : Completed) → IsNotMoved c.outcome
    → ended_by submitted node (begun top node n a o) ≡ Some c → ⊥
begun_brings top n a node o submitted c stays new = elim (submission_tells top node n a o) [
  | inl none ↦ nothing_ended submitted node (begun top node n a o) c none new
  | inr once ↦
      let f = ended_is_finished submitted node (begun top node n a o) c new in
      let told : (moved_at_once n a once.dc).state.untaken ≡ Some f.finished = subst (λ (st : SessionStep). st.state.untaken ≡ Some f.finished) once.step f.told in
      let same : record { number = a.count + 1; outcome = outcome.Moved once.dc 0 } ≡ f.finished = cc in
      subst IsNotMoved (f.outcome ∙ ap (λ (z : Finished). z.outcome) (sym same)) stays
]

step_brings : (top : TopologyValue) (w : Run) (x : RunEvent) (c : Completed) → IsNotMoved c.outcome → Inv top w → Contains (step top w x).transcript c
    → Contains w.transcript c ⊎ Brings top w x c
step_brings top w x c stays inv m =
    event_cases top w x (λ v. Contains v.transcript c → Contains w.transcript c ⊎ Brings top w x c)
    (record {
      nothing = λ i. inl i;
      handled = λ j e n is sent to i. inl i;
      heard = λ j e n is sent other to i. elim (ended_or_old c w.transcript (ended_by w.submitted e.to (heard top e.to n (w.sessions e.to) e.from e.body)) i) [
        | inl old ↦ inl old
        | inr new ↦ inr (brought j e n is sent new)
      ];
      begun =
          λ node o n is to i.
          let st = begun top node n (w.sessions node) o in
          let all = w.submitted ++ submission_by w node o st ∷ [] in
          elim (ended_or_old c w.transcript (ended_by all node st) i) [
            | inl old ↦ inl old
            | inr new ↦ absurd (begun_brings top n (w.sessions node) node o all c stays new)
          ];
      collected = λ node time n is i. inl i;
    })
    m
  where
    brought : (j : ℕ) (e : Envelope) (n : ℕ) → x ≡ Deliver j → slice_get w.sent j ≡ Some e
        → ended_by w.submitted e.to (heard top e.to n (w.sessions e.to) e.from e.body) ≡ Some c → Brings top w x c
    brought j e n is sent new =
        let f = ended_is_finished w.submitted e.to (heard top e.to n (w.sessions e.to) e.from e.body) c new in
        let k = finishes top e.to n (w.sessions e.to) e.from e.body (inv.sessions e.to).taken f.finished f.told in
        record {
          k = j;
          delivery = is;
          message = e;
          number = sent;
          to = sym f.node_is;
          count = ap (λ z. (w.sessions z).count) f.node_is ∙ sym k.0 ∙ sym f.number;
          ends =
              subst (λ z. EndsBy c.outcome top (w.sessions z) e.from e.body) (sym f.node_is)
              (subst (λ o. EndsBy o top (w.sessions e.to) e.from e.body) (sym f.outcome) k.1);
        }

record CameIn (top : TopologyValue) (w : Run) (events : List RunEvent) (c : Completed) : Type 0 where
  before : List RunEvent
  event : RunEvent
  after : List RunEvent
  split : events ≡ before ++ event ∷ after
  brings : Brings top (continued top w before) event c

came_in : (top : TopologyValue) (w : Run) (events : List RunEvent) (c : Completed) → IsNotMoved c.outcome → 0 < top.shards → Inv top w → Contains (continued top w events).transcript c
    → Contains w.transcript c ⊎ CameIn top w events c
came_in top w [] c stays some inv m = inl m
came_in top w (x ∷ xs) c stays some inv m = elim (came_in top (step top w x) xs c stays some (step_kept top w x some inv) m) [
  | inl here ↦ elim (step_brings top w x c stays inv here) [
    | inl old ↦ inl old
    | inr new ↦ inr (record { before = []; event = x; after = xs; split = refl; brings = new })
  ]
  | inr r ↦ inr (record { before = x ∷ r.before; event = r.event; after = r.after; split = ap (λ l. x ∷ l) r.split; brings = r.brings })
]

-- the event that brought an entry of a run
pub record CameAt (top : TopologyValue) (w : Run) (c : Completed) : Type 0 where
  pub before : List RunEvent
  pub event : RunEvent
  pub after : List RunEvent
  pub brings : Brings top (run top before) event c
  pub delivery : w.events ≡ before ++ Deliver brings.k ∷ after

pub came_at : (top : TopologyValue) (w : Run) → 0 < top.shards → run top w.events ≡ w → (c : Completed) → IsNotMoved c.outcome → Contains w.transcript c
    → CameAt top w c
came_at top w some replayed c stays m = elim (came_in top (opening top) w.events c stays some (opening_holds top) (subst (λ (z : Run). Contains z.transcript c) (sym replayed) m)) [
  | inl none ↦ absurd (none_in_empty c none)
  | inr r ↦ record {
    before = r.before;
    event = r.event;
    after = r.after;
    brings = r.brings;
    delivery = r.split ∙ ap (λ x. r.before ++ x ∷ r.after) r.brings.delivery;
  }
]
