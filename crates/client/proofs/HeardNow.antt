-- What a session hears in the first round of a read is the machine's step, and so is all that it hears.
use Rattle.std.proofs.Common.{◌≡◌, ◌∙◌, ℕ, ◌+◌, ◌^◌, ◌<◌, max, Bool, true, false, ap, refl, sym, subst, List, [], ◌∷◌, ◌++◌, map, Option, Some, None}
use Rattle.std.specs.Prelude.{◌==◌, ◌&&◌}
use Rattle.logical_time.specs.declared.fault.Fault.{Fault}
use Rattle.messages.specs.declared.rows_now.RowNow.{RowNow}
use Rattle.messages.specs.declared.body.Body.{Body}
use Rattle.messages.specs.declared.body.Body.TheVariants as body
use Rattle.messages.specs.declared.envelope.Envelope.{Envelope}
use Rattle.messages.specs.Clock.{ticked, on_clock}
use Rattle.messages.specs.Topology.{TopologyValue}
use Rattle.messages.specs.Session.{SessionState, SessionStep}
use Rattle.messages.specs.Rounds as rounds
use Rattle.messages.specs.SessionEvents as machine
use Rattle.read_txn.specs.States.{First, Second, late_shard}
use Rattle.read_txn.specs.Taken as taken
use Rattle.client.specs.declared.kept.SessionKept.{SessionKept}
use Rattle.client.specs.declared.current.Current.{Current}
use Rattle.client.specs.declared.current.Current.TheVariants as now
use Rattle.client.specs.Current.{open_of}
use Rattle.client.specs.Represents.{FitsIn, Represents, IsStepOf, IsRefusalOf, IsSpentOrMemory}
use Rattle.client.specs.State.{state_of}
use Rattle.client.specs.Steps as steps
use Rattle.client.proofs.Planned.{mapped_twice}
use Rattle.client.proofs.Submitted.{kept_in, ticked_some}
use Rattle.client.proofs.HeardOk.{hear_ok}
use Rattle.client.proofs.Heard.{asked_of, IsOrdered, Does, calms, completes, dones_in, hear_at}

-- a round that is over, by the shards that are asked again
asks_again : (nodes : List ℕ) (k : SessionKept) (homes : List ℕ) (n : ℕ) (before : List Envelope) (f : First) (time : ℕ) → k.added ≡ []
    → f.asked ≡ asked_of k f.read → IsOrdered k → rounds.late_nodes f.asked time f.heard ≡ nodes
    → Does (machine.second_if nodes k.node n (state_of k) f.read time f.heard) homes k (steps.after_now (taken.second_if nodes f time) n k) before
    (steps.sent_now (taken.second_if nodes f time) n k)
asks_again [] k homes n before f time none asked ordered e =
    completes k homes n before f.read time (rounds.rows_taken time f.heard []) none ordered
asks_again (s ∷ ss) k homes n before f time none asked ordered e =
    let second : Second = record { read = f.read; time = time; asked = f.asked; first = f.heard; heard = [] } in
    record {
      state = record { topology = refl; state = refl; current = (none, asked); ordered = ordered };
      sends =
          ap (λ es. before ++ es)
          (mapped_twice (late_shard time f.heard) (steps.read_late n k second) (rounds.late_nodes f.asked time f.heard)
          ∙ ap (map (machine.read_at_of k.node n (state_of k) f.read time f.heard)) e);
    }

hears_now : (b : Bool) (k : SessionKept) (homes : List ℕ) (n : ℕ) (before : List Envelope) (f : First) → k.added ≡ []
    → f.asked ≡ asked_of k f.read → f.floor ≡ k.floor → IsOrdered k
    → Does (machine.heard_if b (kept_in k homes) k.node n (state_of k) f.read f.heard) homes k (steps.after_now (taken.heard_if b f) n k) before
    (steps.sent_now (taken.heard_if b f) n k)
hears_now true k homes n before f none asked floor ordered =
    let time : ℕ = rounds.effective_time f.floor f.heard in
    subst (λ t. Does (machine.second (kept_in k homes) k.node n (state_of k) f.read (rounds.effective_time t f.heard) f.heard) homes k
    (steps.after_now (taken.over f time) n k) before (steps.sent_now (taken.over f time) n k))
    floor
    (subst (λ nodes. Does (machine.second_if (rounds.late_nodes nodes time f.heard) k.node n (state_of k) f.read time f.heard) homes k
    (steps.after_now (taken.over f time) n k) before (steps.sent_now (taken.over f time) n k))
    asked
    (asks_again (rounds.late_nodes f.asked time f.heard) k homes n before f time none asked ordered refl))
hears_now false k homes n before f none asked floor ordered = record {
  state = record { topology = refl; state = refl; current = (none, asked, floor); ordered = ordered };
  sends = refl;
}

awaits_now : (b : Bool) (k : SessionKept) (homes : List ℕ) (n : ℕ) (before : List Envelope) (f : First) (from : ℕ) (rows : List RowNow) → now.First f ≡ k.current
    → k.added ≡ [] → f.asked ≡ asked_of k f.read → f.floor ≡ k.floor → IsOrdered k
    → Does (machine.part_now_if b (kept_in k homes) k.node n (state_of k) f.read f.heard from rows) homes k
    (steps.after_now (taken.first_taken_if b f from rows) n k) before (steps.sent_now (taken.first_taken_if b f from rows) n k)
awaits_now true k homes n before f from rows e none asked floor ordered =
    let g : First = record f { heard = f.heard ++ record { from = from; rows = rows } ∷ [] } in
    subst (λ nodes. Does (machine.heard_if (rounds.all_heard nodes g.heard) (kept_in k homes) k.node n (state_of k) g.read g.heard) homes k
    (steps.after_now (taken.heard g) n k) before (steps.sent_now (taken.heard g) n k))
    asked
    (hears_now (rounds.all_heard g.asked g.heard) k homes n before g none asked floor ordered)
awaits_now false k homes n before f from rows e none asked floor ordered = record {
  state = record {
    topology = refl;
    state = ap (λ c. record (state_of k) { clock = n; current = open_of c }) (sym e);
    current = (none, asked, floor);
    ordered = ordered;
  };
  sends = refl;
}

parts_now : (b : Bool) (k : SessionKept) (homes : List ℕ) (n : ℕ) (before : List Envelope) (f : First) (from : ℕ) (rows : List RowNow) → now.First f ≡ k.current
    → FitsIn k k.current → k.added ≡ [] → f.asked ≡ asked_of k f.read → f.floor ≡ k.floor → IsOrdered k
    → Does (machine.part_now_if (b && rounds.is_missing (asked_of k f.read) f.heard from) (kept_in k homes) k.node n (state_of k) f.read f.heard from rows) homes k
    (steps.now_if b n k f from rows) before (steps.sent_if b n k f from rows)
parts_now false k homes n before f from rows e fits none asked floor ordered = calms k homes n before fits ordered
parts_now true k homes n before f from rows e fits none asked floor ordered =
    subst (λ nodes. Does (machine.part_now_if (rounds.is_missing nodes f.heard from) (kept_in k homes) k.node n (state_of k) f.read f.heard from rows) homes k
    (steps.after_now (taken.first_taken f from rows) n k) before (steps.sent_now (taken.first_taken f from rows) n k))
    asked
    (awaits_now (rounds.is_missing f.asked f.heard from) k homes n before f from rows e none asked floor ordered)

hear_now : (c : Current) (k : SessionKept) (homes : List ℕ) (n : ℕ) (before : List Envelope) (from number : ℕ) (rows : List RowNow) → c ≡ k.current
    → FitsIn k c → FitsIn k k.current → IsOrdered k
    → Does (machine.part_now_in (open_of c) (kept_in k homes) k.node n (state_of k) from number rows) homes k (steps.now_in c n k from number rows) before
    (steps.sent_in c n k from number rows)
hear_now now.Idle k homes n before from number rows e fit fits ordered = calms k homes n before fits ordered
hear_now (now.Write coordinator) k homes n before from number rows e fit fits ordered = calms k homes n before fits ordered
hear_now (now.Second s) k homes n before from number rows e fit fits ordered = calms k homes n before fits ordered
hear_now (now.Move home m) k homes n before from number rows e fit fits ordered = calms k homes n before fits ordered
hear_now (now.First f) k homes n before from number rows e fit fits ordered =
    parts_now (number == k.count) k homes n before f from rows e fits fit.0 fit.1 fit.2 ordered

-- ## Every envelope

hears : (b : Body) (k : SessionKept) (homes : List ℕ) (n : ℕ) (before : List Envelope) (from : ℕ) → FitsIn k k.current → IsOrdered k
    → Does (machine.heard (kept_in k homes) k.node n (state_of k) from b) homes k (steps.heard_kept n k from b) before (steps.heard_sends n k from b)
hears (body.Done txn commit stamp) k homes n before from fits ordered = dones_in k.current k homes n before txn commit stamp refl fits ordered
hears (body.PartNow number rows) k homes n before from fits ordered = hear_now k.current k homes n before from number rows refl fits fits ordered
hears (body.PartAt number time answer) k homes n before from fits ordered = hear_at k.current k homes n before from number answer refl fits fits ordered
hears (body.DepOk dependency waiter commit) k homes n before from fits ordered = hear_ok k.current k homes n before dependency waiter commit refl fits fits ordered
hears b k homes n before from fits ordered = calms k homes n before fits ordered

kept_hears : (k : SessionKept) (homes : List ℕ) (n : ℕ) (before : List Envelope) (e : Envelope) → ticked k.clock e.time ≡ Some n
    → FitsIn k k.current → IsOrdered k
    → IsStepOf (machine.session_handle (kept_in k homes) k.node (state_of k) e) (kept_in k homes) (steps.heard_kept n k e.from e.body) before
    (before ++ steps.heard_sends n k e.from e.body)
kept_hears k homes n before e time fits ordered =
    subst (λ t. IsStepOf (on_clock t (λ m. machine.heard (kept_in k homes) k.node m (state_of k) e.from e.body)) (kept_in k homes) (steps.heard_kept n k e.from e.body) before
    (before ++ steps.heard_sends n k e.from e.body))
    (sym time) (hears e.body k homes n before e.from fits ordered)

pub handled : (k l : SessionKept) (before after : List Envelope) (e : Envelope) (n : ℕ) → n ≡ max k.clock e.time + 1 → n < 2 ^ 48 → l ≡ steps.heard_kept n k e.from e.body
    → after ≡ before ++ steps.heard_sends n k e.from e.body → (top : TopologyValue) (a : SessionState) → Represents k top a
    → IsStepOf (machine.session_handle top k.node a e) top l before after
handled k l before after e n same lt state sends top a r =
    let new = steps.heard_kept n k e.from e.body in
    subst (λ m. IsStepOf (machine.session_handle top k.node a e) top m before after) (sym state)
    (subst (λ es. IsStepOf (machine.session_handle top k.node a e) top new before es) (sym sends)
    (subst (λ t. IsStepOf (machine.session_handle t k.node a e) t new before (before ++ steps.heard_sends n k e.from e.body)) (sym r.topology)
    (subst (λ b. IsStepOf (machine.session_handle (kept_in k top.homes) k.node b e) (kept_in k top.homes) new before (before ++ steps.heard_sends n k e.from e.body)) (sym r.state)
    (kept_hears k top.homes n before e (ticked_some k.clock e.time n same lt) r.current r.ordered))))

refused_on : (t : Option ℕ) (f : Fault) (step : ℕ → SessionStep) → IsSpentOrMemory t f → IsRefusalOf (on_clock t step) f
refused_on None f step h = h
refused_on (Some n) f step h = h

pub handle_refused : (k : SessionKept) (e : Envelope) (f : Fault) → IsSpentOrMemory (ticked k.clock e.time) f → (top : TopologyValue) (a : SessionState) → Represents k top a
    → IsRefusalOf (machine.session_handle top k.node a e) f
handle_refused k e f h top a r =
    subst (λ t. IsRefusalOf (on_clock t (λ m. machine.heard top k.node m a e.from e.body)) f)
    (sym (ap (λ (b : SessionState). ticked b.clock e.time) r.state)) (refused_on (ticked k.clock e.time) f (λ m. machine.heard top k.node m a e.from e.body) h)
