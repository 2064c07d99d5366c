-- The entries of a script are a transcript of its run, and its reads show the one table of their homes.
use Rattle.std.proofs.Common.{◌≡◌, ◌∙◌, ℕ, ◌<◌, List, Result, Ok, Err, map, refl, ap, sym, subst}
use Rattle.std.specs.Prelude.{Contains, IfOk, IsOkAnd}
use Rattle.logical_time.specs.declared.fault.Fault.{Fault}
use Rattle.slice.specs.declared.read.Read.{Read}
use Rattle.slice.specs.declared.read.AnsweredRow.{AnsweredRow}
use Rattle.messages.specs.declared.op.Op.{Op}
use Rattle.messages.specs.declared.op.Op.TheVariants as op
use Rattle.messages.specs.declared.outcome.Outcome.{Outcome}
use Rattle.messages.specs.declared.outcome.Outcome.TheVariants as outcome
use Rattle.messages.specs.Topology.{TopologyValue}
use Rattle.world.specs.declared.run_event.RunEvent.{RunEvent}
use Rattle.world.specs.declared.completed.Completed.{Completed}
use Rattle.world.specs.Run.{Run, opening, run}
use Rattle.world.specs.Promises.{Fits}
use Rattle.world.proofs.lists.Members.{mapped_from, contains_filter}
use Rattle.world.proofs.promised.Laws.{reads_show_one_table, entries_are_of_submissions}
use Rattle.workload.specs.declared.script.ScriptEvent.{ScriptEvent}
use Rattle.workload.specs.declared.script.Script.{Script}
use Rattle.workload.specs.declared.transcript.Entry.{Entry}
use Rattle.workload.specs.declared.transcript.Entry.TheVariants as entry
use Rattle.workload.specs.Simulation.{entry_by, entry_of, is_outcome, events_of, simulated_in, simulated, ShowsOneTable, IsTranscriptOf}
use Rattle.workload.specs.HasTold.{HasTold}
use Rattle.workload.proofs.Told.{tells}

-- the outcome that an entry of a read is of
record IsOfRead (c : Completed) (node number time : ℕ) (answer : List AnsweredRow) : Type 0 where
  by : c.node ≡ node
  of : c.number ≡ number
  came : c.outcome ≡ outcome.Read time answer

of_read : (c : Completed) (node number time : ℕ) (answer : List AnsweredRow) → entry.Read node number time answer ≡ entry_of c → IsOfRead c node number time answer
of_read c node number time answer h = by c.outcome refl
  where
    by : (o : Outcome) → c.outcome ≡ o → IsOfRead c node number time answer
    by (outcome.Wrote commit stamp) q = (let e : entry.Read node number time answer ≡ entry.Wrote c.node c.number commit stamp = h ∙ ap (entry_by c.node c.number) q in absurd cc)
    by (outcome.Read t a) q =
        let e : entry.Read node number time answer ≡ entry.Read c.node c.number t a = h ∙ ap (entry_by c.node c.number) q in
        record { by = cc; of = cc; came = cc }
    by outcome.Collected q = (let e : entry.Read node number time answer ≡ entry.Collected c.node c.number = h ∙ ap (entry_by c.node c.number) q in absurd cc)
    by (outcome.Moved dc floor) q =
        (let e : entry.Read node number time answer ≡ entry.Moved c.node c.number dc floor = h ∙ ap (entry_by c.node c.number) q in absurd cc)

-- an operation that ended as a read is one
pub read_of : (o : Op) (time : ℕ) (answer : List AnsweredRow) → Fits o (outcome.Read time answer) → (read : Read) × (o ≡ op.Read read)
read_of (op.Batch batch) time answer h = absurd h
read_of (op.Read read) time answer h = (read, refl)
read_of (op.Move dc) time answer h = absurd h

pub shows : (top : TopologyValue) (events : List RunEvent) → 0 < top.shards → (node number time : ℕ) (answer : List AnsweredRow)
    → Contains (map entry_of (run top events).transcript) (entry.Read node number time answer)
    → ShowsOneTable top (run top events) node number time answer
shows top events some node number time answer has =
    let w = run top events in
    let (c, among, is) = mapped_from entry_of w.transcript (entry.Read node number time answer) has in
    let r = of_read c node number time answer is in
    let there : Contains w.transcript c = among in
    let (read, asked) = read_of c.op time answer (subst (Fits c.op) r.came (entries_are_of_submissions top events some c there).fits) in
    let same : c ≡ record { node = node; number = number; home = c.home; op = op.Read read; outcome = outcome.Read time answer } =
    λ i. record { node = r.by i; number = r.of i; home = c.home; op = asked i; outcome = r.came i } in
    record {
      read = read;
      home = c.home;
      completed = subst (Contains w.transcript) same there;
      table = λ h history. reads_show_one_table top events some c read time answer h (record { completed = there; op = asked; outcome = r.came }) history;
    }

pub is_transcript : (s : Script) (entries : List Entry) → 0 < s.topology.shards → simulated s ≡ Ok entries → IsTranscriptOf s entries
is_transcript s entries some h =
    let t = tells s.topology (opening s.topology) (events_of s) entries h in
    record {
      told = h;
      outcomes = t.outcomes;
      refusals = t.refusals;
      reads = λ node number time answer has.
          shows s.topology (events_of s) some node number time answer
          (subst (λ es. Contains es (entry.Read node number time answer)) t.outcomes
          (contains_filter is_outcome entries (entry.Read node number time answer) has refl));
    }

-- the entries that were told of the events of a script are its transcript
pub shown_told : (s : Script) (top : TopologyValue) (events : List ScriptEvent) (w : Run) (entries : List Entry) → 0 < s.topology.shards → top ≡ s.topology → events ≡ s.events
    → HasTold top events w entries → IsTranscriptOf s entries
shown_told s top events w entries some same all h =
    is_transcript s entries some (ap (λ t. simulated_in t s.events) (sym same) ∙ ap (simulated_in top) (sym all) ∙ h.told)

pub shown_moved : (r : Result (List Entry) Fault) (s : Script) (top : TopologyValue) (events : List ScriptEvent) (w : Run) (entries : List Entry) → 0 < s.topology.shards
    → top ≡ s.topology → events ≡ s.events → HasTold top events w entries → IfOk r (λ es. es ≡ entries) → IfOk r (IsTranscriptOf s)
shown_moved (Ok es) s top events w entries some same all h is = subst (IsTranscriptOf s) (sym is) (shown_told s top events w entries some same all h)
shown_moved (Err e) s top events w entries some same all h is = tt

pub shown_copied : {M : Type 0} (r : Result (List Entry) Fault) (p : Result M Fault) (of : M → List Entry) (s : Script) (top : TopologyValue) (events : List ScriptEvent) (w : Run)
    → 0 < s.topology.shards → top ≡ s.topology → events ≡ s.events → IfOk p (λ m. HasTold top events w (of m)) → IfOk r (λ es. IsOkAnd p (λ m. es ≡ of m)) → IfOk r (IsTranscriptOf s)
shown_copied (Ok es) (Ok m) of s top events w some same all h is = subst (IsTranscriptOf s) (sym is) (shown_told s top events w (of m) some same all h)
shown_copied (Ok es) (Err e) of s top events w some same all h is = absurd is
shown_copied (Err e) p of s top events w some same all h is = tt
