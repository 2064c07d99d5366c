-- What the calls of a world are as events of a script.
use Rattle.std.proofs.Common.{◌≡◌, ◌∙◌, ◌≢◌, ℕ, ◌≤◌, ◌+◌, ◌⊎◌, false, List, [], ◌∷◌, ◌++◌, length, Some, Result, Ok, Err, inl, inr, refl, ap, sym, subst, append-nil, arith}
use Rattle.std.proofs.lemmas.List.{length-append}
use Rattle.std.proofs.lemmas.Option.{slice_get_past}
use Rattle.logical_time.specs.declared.fault.Fault.{Fault}
use Rattle.logical_time.specs.declared.fault.Fault.TheVariants.{Memory, ClockSpent, Script as NoScript}
use Rattle.messages.specs.declared.op.Op.{Op}
use Rattle.messages.specs.Topology.{TopologyValue, is_shard, is_session}
use Rattle.world.specs.declared.run_event.RunEvent.{RunEvent}
use Rattle.world.specs.declared.run_event.RunEvent.TheVariants.{Submit, Deliver, Collect}
use Rattle.world.specs.declared.completed.Completed.{Completed}
use Rattle.world.specs.Run.{Run, opening, step, continued, run}
use Rattle.world.specs.Refusals.{Refusal, Refused, NotSent, NoSuchActor, refusal_of, refusal_of_message}
use Rattle.world.specs.World.{WorldValue, run_of, refusal_in, Takes, IsRefusedAs}
use Rattle.world.proofs.growing.Grown.{run_grew}
use Rattle.world.proofs.steps.Refusals.{refused_stays}
use Rattle.world.proofs.safety.Runs.{run_after}
use Rattle.workload.specs.declared.script.ScriptEvent.{ScriptEvent}
use Rattle.workload.specs.declared.script.ScriptEvent.TheVariants as script
use Rattle.workload.specs.declared.transcript.Entry.{Entry}
use Rattle.workload.specs.declared.transcript.Entry.TheVariants as entry
use Rattle.workload.specs.Simulation.{spelled, ended_between, submission_refused, refused_as, told_if, told_of, then_told, told, simulated_in}
use Rattle.workload.specs.HasTold.{HasTold}
use Rattle.drains.specs.Drain.{deliveries, IsDrained, IsDrainedUntil}
use Rattle.drains.proofs.Underway.{by_memory_or_run, from_there}
use Rattle.workload.specs.Playing.{Plays, PlaysBefore, Adds, EndsWith}
use Rattle.workload.proofs.Told.{none_ended}
use Rattle.workload.proofs.Spelled.{told_none, told_more, told_until}
use Rattle.workload.proofs.Drains.{allowed_told, one_told, refused_told}

-- ## One event of a run

and_nothing : (r : Result (List Entry) Fault) → then_told r (Ok []) ≡ r
and_nothing (Ok es) = ap Ok (append-nil es)
and_nothing (Err e) = refl

-- what is told of an event alone
told_alone : (top : TopologyValue) (w : Run) (x : RunEvent) → told top w (x ∷ []) ≡ told_of top w x
told_alone top w x = and_nothing (told_of top w x)

-- of an event that is refused
told_refused : (top : TopologyValue) (w : Run) (x : RunEvent) (r : Refusal) → refusal_of top w x ≡ Some r → told top w (x ∷ []) ≡ refused_as x r
told_refused top w x r q = told_alone top w x ∙ ap (λ o. told_if o w x (step top w x)) q

-- the run of a world that took an event
taken_run : (w v : WorldValue) (x : RunEvent) → Takes w x v → run_of v ≡ step w.top (run_of w) x
taken_run w v x t = ap run_of t.happened ∙ run_after w.top (opening w.top) w.events (x ∷ [])

-- ## One event of a script

pub taken_plays : (w v : WorldValue) (s : ScriptEvent) (x : RunEvent) → spelled w.top (run_of w) s ≡ x ∷ [] → Takes w x v → PlaysBefore w s v []
taken_plays w v s x is t =
    let to = taken_run w v x t in
    record {
      topology = ap (λ (z : WorldValue). z.top) t.happened;
      run = to ∙ ap (continued w.top (run_of w)) (sym is);
      told =
          ap (told w.top (run_of w)) is ∙ told_alone w.top (run_of w) x ∙ one_told w.top (run_of w) x t.allowed
          ∙ ap (λ u. Ok (ended_between (run_of w) u)) (sym to);
    }

-- an event that the world refuses ends the script, unless it is a submission
pub refused_ends : (w : WorldValue) (s : ScriptEvent) (x : RunEvent) (e : Fault) → spelled w.top (run_of w) s ≡ x ∷ [] → refused_as x (Refused e) ≡ Err e
    → IsRefusedAs (refusal_in w x) e → EndsWith w s e
refused_ends w s x e is told_as refused = go (by_memory_or_run (refusal_in w x) e refused)
  where
    go : (e ≡ Memory) ⊎ (refusal_in w x ≡ Some (Refused e)) → EndsWith w s e
    go (inl memory) = inl memory
    go (inr refused) = inr (ap (told w.top (run_of w)) is ∙ told_refused w.top (run_of w) x (Refused e) refused ∙ told_as)

-- ## Submissions

pub no_session_ends : (w : WorldValue) (node : ℕ) (o : Op) → is_session w.top node ≡ false → EndsWith w (script.Submit node o) NoScript
no_session_ends w node o q = inr (told_refused w.top (run_of w) (Submit node o) NoSuchActor (rw q refl))

pub spent_ends : (w : WorldValue) (node : ℕ) (o : Op) → IsRefusedAs (refusal_in w (Submit node o)) ClockSpent → EndsWith w (script.Submit node o) ClockSpent
spent_ends w node o refused = go (by_memory_or_run (refusal_in w (Submit node o)) ClockSpent refused)
  where
    go : (ClockSpent ≡ Memory) ⊎ (refusal_in w (Submit node o) ≡ Some (Refused ClockSpent)) → EndsWith w (script.Submit node o) ClockSpent
    go (inl memory) = absurd cc
    go (inr refused) = inr (told_refused w.top (run_of w) (Submit node o) (Refused ClockSpent) refused)

is_told : (node : ℕ) (e : Fault) → e ≢ ClockSpent → submission_refused node e ≡ Ok (entry.Refused node e ∷ [])
is_told node ClockSpent not = absurd (not refl)
is_told node e not = refl

-- a refused submission changes nothing and is told
pub refusal_plays : (w v : WorldValue) (node : ℕ) (o : Op) (e : Fault) → e ≢ Memory → e ≢ ClockSpent → IsRefusedAs (refusal_in w (Submit node o)) e → v ≡ w
    → PlaysBefore w (script.Submit node o) v (entry.Refused node e ∷ [])
refusal_plays w v node o e known not refused same = go (by_memory_or_run (refusal_in w (Submit node o)) e refused)
  where
    go : (e ≡ Memory) ⊎ (refusal_in w (Submit node o) ≡ Some (Refused e)) → PlaysBefore w (script.Submit node o) v (entry.Refused node e ∷ [])
    go (inl memory) = absurd (known memory)
    go (inr refused) =
        let w_run = run_of w in
        let stays : step w.top w_run (Submit node o) ≡ w_run = refused_stays w.top w_run (Submit node o) (Refused e) refused in
        record {
          topology = ap (λ (z : WorldValue). z.top) same;
          run = ap run_of same ∙ sym stays;
          told =
              told_refused w.top w_run (Submit node o) (Refused e) refused ∙ is_told node e not
              ∙ ap (λ es. Ok (entry.Refused node e ∷ es)) (sym (ap (ended_between w_run) (ap run_of same) ∙ none_ended w_run));
        }

-- ## Deliveries, collections and drains

pub unsent_ends : (w : WorldValue) (k : ℕ) → length (run_of w).sent ≤ k → EndsWith w (script.Deliver k) NoScript
unsent_ends w k le =
    inr (told_refused w.top (run_of w) (Deliver k) NotSent (ap (refusal_of_message w.top (run_of w)) (slice_get_past (run_of w).sent k le)))

pub no_shard_ends : (w : WorldValue) (node time : ℕ) → is_shard w.top node ≡ false → EndsWith w (script.Collect node time) NoScript
no_shard_ends w node time q = inr (told_refused w.top (run_of w) (Collect node time) NoSuchActor (rw q refl))

pub drain_plays : (w v : WorldValue) (n : ℕ) → v.top ≡ w.top → IsDrained w.top w.events v.events n → PlaysBefore w script.Drain v []
drain_plays w v n same d =
    let to : run_of v ≡ continued w.top (run_of w) (deliveries w.top 1000000 (run_of w)) =
    ap (λ t. run t v.events) same ∙ from_there w.top w.events v.events (deliveries w.top 1000000 (run_of w)) d.happened in
    record {
      topology = same;
      run = to;
      told = allowed_told w.top (run_of w) (deliveries w.top 1000000 (run_of w)) d.allowed ∙ ap (λ u. Ok (ended_between (run_of w) u)) (sym to);
    }

pub drain_ends : (w : WorldValue) (after : List RunEvent) (e : Fault) → IsDrainedUntil w.top w.events after e → EndsWith w script.Drain e
drain_ends w after e d = by d.refused
  where
    by : (e ≡ Memory) ⊎ (refusal_of w.top (run w.top after) (Deliver d.next) ≡ Some (Refused e)) → EndsWith w script.Drain e
    by (inl memory) = inl memory
    by (inr refused) =
        inr (ap (told w.top (run_of w)) d.drain
        ∙ refused_told w.top (run_of w) d.done d.next d.rest e d.allowed
        (ap (λ u. refusal_of w.top u (Deliver d.next)) (sym (from_there w.top w.events after d.done d.happened)) ∙ refused))

-- ## What ended

-- an event of a script only adds to what ended
pub no_fewer_ended : (w v : WorldValue) (s : ScriptEvent) (entries : List Entry) → Plays w s v entries → length (run_of w).transcript ≤ length (run_of v).transcript
no_fewer_ended w v s entries p =
    let more = (run_grew w.top (run_of w) (spelled w.top (run_of w) s)).transcript in
    let count : length (run_of v).transcript ≡ length (run_of w).transcript + length more.0 =
    ap (λ (u : Run). length u.transcript) p.run ∙ ap (λ (cs : List Completed). length cs) more.1 ∙ length-append (run_of w).transcript more.0 in
    omega arith

-- ## A script so far

pub none_played : (w : WorldValue) (entries : List Entry) → w.events ≡ [] → entries ≡ [] → HasTold w.top [] (run_of w) entries
none_played w entries opens empty = rw (opens, empty) (told_none w.top)

pub more_played : (top : TopologyValue) (xs : List ScriptEvent) (x : ScriptEvent) (w v : WorldValue) (before after : List Entry) → w.top ≡ top
    → HasTold top xs (run_of w) before → Adds before after (Plays w x v) → HasTold top (xs ++ x ∷ []) (run_of v) after
more_played top xs x w v before after same h (es, added, plays) =
    subst (HasTold top (xs ++ x ∷ []) (run_of v)) (sym added)
    (told_more top xs x (run_of w) (run_of v) before es h
    (subst (λ t. run_of v ≡ continued t (run_of w) (spelled t (run_of w) x)) same plays.run)
    (subst (λ t. told t (run_of w) (spelled t (run_of w) x) ≡ Ok es) same plays.told))

pub ended_there : (top : TopologyValue) (xs : List ScriptEvent) (x : ScriptEvent) (ys : List ScriptEvent) (w : WorldValue) (entries : List Entry) (e : Fault) → w.top ≡ top
    → HasTold top xs (run_of w) entries → told w.top (run_of w) (spelled w.top (run_of w) x) ≡ Err e → simulated_in top (xs ++ x ∷ ys) ≡ Err e
ended_there top xs x ys w entries e same h ends =
    told_until top xs x ys (run_of w) entries e h (subst (λ t. told t (run_of w) (spelled t (run_of w) x) ≡ Err e) same ends)
