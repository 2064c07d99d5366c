-- What the events of a script make of a world, and of the entries that are told.
use Rattle.std.proofs.Common.{◌≡◌, ◌∙◌, ◌≢◌, ◌<◌, ◌+◌, ◌⊎◌, inl, inr, ℕ, List, [], ◌∷◌, ◌++◌, length, map, take, drop, get_or, Option, Some, None, Result, Ok, Err, ap, sym, subst, append_assoc}
use Rattle.std.proofs.lemmas.List.{take_more, map-append}
use Rattle.std.specs.Prelude.{OnOk, IfOk, IsOkAnd, option_to_list}
use Rattle.logical_time.specs.declared.fault.Fault.{Fault}
use Rattle.logical_time.specs.declared.fault.Fault.TheVariants.{Memory, ClockSpent}
use Rattle.messages.specs.declared.op.Op.{Op}
use Rattle.messages.specs.Topology.{TopologyValue}
use Rattle.world.specs.declared.completed.Completed.{Completed}
use Rattle.world.specs.declared.run_event.RunEvent.TheVariants.{Submit}
use Rattle.world.specs.Run.{Run, continued, opening}
use Rattle.world.specs.World.{WorldValue, run_of, refusal_in, IsRefusedAs}
use Rattle.workload.specs.declared.script.ScriptEvent.{ScriptEvent}
use Rattle.workload.specs.declared.script.ScriptEvent.TheVariants as script
use Rattle.workload.specs.declared.script.Script.{Script}
use Rattle.workload.specs.declared.transcript.Entry.{Entry}
use Rattle.workload.specs.declared.transcript.Entry.TheVariants as entry
use Rattle.workload.specs.HasTold.{HasTold}
use Rattle.workload.specs.Simulation as simulation
use Rattle.workload.specs.Simulation.{entry_of, ended_between, events_in}
use Rattle.workload.specs.Performing.{script_in, IsTextFor}
use Rattle.workload.specs.Playing.{Plays, PlaysBefore, Adds, EndsWith}
use Rattle.workload.specs.Text.{text_of}
use Rattle.workload.proofs.Plays.{refusal_plays, ended_there}
use Rattle.workload.proofs.Shown.{shown_told}
use Rattle.tracing.specs.Traced.{IsTextOf}

-- a submission that its session refused
pub refusal_told : (r : Result (Option Entry) Fault) (w v : WorldValue) (node : ℕ) (o : Op) (e : Fault)
    → IfOk r (λ t. t ≡ Some (entry.Refused node e)) → OnOk r (e ≢ Memory) → OnOk r (e ≢ ClockSpent)
    → IsRefusedAs (refusal_in w (Submit node o)) e → v ≡ w → IfOk r (λ t. PlaysBefore w (script.Submit node o) v (option_to_list t))
refusal_told (Ok t) w v node o e told known unspent refused same =
    subst (λ z. PlaysBefore w (script.Submit node o) v (option_to_list z)) (sym told) (refusal_plays w v node o e known unspent refused same)
refusal_told (Err x) w v node o e told known unspent refused same = tt

-- one more of what ended was added
pub one_more_ended : (fs es gs : List Entry) (cs : List Completed) (i : ℕ) (c : Completed) (e : Entry) → i < length cs → c ≡ get_or cs i c
    → es ≡ fs ++ map entry_of (take i cs) → e ≡ entry_of c → gs ≡ es ++ e ∷ [] → gs ≡ fs ++ map entry_of (take (i + 1) cs)
one_more_ended fs es gs cs i c e lt at same is added =
    added ∙ ap (λ x. es ++ x ∷ []) is ∙ ap (λ l. l ++ entry_of c ∷ []) same ∙ append_assoc fs (map entry_of (take i cs)) (entry_of c ∷ [])
    ∙ ap (λ l. fs ++ l)
    (sym (ap (map entry_of) (take_more cs i c lt) ∙ map-append entry_of (take i cs) (get_or cs i c ∷ []) ∙ ap (λ x. map entry_of (take i cs) ++ entry_of x ∷ []) (sym at)))

-- the entries of an event were added: its refusal, and then what ended
pub entries_added : (w v : WorldValue) (x : ScriptEvent) (t : Option Entry) (n : ℕ) (es fs gs : List Entry) → PlaysBefore w x v (option_to_list t) → n ≡ length (run_of w).transcript
    → fs ≡ es ++ option_to_list t → gs ≡ fs ++ map entry_of (drop n (run_of v).transcript) → Adds es gs (Plays w x v)
entries_added w v x t n es fs gs plays is first added =
    let ended = ended_between (run_of w) (run_of v) in (
      option_to_list t ++ ended,
      added ∙ ap (λ k. fs ++ map entry_of (drop k (run_of v).transcript)) is ∙ ap (λ hs. hs ++ ended) first ∙ append_assoc es (option_to_list t) ended,
      plays,
    )

-- the run of a script, all of whose events happened
pub run_is : (s : Script) (top : TopologyValue) (events : List ScriptEvent) (w : Run) (entries : List Entry) → top ≡ s.topology → events ≡ s.events
    → HasTold top events w entries → w ≡ simulation.run_of s
run_is s top events w entries same all h =
    h.run ∙ ap (λ t. continued t (opening t) (events_in t events)) same ∙ ap (λ xs. continued s.topology (opening s.topology) (events_in s.topology xs)) all

-- what was told of a script is there
pub was_told : {A : Type 0} (p : Result (List Entry) A) (P : List Entry → Type 0) (Q : List Entry → Type 0) → IsOkAnd p P → IfOk p Q → (entries : List Entry) × P entries × Q entries
was_told (Ok entries) P Q told of = (entries, told, of)
was_told (Err e) P Q told of = absurd told

-- an event that ends a script, or memory does
pub ends_there : (top : TopologyValue) (xs : List ScriptEvent) (x : ScriptEvent) (ys : List ScriptEvent) (w : WorldValue) (entries : List Entry) (e : Fault) → w.top ≡ top
    → HasTold top xs (run_of w) entries → EndsWith w x e → (e ≡ Memory) ⊎ (simulation.simulated_in top (xs ++ x ∷ ys) ≡ Err e)
ends_there top xs x ys w entries e same h (inl memory) = inl memory
ends_there top xs x ys w entries e same h (inr ends) = inr (ended_there top xs x ys w entries e same h ends)

-- the bytes spell the script whose transcript has this text
pub is_text_for : (bytes : List ℕ) (s : Script) (text : List ℕ) → script_in bytes ≡ Some s → IsTextOf s text → IsTextFor bytes text
is_text_for bytes s text spelled is = (s, is.0, spelled, is.1, is.2)
