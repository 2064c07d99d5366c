-- A script event by event: what it spells, and what is told of it so far.
use Rattle.std.proofs.Common.{◌≡◌, ◌∙◌, List, [], ◌∷◌, ◌++◌, Ok, Err, refl, ap, sym, append_assoc, append-nil}
use Rattle.logical_time.specs.declared.fault.Fault.{Fault}
use Rattle.messages.specs.Topology.{TopologyValue}
use Rattle.world.specs.Run.{Run, opening, continued}
use Rattle.world.proofs.safety.Runs.{run_after}
use Rattle.workload.specs.declared.script.ScriptEvent.{ScriptEvent}
use Rattle.workload.specs.declared.script.Script.{Script}
use Rattle.workload.specs.declared.transcript.Entry.{Entry}
use Rattle.workload.specs.Simulation.{spelled, all_spelled, then_told, told, simulated}
use Rattle.workload.specs.HasTold.{HasTold}
use Rattle.workload.proofs.Told.{told_after}

-- ## Events in order

pub spelled_after : (top : TopologyValue) (w : Run) (xs ys : List ScriptEvent)
    → all_spelled top w (xs ++ ys) ≡ all_spelled top w xs ++ all_spelled top (continued top w (all_spelled top w xs)) ys
spelled_after top w [] ys = refl
spelled_after top w (x ∷ xs) ys =
    let here = spelled top w x in
    let v = continued top w here in
    ap (λ es. here ++ es) (spelled_after top v xs ys)
    ∙ sym (append_assoc here (all_spelled top v xs) (all_spelled top (continued top v (all_spelled top v xs)) ys))
    ∙ ap (λ u. (here ++ all_spelled top v xs) ++ all_spelled top u ys) (sym (run_after top w here (all_spelled top v xs)))

pub told_none : (top : TopologyValue) → HasTold top [] (opening top) []
told_none top = record { run = refl; told = refl }

-- what is told of these events and then of others, from here
goes_on : (top : TopologyValue) (xs ys : List ScriptEvent) (w : Run) (entries : List Entry) → HasTold top xs w entries
    → told top (opening top) (all_spelled top (opening top) (xs ++ ys)) ≡ then_told (Ok entries) (told top w (all_spelled top w ys))
goes_on top xs ys w entries h =
    let start = opening top in
    ap (told top start) (spelled_after top start xs ys)
    ∙ told_after top start (all_spelled top start xs) (all_spelled top (continued top start (all_spelled top start xs)) ys)
    ∙ ap (λ v. then_told (told top start (all_spelled top start xs)) (told top v (all_spelled top v ys))) (sym h.run)
    ∙ ap (λ r. then_told r (told top w (all_spelled top w ys))) h.told

-- one more event
pub told_more : (top : TopologyValue) (xs : List ScriptEvent) (x : ScriptEvent) (w v : Run) (entries more : List Entry) → HasTold top xs w entries
    → v ≡ continued top w (spelled top w x) → told top w (spelled top w x) ≡ Ok more → HasTold top (xs ++ x ∷ []) v (entries ++ more)
told_more top xs x w v entries more h to tells =
    let start = opening top in
    let alone : all_spelled top w (x ∷ []) ≡ spelled top w x = append-nil (spelled top w x) in
    record {
      run =
          to ∙ ap (continued top w) (sym alone)
          ∙ ap (λ u. continued top u (all_spelled top u (x ∷ []))) h.run
          ∙ sym (run_after top start (all_spelled top start xs) (all_spelled top (continued top start (all_spelled top start xs)) (x ∷ [])))
          ∙ ap (continued top start) (sym (spelled_after top start xs (x ∷ [])));
      told = goes_on top xs (x ∷ []) w entries h ∙ ap (λ es. then_told (Ok entries) (told top w es)) alone ∙ ap (then_told (Ok entries)) tells;
    }

-- the event that ends a script
pub told_until : (top : TopologyValue) (xs : List ScriptEvent) (x : ScriptEvent) (ys : List ScriptEvent) (w : Run) (entries : List Entry) (e : Fault) → HasTold top xs w entries
    → told top w (spelled top w x) ≡ Err e → told top (opening top) (all_spelled top (opening top) (xs ++ x ∷ ys)) ≡ Err e
told_until top xs x ys w entries e h ends =
    let v = continued top w (spelled top w x) in
    goes_on top xs (x ∷ ys) w entries h
    ∙ ap (then_told (Ok entries)) (told_after top w (spelled top w x) (all_spelled top v ys) ∙ ap (λ r. then_told r (told top v (all_spelled top v ys))) ends)

-- the whole script
pub told_all : (s : Script) (w : Run) (entries : List Entry) → HasTold s.topology s.events w entries → simulated s ≡ Ok entries
told_all s w entries h = h.told
