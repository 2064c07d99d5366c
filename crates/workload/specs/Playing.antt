-- What an event of a script makes of a world.
use Rattle.std.specs.Prelude.{◌≡◌, List, ◌++◌, Ok, Err, ◌⊎◌}
use Rattle.logical_time.specs.declared.fault.Fault.{Fault}
use Rattle.logical_time.specs.declared.fault.Fault.TheVariants.{Memory}
use Rattle.world.specs.Run.{continued}
use Rattle.world.specs.World.{WorldValue, run_of}
use Rattle.workload.specs.declared.script.ScriptEvent.{ScriptEvent}
use Rattle.workload.specs.declared.transcript.Entry.{Entry}
use Rattle.workload.specs.Simulation.{spelled, told, ended_between}

-- the event happened, and this is told of it
pub record Plays (old : WorldValue) (x : ScriptEvent) (new : WorldValue) (entries : List Entry) : Type 0 where
  pub topology : new.top ≡ old.top
  pub run : run_of new ≡ continued old.top (run_of old) (spelled old.top (run_of old) x)
  pub told : told old.top (run_of old) (spelled old.top (run_of old) x) ≡ Ok entries

-- these entries were told of it, and not yet what ended by it
abbrev pub PlaysBefore : WorldValue → ScriptEvent → WorldValue → List Entry → Type 0
PlaysBefore old x new entries = Plays old x new (entries ++ ended_between (run_of old) (run_of new))

-- these entries were added
abbrev pub Adds : List Entry → List Entry → (List Entry → Type 0) → Type 0
Adds before after P = (entries : List Entry) × (after ≡ before ++ entries) × P entries

-- the event ends the script with this fault, or memory does
abbrev pub EndsWith : WorldValue → ScriptEvent → Fault → Type 0
EndsWith w x e = (e ≡ Memory) ⊎ (told w.top (run_of w) (spelled w.top (run_of w) x) ≡ Err e)
