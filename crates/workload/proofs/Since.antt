-- Events that happen after others, and a script that runs while it is read.
use Rattle.std.proofs.Common.{◌≡◌, ◌∙◌, ℕ, ◌-◌, ◌<◌, ◌≤◌, ◌⊎◌, ◌+◌, inl, inr, Bool, true, false, not, List, [], ◌∷◌, ◌++◌, length, Err, refl, sym, ap, subst, append-nil, append_assoc, arith}
use Rattle.std.proofs.lemmas.List.{length-append}
use Rattle.json.specs.Token.{Token}
use Rattle.json.specs.Lex.{tokens}
use Rattle.logical_time.specs.declared.fault.Fault.{Fault}
use Rattle.logical_time.specs.declared.fault.Fault.TheVariants.{Memory}
use Rattle.messages.specs.Topology.{TopologyValue}
use Rattle.world.specs.Run.{Run}
use Rattle.world.specs.World.{WorldValue, run_of}
use Rattle.workload.specs.declared.marks.Mark.{Mark}
use Rattle.workload.specs.declared.script.ScriptEvent.{ScriptEvent}
use Rattle.workload.specs.declared.script.Script.{Script}
use Rattle.workload.specs.declared.transcript.Entry.{Entry}
use Rattle.workload.specs.Played.{ArePlayed}
use Rattle.workload.specs.HasTold.{HasTold, HasNoted}
use Rattle.workload.specs.Marks.{merged}
use Rattle.workload.specs.Performing.{IsTextFor}
use Rattle.workload.specs.Playing.{Plays, Adds, EndsWith}
use Rattle.workload.specs.Script.{event_of}
use Rattle.workload.specs.Simulation.{simulated_in, IsTranscriptOf}
use Rattle.workload.specs.Streams.{IsStretch, Begins}
use Rattle.workload.specs.Text.{text_of}
use Rattle.workload.proofs.Plays.{none_played, more_played, ended_there}
use Rattle.workload.proofs.Shown.{shown_told}
use Rattle.workload.proofs.Streams.{none_so_far, all_so_far, stretched}
use Rattle.workload.proofs.Members.{begun_reads}

-- ## Events after others

-- whatever happened before, if these marks noted it, more has happened since
abbrev pub Since : TopologyValue → Run → List Mark → List ScriptEvent → Run → List Entry → Type 0
Since top w₀ ms₀ xs w entries = (before : List ScriptEvent) → HasNoted top before w₀ ms₀ → HasTold top (before ++ xs) w entries

pub nothing_since : (top : TopologyValue) (w : Run) (ms : List Mark) → Since top w ms [] w (merged ms w.transcript)
nothing_since top w ms before noted = subst (λ xs. HasTold top xs w (merged ms w.transcript)) (sym (append-nil before)) noted.told

pub one_more_since : (top : TopologyValue) (w₀ : Run) (ms₀ : List Mark) (xs : List ScriptEvent) (x : ScriptEvent) (w v : WorldValue) (es fs : List Entry) → w.top ≡ top
    → Since top w₀ ms₀ xs (run_of w) es → Adds es fs (Plays w x v) → Since top w₀ ms₀ (xs ++ x ∷ []) (run_of v) fs
one_more_since top w₀ ms₀ xs x w v es fs same since adds before noted =
    subst (λ ys. HasTold top ys (run_of v) fs) (append_assoc before xs (x ∷ [])) (more_played top (before ++ xs) x w v es fs same (since before noted) adds)

-- an event that ends the script does so whatever happened before
pub ended_since : (top : TopologyValue) (w₀ : Run) (ms₀ : List Mark) (xs : List ScriptEvent) (x : ScriptEvent) (ys : List ScriptEvent) (w : WorldValue) (es : List Entry) (e : Fault) → w.top ≡ top
    → Since top w₀ ms₀ xs (run_of w) es → EndsWith w x e
    → (e ≡ Memory) ⊎ ((before : List ScriptEvent) → HasNoted top before w₀ ms₀ → simulated_in top (before ++ (xs ++ x ∷ ys)) ≡ Err e)
ended_since top w₀ ms₀ xs x ys w es e same since (inl memory) = inl memory
ended_since top w₀ ms₀ xs x ys w es e same since (inr ends) = inr (λ before noted.
    ap (simulated_in top) (sym (append_assoc before xs (x ∷ ys))) ∙ ended_there top (before ++ xs) x ys w es e same (since before noted) ends)

-- ## A script that runs while it is read

pub nothing_noted : (w : WorldValue) → w.events ≡ [] → HasNoted w.top [] (run_of w) []
nothing_noted w opens = record { marked = rw opens refl; told = none_played w [] opens refl }

-- from the start of a world, with no mark
pub noted_from_start : (w : WorldValue) (ms : List Mark) (xs : List ScriptEvent) (v : Run) (ns : List Mark) → w.events ≡ [] → ms ≡ []
    → ((before : List ScriptEvent) → HasNoted w.top before (run_of w) ms → HasNoted w.top (before ++ xs) v ns) → HasNoted w.top xs v ns
noted_from_start w ms xs v ns opens none since = since [] (subst (HasNoted w.top [] (run_of w)) (sym none) (nothing_noted w opens))

pub ended_from_start : (w : WorldValue) (ms : List Mark) (xs : List ScriptEvent) (e : Fault) → w.events ≡ [] → ms ≡ []
    → (e ≡ Memory) ⊎ ((before : List ScriptEvent) → HasNoted w.top before (run_of w) ms → simulated_in w.top (before ++ xs) ≡ Err e) → (e ≡ Memory) ⊎ (simulated_in w.top xs ≡ Err e)
ended_from_start w ms xs e opens none (inl memory) = inl memory
ended_from_start w ms xs e opens none (inr since) = inr (since [] (subst (HasNoted w.top [] (run_of w)) (sym none) (nothing_noted w opens)))

-- how far a list of events has come that happen in a world while they are read
abbrev pub ArePlaying : TopologyValue → ℕ → List Token → List Token → WorldValue → List Mark → ℕ → Bool → Type 0
ArePlaying top depth first now w ms left goes_on =
    (xs : List ScriptEvent) × IsStretch (event_of top) depth first now xs (not goes_on) × (length xs + left ≡ 100000) × HasNoted top xs (run_of w) ms × (w.top ≡ top)

pub none_playing : (top : TopologyValue) (depth : ℕ) (first : List Token) (w : WorldValue) (ms : List Mark) → w ≡ record { top = top; events = [] } → ms ≡ []
    → ArePlaying top depth first first w ms 100000 true
none_playing top depth first w ms is none = (
  [],
  (first, none_so_far (event_of top) depth first, refl),
  refl,
  rw (is, none) (nothing_noted (record { top = top; events = [] }) refl),
  ap (λ (v : WorldValue). v.top) is,
)

twice : (b : Bool) → b ≡ not (not b)
twice true = refl
twice false = refl

pub more_playing : (top : TopologyValue) (depth : ℕ) (first now new : List Token) (ys : List ScriptEvent) (last : Bool) (w v : WorldValue) (ms ns : List Mark) (left : ℕ)
    → ArePlaying top depth first now w ms left true → IsStretch (event_of top) depth now new ys last → length ys ≤ left → v.top ≡ w.top
    → ((before : List ScriptEvent) → HasNoted w.top before (run_of w) ms → HasNoted w.top (before ++ ys) (run_of v) ns)
    → ArePlaying top depth first new v ns (left - length ys) (not last)
more_playing top depth first now new ys last w v ms ns left (xs, so_far, count, noted, same) next le stays since =
    let sum = length-append xs ys in (
      xs ++ ys,
      subst (IsStretch (event_of top) depth first new (xs ++ ys)) (twice last) (stretched (event_of top) depth first now new xs ys last so_far next),
      omega arith,
      subst (λ t. HasNoted t (xs ++ ys) (run_of v) ns) same (since xs (subst (λ t. HasNoted t xs (run_of w) ms) (sym same) noted)),
      stays ∙ same,
    )

-- a list that was read to its end
pub all_played : (top : TopologyValue) (depth : ℕ) (ts first r : List Token) (w : WorldValue) (ms : List Mark) (left : ℕ) → 0 < depth → ts ≡ Token.begin_array ∷ first
    → ArePlaying top (depth - 1) first r w ms left false → ArePlayed top depth ts r (run_of w) ms
all_played top depth ts first r w ms left some e (xs, (now, so_far, end), count, noted, same) =
    (xs, all_so_far (event_of top) depth ts first now r xs some e so_far end, omega arith, noted)

-- the text of what was told
pub text_played : (text : List ℕ) (u v : List Token) (top : TopologyValue) (w : Run) (ms : List Mark) (entries : List Entry) → Begins (tokens text) u top → ArePlayed top 126 u v w ms
    → v ≡ Token.end_object ∷ [] → 0 < top.shards → entries ≡ merged ms w.transcript → IsTextFor text (text_of entries)
text_played text u v top w ms entries begins (xs, reads, le, noted) end some is =
    let script : Script = record { topology = top; events = xs } in (
      script,
      entries,
      begun_reads text u v top xs begins reads end le,
      subst (IsTranscriptOf script) (sym is) (shown_told script top xs w (merged ms w.transcript) some refl refl noted.told),
      refl,
    )
