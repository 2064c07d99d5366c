-- What an event of a script came to is noted by marks, and its entries are those of the marks.
use Rattle.std.proofs.Common.{◌≡◌, ◌∙◌, ℕ, zero, suc, ◌+◌, ◌-◌, ◌≢◌, List, [], ◌∷◌, ◌++◌, length, map, replicate, Option, Some, None, Result, Ok, Err, refl, ap, sym, subst, arith, append_assoc}
use Rattle.std.specs.Prelude.{OnOk, IfOk}
use Rattle.std.proofs.lemmas.List.{length-append}
use Rattle.logical_time.specs.declared.fault.Fault.{Fault}
use Rattle.logical_time.specs.declared.fault.Fault.TheVariants.{Memory, ClockSpent}
use Rattle.messages.specs.declared.op.Op.{Op}
use Rattle.world.specs.declared.run_event.RunEvent.TheVariants.{Submit}
use Rattle.world.specs.declared.completed.Completed.{Completed}
use Rattle.world.specs.Run.{Run}
use Rattle.world.specs.World.{WorldValue, run_of, refusal_in, IsRefusedAs}
use Rattle.world.proofs.growing.Grown.{run_grew}
use Rattle.workload.specs.declared.script.ScriptEvent.{ScriptEvent}
use Rattle.workload.specs.declared.script.ScriptEvent.TheVariants as script
use Rattle.workload.specs.declared.marks.Mark.{Mark}
use Rattle.workload.specs.declared.marks.Mark.TheVariants as mark
use Rattle.workload.specs.declared.marks.Refusal.{Refusal}
use Rattle.workload.specs.declared.transcript.Entry.{Entry}
use Rattle.workload.specs.declared.transcript.Entry.TheVariants as entry
use Rattle.workload.specs.Simulation.{entry_of, spelled, ended_between}
use Rattle.workload.specs.Playing.{Plays, PlaysBefore, Adds}
use Rattle.workload.specs.Marks.{merged, ended_in, noted, told_refusal}
use Rattle.workload.proofs.Told.{past_is}
use Rattle.workload.proofs.Plays.{refusal_plays, no_fewer_ended}

-- more marks, and more that ended
merged_more : (ms ns : List Mark) (cs ds : List Completed) → ended_in ms ≡ length cs → merged (ms ++ ns) (cs ++ ds) ≡ merged ms cs ++ merged ns ds
merged_more [] ns [] ds h = refl
merged_more [] ns (c ∷ cs) ds h = absurd (omega arith)
merged_more (mark.Refused r ∷ ms) ns cs ds h = ap (λ es. entry.Refused r.node r.fault ∷ es) (merged_more ms ns cs ds h)
merged_more (mark.Ended ∷ ms) ns [] ds h = absurd (omega arith)
merged_more (mark.Ended ∷ ms) ns (c ∷ cs) ds h = ap (λ es. entry_of c ∷ es) (merged_more ms ns cs ds (omega arith))

ended_more : (ms ns : List Mark) → ended_in (ms ++ ns) ≡ ended_in ms + ended_in ns
ended_more [] ns = omega arith
ended_more (mark.Refused r ∷ ms) ns = ended_more ms ns
ended_more (mark.Ended ∷ ms) ns = (let rest = ended_more ms ns in omega arith)

ended_alone : (n : ℕ) → ended_in (replicate n mark.Ended) ≡ n
ended_alone zero = refl
ended_alone (suc n) = ap suc (ended_alone n)

merged_alone : (cs : List Completed) → merged (replicate (length cs) mark.Ended) cs ≡ map entry_of cs
merged_alone [] = refl
merged_alone (c ∷ cs) = ap (λ es. entry_of c ∷ es) (merged_alone cs)

one_more : (n : ℕ) → replicate n mark.Ended ++ mark.Ended ∷ [] ≡ replicate (suc n) mark.Ended
one_more zero = refl
one_more (suc n) = ap (λ ms. mark.Ended ∷ ms) (one_more n)

-- one more outcome is noted
pub noted_next : (ms : List Mark) (r : Option Refusal) (n : ℕ) → (ms ++ noted r n) ++ mark.Ended ∷ [] ≡ ms ++ noted r (suc n)
noted_next ms None n = append_assoc ms (replicate n mark.Ended) (mark.Ended ∷ []) ∙ ap (λ ns. ms ++ ns) (one_more n)
noted_next ms (Some r) n = append_assoc ms (mark.Refused r ∷ replicate n mark.Ended) (mark.Ended ∷ []) ∙ ap (λ ns. ms ++ mark.Refused r ∷ ns) (one_more n)

ended_noted : (r : Option Refusal) (n : ℕ) → ended_in (noted r n) ≡ n
ended_noted None n = ended_alone n
ended_noted (Some r) n = ended_alone n

merged_noted : (r : Option Refusal) (ds : List Completed) → merged (noted r (length ds)) ds ≡ told_refusal r ++ map entry_of ds
merged_noted None ds = merged_alone ds
merged_noted (Some r) ds = ap (λ es. entry.Refused r.node r.fault ∷ es) (merged_alone ds)

-- what an event came to
noted_count : (ms : List Mark) (r : Option Refusal) (m n : ℕ) → ended_in ms ≡ m → ended_in (ms ++ noted r n) ≡ m + n
noted_count ms r m n h = ended_more ms (noted r n) ∙ ap (λ k. k + ended_in (noted r n)) h ∙ ap (λ k. m + k) (ended_noted r n)

noted_entries : (ms : List Mark) (r : Option Refusal) (cs ds : List Completed) → ended_in ms ≡ length cs
    → merged (ms ++ noted r (length ds)) (cs ++ ds) ≡ merged ms cs ++ (told_refusal r ++ map entry_of ds)
noted_entries ms r cs ds h = merged_more ms (noted r (length ds)) cs ds h ∙ ap (λ es. merged ms cs ++ es) (merged_noted r ds)

-- ## Events

-- a submission that its session refused
pub refusal_told : (r : Result (Option Refusal) Fault) (w v : WorldValue) (node : ℕ) (o : Op) (e : Fault)
    → IfOk r (λ t. t ≡ Some (record { node = node; fault = e })) → OnOk r (e ≢ Memory) → OnOk r (e ≢ ClockSpent)
    → IsRefusedAs (refusal_in w (Submit node o)) e → v ≡ w → IfOk r (λ t. PlaysBefore w (script.Submit node o) v (told_refusal t))
refusal_told (Ok t) w v node o e told known unspent refused same =
    subst (λ z. PlaysBefore w (script.Submit node o) v (told_refusal z)) (sym told) (refusal_plays w v node o e known unspent refused same)
refusal_told (Err x) w v node o e told known unspent refused same = tt

-- what ended at an event
newly_ended : (w v : WorldValue) (s : ScriptEvent) (es : List Entry) → Plays w s v es → (ds : List Completed) × ((run_of v).transcript ≡ (run_of w).transcript ++ ds)
newly_ended w v s es p =
    let more = (run_grew w.top (run_of w) (spelled w.top (run_of w) s)).transcript in
    (more.0, ap (λ (u : Run). u.transcript) p.run ∙ more.1)

-- how many are noted
pub counts_noted : (w v : WorldValue) (s : ScriptEvent) (t : Option Refusal) (ms ns : List Mark) (n : ℕ) → ended_in ms ≡ length (run_of w).transcript
    → PlaysBefore w s v (told_refusal t) → n ≡ length (run_of v).transcript - length (run_of w).transcript → ns ≡ ms ++ noted t n
    → ended_in ns ≡ length (run_of v).transcript
counts_noted w v s t ms ns n marked p is added =
    let fewer = no_fewer_ended w v s _ p in
    let count : length (run_of w).transcript + n ≡ length (run_of v).transcript = omega arith in
    ap ended_in added ∙ noted_count ms t (length (run_of w).transcript) n marked ∙ count

-- and the entries of the marks
pub adds_noted : (w v : WorldValue) (s : ScriptEvent) (t : Option Refusal) (ms ns : List Mark) (n : ℕ) → ended_in ms ≡ length (run_of w).transcript
    → PlaysBefore w s v (told_refusal t) → n ≡ length (run_of v).transcript - length (run_of w).transcript → ns ≡ ms ++ noted t n
    → Adds (merged ms (run_of w).transcript) (merged ns (run_of v).transcript) (Plays w s v)
adds_noted w v s t ms ns n marked p is added =
    let before = (run_of w).transcript in
    let after = (run_of v).transcript in
    let (ds, whole) = newly_ended w v s _ p in
    let sum : length after ≡ length before + length ds = ap (λ (cs : List Completed). length cs) whole ∙ length-append before ds in
    let count : n ≡ length ds = omega arith in
    let ended : ended_between (run_of w) (run_of v) ≡ map entry_of ds = ap (map entry_of) (past_is before after (ds, whole)) in (
      told_refusal t ++ ended_between (run_of w) (run_of v),
      ap (λ z. merged z after) added ∙ ap (λ k. merged (ms ++ noted t k) after) count ∙ ap (merged (ms ++ noted t (length ds))) whole
          ∙ noted_entries ms t before ds marked ∙ ap (λ es. merged ms before ++ (told_refusal t ++ es)) (sym ended),
      p,
    )
