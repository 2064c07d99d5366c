-- What the record of a run is, and why there may be no text of it.
use Rattle.std.proofs.Common.{◌≡◌, ◌∙◌, ap, sym, ℕ, ◌+◌, ◌<◌, List, [], ◌++◌, length, take, get_or, filter_map, append-nil, Option, Some, None, Result, Ok, Err, ◌⊎◌, inl, inr}
use Rattle.std.specs.Prelude.{IfOk}
use Rattle.std.specs.Option.{option_to_list}
use Rattle.logical_time.specs.declared.fault.Fault.{Fault}
use Rattle.logical_time.specs.declared.fault.Fault.TheVariants.{Memory}
use Rattle.column_family.specs.History.{History}
use Rattle.slice.proofs.FilterMap.{filter_map_kept, filter_map_left}
use Rattle.world.specs.declared.completed.Completed.{Completed}
use Rattle.workload.specs.declared.script.Script.{Script}
use Rattle.workload.specs.Audited.{AreFirstHistories}
use Rattle.workload.specs.Performing.{script_in}
use Rattle.workload.specs.Simulation.{run_of, simulated}
use Rattle.workload.proofs.Refused.{ends_early, no_memory}
use Rattle.recorded.specs.Recorded.{RecordedValue}
use Rattle.recorded.specs.Recording.{record_by, reads_in, IsRecordOf, IsUnrecorded}
use Rattle.recorded.specs.Writing.{IsUnwritten}

-- one more item was gone through, and what it gives was added
pub one_more : {X Y : Type 0} (f : X → Option Y) (xs : List X) (k : ℕ) (x : X) (ys zs : List Y) (o : Option Y) → k < length xs → x ≡ get_or xs k x
    → ys ≡ filter_map f (take k xs) → o ≡ f x → zs ≡ ys ++ option_to_list o → zs ≡ filter_map f (take (k + 1) xs)
one_more f xs k x ys zs None lt at is same added = added ∙ append-nil ys ∙ filter_map_left f xs [] ys k x lt at (sym same) is
one_more f xs k x ys zs (Some y) lt at is same added = added ∙ filter_map_kept f xs [] ys k x y lt at (sym same) is

-- what is recorded of a run's histories and of what ended in it is the record of the run
pub is_record : (result : Result RecordedValue Fault) (s : Script) (families : List (List ℕ)) (histories : List History) (completed : List Completed)
    → families ≡ s.topology.schema → AreFirstHistories s.topology (run_of s) s.topology.dcs histories → completed ≡ (run_of s).transcript
    → IfOk result (λ r. r ≡ record_by families histories completed) → IfOk result (IsRecordOf s)
is_record (Ok r) s families histories completed schema are ended is = rw is (record { families = schema; histories = are; reads = ap reads_in ended })
is_record (Err e) s families histories completed schema are ended is = tt

-- the script of the bytes ends early
pub ends : (bytes : List ℕ) (s : Script) (e : Fault) → script_in bytes ≡ Some s → (e ≡ Memory) ⊎ (simulated s ≡ Err e) → IsUnrecorded bytes e
ends bytes s e spelled why = inl (ends_early bytes s e spelled why)

-- no text is made of the record of its run
pub unwritten : (bytes : List ℕ) (s : Script) (r : RecordedValue) (e : Fault) → script_in bytes ≡ Some s → IsRecordOf s r → IsUnwritten e → IsUnrecorded bytes e
unwritten bytes s r e spelled is (inl script) = inr (s, r, spelled, is, script)
unwritten bytes s r e spelled is (inr memory) = inl (no_memory bytes e memory)
