-- What an audit makes of its input.
use Rattle.std.specs.Prelude.{◌≡◌, ◌≢◌, ℕ, List, [], length, Option, Some, None, option_and_then, ◌⊎◌}
use Rattle.std.specs.Str.{IsUtf8}
use Rattle.serde_json.specs.Read.{read}
use Rattle.logical_time.specs.declared.fault.Fault.{Fault}
use Rattle.logical_time.specs.declared.fault.Fault.TheVariants.{Memory, Script}
use Rattle.recorded.specs.declared.performing.Audited.{Audited}
use Rattle.recorded.specs.Recorded.{RecordedValue}
use Rattle.recorded.specs.Reading.{recorded_of}
use Rattle.recorded.specs.Report.{wrong_in, report_of}

-- what the bytes record
abbrev pub recorded_in : List ℕ → Option RecordedValue
recorded_in bytes = option_and_then recorded_of (read bytes)

-- what is kept of an audit of the bytes: how many reads they record, and those that are wrong
abbrev pub IsAudited : List ℕ → Audited → Type 0
IsAudited bytes a = (r : RecordedValue) × (recorded_in bytes ≡ Some r) × (a.reads ≡ length r.reads) × (a.wrong.items ≡ wrong_in r)

-- the bytes record histories and reads, and the text is what is told of them
abbrev pub IsReport : List ℕ → List ℕ → Type 0
IsReport bytes text = (r : RecordedValue) × (recorded_in bytes ≡ Some r) × (text ≡ report_of r)

-- the same, and no read is wrong
abbrev pub IsGoodReport : List ℕ → List ℕ → Type 0
IsGoodReport bytes text = (r : RecordedValue) × (recorded_in bytes ≡ Some r) × (text ≡ report_of r) × (wrong_in r ≡ [])

-- the same, and some read is wrong
abbrev pub IsBadReport : List ℕ → List ℕ → Type 0
IsBadReport bytes text = (r : RecordedValue) × (recorded_in bytes ≡ Some r) × (text ≡ report_of r) × (wrong_in r ≢ [])

-- why there is no text for the bytes: they record nothing
abbrev pub IsRefused : List ℕ → Fault → Type 0
IsRefused bytes Script = (¬ IsUtf8 bytes) ⊎ (recorded_in bytes ≡ None)
IsRefused bytes Memory = Unit {0}
IsRefused bytes _ = ⊥
