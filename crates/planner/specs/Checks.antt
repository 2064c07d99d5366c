-- Why a batch or a read is refused, in the order in which it is looked at.
use Rattle.std.specs.Prelude.{ℕ, Bool, false, not, nat_lt, if◌then◌else◌, List, [], ◌∷◌, length, Option, Some, None, Result, Ok, Err, ◌≡◌, unwrap_or}
use Rattle.std.specs.List.{list_all}
use Rattle.std.specs.Option.{option_or}
use Rattle.logical_time.specs.declared.fault.Fault.{Fault}
use Rattle.logical_time.specs.declared.fault.Fault.TheVariants.{EmptyBatch, UnknownFamily, KeyLength, NameLength, ValueLength, TooMany, EmptyRead, Memory}
use Rattle.column_family.specs.declared.batch.Change.{Change}
use Rattle.column_family.specs.declared.batch.Mutation.{Mutation}
use Rattle.column_family.specs.declared.batch.Mutation.TheVariants.{Insert, DeleteColumn, DeleteRow, DeleteRange}
use Rattle.column_family.specs.Limits.{is_key, is_name, is_value}
use Rattle.column_family.specs.Schema.{has_family}
use Rattle.slice.specs.declared.read.Read.{Read}
use Rattle.slice.specs.Slice.{predicate_fault, range_fault}

-- the fault, unless the test holds
abbrev pub unless : Bool → Fault → Option Fault
unless b e = if b then None else Some e

-- a name, then a value; for a deleted range the length of its ends, then their order
abbrev pub mutation_fault : Mutation → Option Fault
mutation_fault (Insert n v) = option_or (unless (is_name n) NameLength) (unless (is_value v) ValueLength)
mutation_fault (DeleteColumn n) = unless (is_name n) NameLength
mutation_fault DeleteRow = None
mutation_fault (DeleteRange start finish) = range_fault start finish false

-- the family, then the key, then the mutation
abbrev pub change_fault : List (List ℕ) → Change → Option Fault
change_fault schema c =
    option_or (unless (has_family schema c.row.family) UnknownFamily)
    (option_or (unless (is_key c.row.key) KeyLength) (mutation_fault c.mutation))

-- the fault of the first change that has one
abbrev pub changes_fault : List (List ℕ) → List Change → Option Fault
changes_fault schema [] = None
changes_fault schema (c ∷ cs) = option_or (change_fault schema c) (changes_fault schema cs)

-- a batch: 1 to 4,096 changes, and then each change through before the next
abbrev pub batch_fault : List (List ℕ) → List Change → Option Fault
batch_fault schema batch =
    option_or (unless (nat_lt 0 (length batch)) EmptyBatch)
    (option_or (unless (not (nat_lt 4096 (length batch))) TooMany) (changes_fault schema batch))

-- a read: 1 to 256 keys as listed, the family, each key, and then the predicate
abbrev pub read_fault : List (List ℕ) → Read → Option Fault
read_fault schema read =
    option_or (unless (nat_lt 0 (length read.keys)) EmptyRead)
    (option_or (unless (not (nat_lt 256 (length read.keys))) TooMany)
    (option_or (unless (has_family schema read.family) UnknownFamily)
    (option_or (unless (list_all is_key read.keys) KeyLength) (predicate_fault read.predicate))))

-- the call is refused for this, and where there is nothing to refuse it for, for want of memory alone
abbrev pub IsRefusedForOrMemory : {T : Type 0} → Option Fault → Result T Fault → Type 0
IsRefusedForOrMemory f (Ok x) = f ≡ None
IsRefusedForOrMemory f (Err e) = e ≡ unwrap_or f Memory
