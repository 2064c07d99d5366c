-- What is refused for what it asks has a low number.
use Rattle.std.proofs.Common.{ℕ, ◌<◌, Bool, true, false, ◌&&◌, ◌||◌, not, List, [], ◌∷◌, length, Option, Some, None, arith}
use Rattle.std.specs.Prelude.{if◌then◌else◌, nat_lt}
use Rattle.std.specs.List.{list_all}
use Rattle.std.specs.Option.{option_or}
use Rattle.logical_time.specs.declared.fault.Fault.{Fault}
use Rattle.logical_time.specs.declared.fault.Fault.TheVariants.{EmptyBatch, UnknownFamily, KeyLength, NameLength, ValueLength, TooMany, RangeOrder, EmptyRead}
use Rattle.logical_time.specs.Fault.{number_of}
use Rattle.column_family.specs.declared.batch.Change.{Change}
use Rattle.column_family.specs.declared.batch.Mutation.{Mutation}
use Rattle.column_family.specs.declared.batch.Mutation.TheVariants.{Insert, DeleteColumn, DeleteRow, DeleteRange}
use Rattle.column_family.specs.Limits.{is_key, is_name, is_value, is_end}
use Rattle.column_family.specs.Schema.{has_family}
use Rattle.slice.specs.declared.read.Read.{Read}
use Rattle.slice.specs.declared.predicate.Predicate.{Predicate}
use Rattle.slice.specs.declared.predicate.Predicate.TheVariants.{Names, Range}
use Rattle.slice.specs.Slice.{is_open, name_le, names_fault, range_fault, predicate_fault}
use Rattle.planner.specs.Checks.{unless, mutation_fault, change_fault, changes_fault, batch_fault, read_fault}

abbrev pub IsOfRequest : Option Fault → Type 0
IsOfRequest None = Unit {0}
IsOfRequest (Some f) = number_of f < 20

either : (a b : Option Fault) → IsOfRequest a → IsOfRequest b → IsOfRequest (option_or a b)
either None b f g = g
either (Some e) b f g = f

chosen : (b : Bool) (x y : Option Fault) → IsOfRequest x → IsOfRequest y → IsOfRequest (if b then x else y)
chosen true x y f g = f
chosen false x y f g = g

tested : (b : Bool) (f : Fault) → number_of f < 20 → IsOfRequest (unless b f)
tested true f low = tt
tested false f low = low

range_low : (start finish : List ℕ) (reversed : Bool) → IsOfRequest (range_fault start finish reversed)
range_low start finish reversed =
    let ordered = is_open start || is_open finish || (if reversed then name_le finish start else name_le start finish) in
    chosen (is_end start && is_end finish) (if ordered then None else Some RangeOrder) (Some NameLength) (chosen ordered None (Some RangeOrder) tt (omega arith)) (omega arith)

mutation_low : (m : Mutation) → IsOfRequest (mutation_fault m)
mutation_low (Insert n v) = either (unless (is_name n) NameLength) (unless (is_value v) ValueLength) (tested (is_name n) NameLength (omega arith)) (tested (is_value v) ValueLength (omega arith))
mutation_low (DeleteColumn n) = tested (is_name n) NameLength (omega arith)
mutation_low DeleteRow = tt
mutation_low (DeleteRange start finish) = range_low start finish false

change_low : (schema : List (List ℕ)) (c : Change) → IsOfRequest (change_fault schema c)
change_low schema c =
    let key = either (unless (is_key c.row.key) KeyLength) (mutation_fault c.mutation) (tested (is_key c.row.key) KeyLength (omega arith)) (mutation_low c.mutation) in
    either (unless (has_family schema c.row.family) UnknownFamily) (option_or (unless (is_key c.row.key) KeyLength) (mutation_fault c.mutation))
    (tested (has_family schema c.row.family) UnknownFamily (omega arith)) key

changes_low : (schema : List (List ℕ)) (cs : List Change) → IsOfRequest (changes_fault schema cs)
changes_low schema [] = tt
changes_low schema (c ∷ cs) = either (change_fault schema c) (changes_fault schema cs) (change_low schema c) (changes_low schema cs)

pub batch_low : (schema : List (List ℕ)) (batch : List Change) → IsOfRequest (batch_fault schema batch)
batch_low schema batch =
    let most = unless (not (nat_lt 4096 (length batch))) TooMany in
    either (unless (nat_lt 0 (length batch)) EmptyBatch) (option_or most (changes_fault schema batch)) (tested (nat_lt 0 (length batch)) EmptyBatch (omega arith))
    (either most (changes_fault schema batch) (tested (not (nat_lt 4096 (length batch))) TooMany (omega arith)) (changes_low schema batch))

names_low : (names : List (List ℕ)) → IsOfRequest (names_fault names)
names_low names =
    chosen (nat_lt 4096 (length names)) (Some TooMany) (if list_all is_name names then None else Some NameLength) (omega arith)
    (chosen (list_all is_name names) None (Some NameLength) tt (omega arith))

predicate_low : (p : Predicate) → IsOfRequest (predicate_fault p)
predicate_low (Names names) = names_low names
predicate_low (Range start finish reversed count) = range_low start finish reversed

pub read_low : (schema : List (List ℕ)) (read : Read) → IsOfRequest (read_fault schema read)
read_low schema read =
    let keys = unless (list_all is_key read.keys) KeyLength in
    let family = unless (has_family schema read.family) UnknownFamily in
    let most = unless (not (nat_lt 256 (length read.keys))) TooMany in
    let last = either keys (predicate_fault read.predicate) (tested (list_all is_key read.keys) KeyLength (omega arith)) (predicate_low read.predicate) in
    let third = either family (option_or keys (predicate_fault read.predicate)) (tested (has_family schema read.family) UnknownFamily (omega arith)) last in
    let second = either most (option_or family (option_or keys (predicate_fault read.predicate))) (tested (not (nat_lt 256 (length read.keys))) TooMany (omega arith)) third in
    either (unless (nat_lt 0 (length read.keys)) EmptyRead) (option_or most (option_or family (option_or keys (predicate_fault read.predicate)))) (tested (nat_lt 0 (length read.keys)) EmptyRead (omega arith)) second
