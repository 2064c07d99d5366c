-- The numbers of the refusals, and when a call is refused.
use Rattle.std.specs.Prelude.{◌≡◌, ℕ, Option, Some, None, Result, Ok, Err}
use Rattle.logical_time.specs.declared.fault.Fault.{Fault}
use Rattle.logical_time.specs.declared.fault.Fault.TheVariants.{EmptyBatch, UnknownFamily, KeyLength, NameLength, ValueLength, TooMany, RangeOrder, EmptyRead, Busy, Collected, ClockSpent, Memory, JournalFull, StrangerEnd, AlreadyHome, UnknownHome, Behind, Oversize, UnknownTag, BadCount, TrailingBytes, Truncated, Script, ReadFailed, WriteFailed}

-- the number under which a refusal is documented
abbrev pub number_of : Fault → ℕ
number_of EmptyBatch = 1
number_of UnknownFamily = 2
number_of KeyLength = 3
number_of NameLength = 4
number_of ValueLength = 5
number_of TooMany = 6
number_of RangeOrder = 7
number_of EmptyRead = 8
number_of Busy = 20
number_of Collected = 21
number_of ClockSpent = 22
number_of Memory = 23
number_of JournalFull = 24
number_of StrangerEnd = 25
number_of AlreadyHome = 26
number_of UnknownHome = 27
number_of Behind = 28
number_of Oversize = 30
number_of UnknownTag = 31
number_of BadCount = 32
number_of TrailingBytes = 33
number_of Truncated = 34
number_of Script = 35
number_of ReadFailed = 36
number_of WriteFailed = 37

-- the call is refused for this, and succeeds where there is nothing to refuse it for
abbrev pub IsRefusedFor : {T : Type 0} → Option Fault → Result T Fault → Type 0
IsRefusedFor f (Ok x) = f ≡ None
IsRefusedFor f (Err e) = f ≡ Some e
