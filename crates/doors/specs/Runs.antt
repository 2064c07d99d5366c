-- Runs of rounds, from the beginning.
use Rattle.std.specs.Prelude.{◌≡◌, ℕ, List, ◌++◌, Option}
use Rattle.messages.specs.declared.op.Op.{Op}
use Rattle.wire.specs.Replies.{Reply}
use Rattle.readiness.specs.declared.connection.Connection.{Connection}
use Rattle.readiness.specs.declared.run.Gone.{Gone}
use Rattle.readiness.specs.Lines.{ReadyValue}
use Rattle.readiness.specs.Memory.{MemoryValue, line_of}
use Rattle.readiness.specs.Runs.{RanFor}
use Rattle.doors.specs.Doorways.{Gives, lines_of}
use Rattle.doors.specs.Spans.{HaveEnded}

-- The door gave lines, and these ran at places that were free at first: connections that left had ended.
abbrev pub HasServed : {L : Type 0} {P : Type 0} {D : Type 0} → (L → ReadyValue) → (ℕ → P → Op → Reply → P → Type 0) → (D → Option L → D → Type 0) → Option ℕ → D → P → D → List (Option (Connection L)) → P → Type 0
HasServed {L = L} seen asks gives idle d p e places q =
    (calls : List (Option L)) × Gives gives d calls e × (left : List (Gone L)) × HaveEnded seen idle left × RanFor seen asks (lines_of calls) left p places q

-- So many lines in memory, from the first on, ran at places that were free at first; these are still to come.
abbrev pub HasServedLines : {P : Type 0} → (ℕ → P → Op → Reply → P → Type 0) → Option ℕ → List MemoryValue → P → List MemoryValue → List (Option (Connection MemoryValue)) → P → Type 0
HasServedLines asks idle lines p to_come places q =
    (given : List MemoryValue) × (lines ≡ given ++ to_come) × (left : List (Gone MemoryValue)) × HaveEnded line_of idle left × RanFor line_of asks given left p places q
