-- What an input has left.
use Rattle.std.specs.Prelude.{ℕ, List, Option, option_and_then}
use Rattle.program.specs.declared.input.Input.{Input}

-- the bytes that the reader has left, where they are known
abbrev pub bytes_left : {R : Type 0} → (R → Option (List ℕ)) → Input R → Option (List ℕ)
bytes_left remaining input = option_and_then remaining input.reader
