-- Lines of text.
use Rattle.std.specs.Prelude.{ℕ, nat_eq, Bool, List}
use Rattle.std.specs.List.{list_any}

-- whether a line ends in the text
abbrev pub has_end : List ℕ → Bool
has_end text = list_any (λ b. nat_eq b 10) text
