use Rattle.std.proofs.Common.{◌≡◌, ◌++◌, length, take}
use Rattle.std.specs.List.{flat_map}
use Rattle.explore.specs.Exploration.{head_text, found_text}
use Rattle.explore.proofs.found.bytes_of.Given as goal

-- what is written before the next
abbrev pub invariant-loop-found : goal.invariant-loop-found
invariant-loop-found l =
    l.text.items ≡ head_text (length l.exploration.found.items) l.exploration.head ++ flat_map found_text (take l.found-index l.exploration.found.items)
