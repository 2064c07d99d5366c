use Rattle.std.proofs.Common.{◌≡◌, ◌++◌, drop, string_bytes}
use Rattle.load.specs.Told.{refusals_text}
use Rattle.load.proofs.told.refusal_lines.Given as goal

abbrev pub invariant-loop-number : goal.invariant-loop-number
invariant-loop-number l = string_bytes l.text ++ refusals_text l.number (drop l.number l.counts) ≡ refusals_text 0 l.counts
