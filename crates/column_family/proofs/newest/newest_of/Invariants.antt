use Rattle.std.proofs.Common.{◌≡◌, option_map}
use Rattle.column_family.specs.History.{newest_of}
use Rattle.column_family.specs.Newest.{seen, passes}
use Rattle.column_family.proofs.NewestFold.{newest_before}
use Rattle.column_family.proofs.newest.newest_of.Given as goal

-- the newest so far stands for what lies behind
abbrev pub invariant-loop-entry : goal.invariant-loop-entry
invariant-loop-entry l = newest_before (passes l.test) l.entry-iterator.iter.rest.now (option_map seen l.newest) ≡ newest_of (passes l.test) l.history
