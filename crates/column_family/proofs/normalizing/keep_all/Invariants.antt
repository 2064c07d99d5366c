use Rattle.std.proofs.Common.{◌≡◌, [], drop}
use Rattle.column_family.specs.Normal.{changes_before}
use Rattle.column_family.specs.Places.{keep_all}
use Rattle.column_family.proofs.normalizing.keep_all.Given as goal

-- what the rest makes of what is kept is what the whole batch leaves
abbrev pub invariant-loop-index : goal.invariant-loop-index
invariant-loop-index l = keep_all (changes_before l.changes) l.index l.kept.entries (drop l.index l.changes) ≡ keep_all (changes_before l.changes) 0 [] l.changes
