use Rattle.std.proofs.Common.{◌≡◌, ◌++◌, length, map}
use Rattle.std.specs.Option.{option_copied}
use Rattle.slice.specs.Slice.{walked}
use Rattle.store.specs.Sight.{named}
use Rattle.store.specs.Walk.{seen_until}
use Rattle.store.proofs.walk.walk_until.Given as goal

-- what is left to walk completes the walk
abbrev pub invariant-loop-wanted : goal.invariant-loop-wanted
invariant-loop-wanted l =
    map named l.walk.items ++ seen_until (option_copied l.deletion) l.wanted (walked l.reversed l.rest)
    ≡ seen_until (option_copied l.deletion) l.most (walked l.reversed l.columns.entries)

abbrev pub decreases-loop-wanted : goal.decreases-loop-wanted
decreases-loop-wanted l = length l.rest
