use Rattle.std.proofs.Common.{◌≡◌, ◌++◌, map, take}
use Rattle.store.specs.Sight.{named}
use Rattle.store.proofs.merging.add_all.Given as goal

-- those so far are added
abbrev pub invariant-loop-one : goal.invariant-loop-one
invariant-loop-one l = map named l.all.items ≡ map named l.fn.all.items ++ map named (take l.one-index l.more)
