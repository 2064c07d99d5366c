use Rattle.std.proofs.Common.{rules, ◌≡◌, sym, subst, false, List, ℕ}
use Rattle.std.specs.Option.{option_copied}
use Rattle.std.specs.BinaryHeap.{heap_items}
use Rattle.versions.specs.Sweeps.{AreSeen, IsOnWay, name_of}
use Rattle.versions.proofs.SweepSteps.{way_goes_on}
use Rattle.versions.proofs.sweep.Sweep.newest_over.Goals as goal

pub find-requires-clause-seen : goal.find-requires-clause-seen
find-requires-clause-seen c = subst (AreSeen c.self.inside.ranges.now c.self.inside.time) (sym c.deref.ensures.value) c.self.invariant.0

pub find-requires-clause-way : goal.find-requires-clause-way
find-requires-clause-way c =
    let w = c.self.inside in
    let rising : c.is_behind.result ≡ false = search rules in
    subst (λ (ahead : List ℕ). IsOnWay w.ranges.now w.time ahead w.next (heap_items w.reached) c.args.name.now) (sym c.deref.ensures.value)
    (way_goes_on w.ranges.now w.time w.ahead.items w.next (heap_items w.reached) (name_of (option_copied w.last)) c.args.name.now (c.is_behind.ensures rising) c.self.invariant.2)
