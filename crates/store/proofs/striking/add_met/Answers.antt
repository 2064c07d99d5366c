use Rattle.std.proofs.Common.{rules, ◌≡◌, ◌∙◌, ap, refl, ◌++◌, filter_map, Some, None, true, false, List}
use Rattle.std.proofs.lemmas.List.{take_all}
use Rattle.logical_time.specs.Stamps.{WriterValue}
use Rattle.slice.specs.Meeting.{meets}
use Rattle.slice.proofs.FilterMap.{filter_map_kept, filter_map_left}
use Rattle.store.specs.declared.striking.Standing.{Standing}
use Rattle.store.proofs.seen.Strikes.{met_writer, writers_given}
use Rattle.store.proofs.striking.add_met.Goals as goal
use Rattle.store.proofs.striking.add_met.Goals.{then-meets+in_ok-push, else-meets}

pub loop-one-preserved : goal.loop-one-preserved
loop-one-preserved c =
    let p = c.args.predicate.now in
    let cols = c.args.columns.now in
    let x = c.one-item.result in
    elim c.if-meets.branch [
      | then-meets+in_ok-push w ↦
          (let yes : meets p cols x.range.now.start x.range.now.finish ≡ true = search rules in
          let gives : met_writer p cols x ≡ Some x.range.now.writer = rw yes refl in
          rw w.writers-is (w.in_ok-push.ensures.items
          ∙ filter_map_kept (met_writer p cols) c.args.ranges.now c.args.writers.now.items c.loop-one.writers.items c.loop-one.one-index x x.range.now.writer c.loop-one-test.true c.one-item.is gives c.loop-one.invariant))
      | else-meets w ↦
          (let no : meets p cols x.range.now.start x.range.now.finish ≡ false = search rules in
          let gives : met_writer p cols x ≡ None = rw no refl in
          rw w.writers-is (filter_map_left (met_writer p cols) c.args.ranges.now c.args.writers.now.items c.loop-one.writers.items c.loop-one.one-index x c.loop-one-test.true c.one-item.is gives c.loop-one.invariant))
    ]

pub returns : goal.returns
returns c =
    c.loop-one.invariant
    ∙ ap (λ (xs : List Standing). c.args.writers.now.items ++ filter_map (met_writer c.args.predicate.now c.args.columns.now) xs) (take_all c.loop-one.one-index c.args.ranges.now (search rules))
    ∙ ap (λ (ws : List WriterValue). c.args.writers.now.items ++ ws) (writers_given c.args.predicate.now c.args.columns.now c.args.ranges.now)
