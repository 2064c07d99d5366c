use Rattle.std.proofs.Common.{◌∙◌, sym, []}
use Rattle.std.specs.Option.{option_copied}
use Rattle.slice.proofs.FilterMap.{filter_map_kept, filter_map_left}
use Rattle.store.specs.declared.sight.Seen.{Seen}
use Rattle.store.specs.Sight.{named, live_of}
use Rattle.store.proofs.reading.live_columns.Goals as goal
use Rattle.store.proofs.reading.live_columns.Goals.{in-Some+in_ok-push, in_default}

pub loop-one-preserved : goal.loop-one-preserved
loop-one-preserved c =
    elim c.match-branch-3.branch [
      | in-Some+in_ok-push w ↦
          rw w.columns-is (w.in_ok-push.ensures.items
          ∙ filter_map_kept (λ (s : Seen). live_of (option_copied c.args.deletion) (named s)) c.args.seen.now [] c.loop-one.columns.items c.loop-one.one-index
          c.one-item.result w.in-Some.column c.loop-one-test.true c.one-item.is (sym c.in_ok-column.ensures.ok ∙ w.in-Some.is) c.loop-one.invariant)
      | in_default w ↦
          rw w.columns-is (filter_map_left (λ (s : Seen). live_of (option_copied c.args.deletion) (named s)) c.args.seen.now [] c.loop-one.columns.items c.loop-one.one-index
          c.one-item.result c.loop-one-test.true c.one-item.is (sym c.in_ok-column.ensures.ok ∙ w.in_default.is) c.loop-one.invariant)
    ]
