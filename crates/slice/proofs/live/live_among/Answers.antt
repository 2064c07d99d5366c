use Rattle.std.proofs.Common.{◌∙◌, ap, sym, []}
use Rattle.slice.specs.Live.{live_column}
use Rattle.slice.proofs.FilterMap.{filter_map_kept, filter_map_left}
use Rattle.slice.proofs.live.live_among.Goals as goal
use Rattle.slice.proofs.live.live_among.Goals.{in-Some+in_ok-push, in_default}

pub loop-name-preserved : goal.loop-name-preserved
loop-name-preserved c =
    elim c.match-branch-2.branch [
      | in-Some+in_ok-push w ↦
          ap (λ v. v.items) w.columns-is ∙ (w.in_ok-push.ensures.items
          ∙ filter_map_kept (live_column c.args.history.now c.args.row.now) c.args.names.now [] c.loop-name.columns.items c.loop-name.name-index
          c.name-item.result w.in-Some.column c.loop-name-test.true c.name-item.is (sym c.in_ok-column.ensures ∙ w.in-Some.is) c.loop-name.invariant)
      | in_default w ↦
          ap (λ v. v.items) w.columns-is
          ∙ filter_map_left (live_column c.args.history.now c.args.row.now) c.args.names.now [] c.loop-name.columns.items c.loop-name.name-index
          c.name-item.result c.loop-name-test.true c.name-item.is (sym c.in_ok-column.ensures ∙ w.in_default.is) c.loop-name.invariant
    ]
