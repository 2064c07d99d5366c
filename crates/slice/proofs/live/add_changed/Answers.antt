use Rattle.std.proofs.Common.{rules, ◌≡◌, Some, ap, ◌∙◌, sym, option_copied}
use Rattle.slice.specs.Live.{column_changed}
use Rattle.slice.proofs.FilterMap.{filter_map_kept, filter_map_left}
use Rattle.slice.proofs.live.add_changed.Goals as goal
use Rattle.slice.proofs.live.add_changed.Goals.{in-Some+in_ok-clone+in_ok-push, in_default}

pub loop-change-preserved : goal.loop-change-preserved
loop-change-preserved c =
    elim c.match-column_changed.branch [
      | in-Some+in_ok-clone+in_ok-push w ↦
          ap (λ v. v.items) w.names-is
          ∙ (w.in_ok-push.ensures.items
          ∙ filter_map_kept (column_changed c.args.row.now) c.args.changes.now c.args.names.now.items c.loop-change.names.items c.loop-change.change-index
          c.change-item.result w.in_ok-clone.field-0 c.loop-change-test.true c.change-item.is (sym c.column_changed.ensures ∙ (ap option_copied w.in-Some.is ∙ (let same : w.in_ok-clone.field-0 ≡ w.in-Some.name.now = search rules in ap Some (sym same)))) c.loop-change.invariant)
      | in_default w ↦
          ap (λ v. v.items) w.names-is
          ∙ filter_map_left (column_changed c.args.row.now) c.args.changes.now c.args.names.now.items c.loop-change.names.items c.loop-change.change-index
          c.change-item.result c.loop-change-test.true c.change-item.is (sym c.column_changed.ensures ∙ ap option_copied w.in_default.is) c.loop-change.invariant
    ]
