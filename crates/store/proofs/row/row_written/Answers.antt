use Rattle.std.proofs.Common.{rules, ◌≡◌, ◌∙◌, ◌+◌, sym, ap, refl, take, ◌++◌, [], ◌∷◌, List, true, false}
use Rattle.std.proofs.lemmas.List.{take_more, take_all}
use Rattle.column_family.specs.declared.batch.Change.{Change}
use Rattle.column_family.specs.Location.{is_same_row}
use Rattle.versions.specs.Ranges.{HeldRanges}
use Rattle.store.specs.Stored.{put_all, put_all_ranges, ranges_written, written}
use Rattle.store.proofs.applied.Changes.{none_left, own_left, other_left}
use Rattle.store.proofs.applied.Written.{own_ranges, other_ranges}
use Rattle.store.proofs.row.row_written.Goals as goal
use Rattle.store.proofs.row.row_written.Goals.{then-eq+in_ok-put_whole, else-eq}

pub loop-change-init : goal.loop-change-init
loop-change-init c = record {
  versions = λ p. none_left c.new-held.result p c.new-held.ensures.columns c.new-held.ensures.deletions;
  ranges = ap (λ (h : HeldRanges). h.ranges) c.new-held.ensures.ranges;
}

pub loop-change-preserved : goal.loop-change-preserved
loop-change-preserved c =
    let o = c.args.origin.now in
    let r = c.args.row.now in
    let so_far = take c.loop-change.change-index c.args.changes.now in
    let x = c.change-item.result in
    let more : take (c.loop-change.change-index + 1) c.args.changes.now ≡ so_far ++ x ∷ [] =
    take_more c.args.changes.now c.loop-change.change-index x c.loop-change-test.true ∙ ap (λ (y : Change). so_far ++ y ∷ []) (sym c.change-item.is) in
    elim c.if-eq.branch [
      | then-eq+in_ok-put_whole w ↦
          (let own : is_same_row r x.row ≡ true = search rules in
          record {
            versions = λ p. rw (w.held-is, more) (own_left o r p so_far x c.loop-change.held c.loop-change.held w.put_whole.new.held own (c.loop-change.invariant.versions p) refl (w.in_ok-put_whole.ensures.versions p));
            ranges = rw (w.held-is, more) (own_ranges o r so_far x c.loop-change.held.ranges.ranges w.put_whole.new.held.ranges.ranges own c.loop-change.invariant.ranges w.in_ok-put_whole.ensures.ranges);
          })
      | else-eq w ↦
          (let other : is_same_row r x.row ≡ false = search rules in
          record {
            versions = λ p. rw (w.held-is, more) (other_left o r p so_far x c.loop-change.held other (c.loop-change.invariant.versions p));
            ranges = rw (w.held-is, more) (other_ranges o r so_far x c.loop-change.held.ranges.ranges other c.loop-change.invariant.ranges);
          })
    ]

pub returns-clause-ok : goal.returns-clause-ok
returns-clause-ok c = λ p.
    let all = take_all c.loop-change.change-index c.args.changes.now (search rules) in
    c.loop-change.invariant.versions p ∙ ap (λ (cs : List Change). put_all [] (written c.args.origin.now c.args.row.now p cs)) all

pub returns-clause-ranges : goal.returns-clause-ranges
returns-clause-ranges c =
    let all = take_all c.loop-change.change-index c.args.changes.now (search rules) in
    c.loop-change.invariant.ranges ∙ ap (λ (cs : List Change). put_all_ranges [] (ranges_written c.args.origin.now c.args.row.now cs)) all
