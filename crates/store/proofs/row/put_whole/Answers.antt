use Rattle.std.proofs.Common.{rules, ◌≡◌, ◌∙◌, ap, List, ℕ}
use Rattle.versions.specs.declared.range.RangeDeletion.{RangeDeletion}
use Rattle.versions.specs.Ranges.{put_range}
use Rattle.store.proofs.applied.Written.{range_of, left_put}
use Rattle.store.proofs.row.put_whole.Goals as goal

pub returns-in-DeleteRange-clause-ranges : goal.returns-in-DeleteRange-clause-ranges
returns-in-DeleteRange-clause-ranges c =
    let o = c.args.origin.now in
    let start : c.in_ok-clone.field-0 ≡ c.in-DeleteRange.start = search rules in
    let finish : c.in_ok-clone-2.field-0 ≡ c.in-DeleteRange.finish = search rules in
    let put : c.put_range-in-DeleteRange.new.self.ranges.ranges ≡ put_range c.args.held.now.ranges.ranges (range_of o c.in-DeleteRange.start c.in-DeleteRange.finish) =
    c.put_range-in-DeleteRange.ensures.put
    ∙ ap (λ (xs : List RangeDeletion). put_range xs (range_of o c.in_ok-clone.field-0 c.in_ok-clone-2.field-0)) c.in_ok-reserve_ranges.ensures.ranges
    ∙ ap (λ (n : List ℕ). put_range c.args.held.now.ranges.ranges (range_of o n c.in_ok-clone-2.field-0)) start
    ∙ ap (λ (n : List ℕ). put_range c.args.held.now.ranges.ranges (range_of o c.in-DeleteRange.start n)) finish in
    left_put o c.args.mutation.now c.in-DeleteRange.start c.in-DeleteRange.finish c.args.held.now.ranges.ranges c.put_range-in-DeleteRange.new.self.ranges.ranges c.in-DeleteRange.is put
