use Rattle.std.proofs.Common.{◌≡◌, ◌∙◌, ap, rules, List}
use Rattle.std.proofs.lemmas.Fn.{filter_same}
use Rattle.column_family.specs.declared.batch.Change.{Change}
use Rattle.planner.specs.Plan.{part_for}
use Rattle.planner.proofs.batches.part_left.Goals as goal

pub returns : goal.returns
returns c =
    let left : c.retain.new.self.items ≡ part_for c.args.shards c.into_vec-changes.result.items c.args.shard = filter_same _ _ _ (λ x b f' k. search rules) _ _ c.retain.ensures.filtered in
    c.fitted.ensures
    ∙ c.from_changes.ensures
    ∙ left
    ∙ ap (λ (l : List Change). part_for c.args.shards l c.args.shard) c.into_vec-changes.ensures
