use Rattle.std.proofs.Common.{rules, ◌≡◌, ◌∙◌, ◌++◌, ap}
use Rattle.messages.specs.Words.{in_writer_order}
use Rattle.dependencies.proofs.Ordered.{sorted_once}
use Rattle.dependencies.proofs.ordering.in_order.Goals as goal

pub returns-clause-ok : goal.returns-clause-ok
returns-clause-ok c =
    let all : c.extend_from_slice-2.new.self.items ≡ c.args.writers.now ++ c.args.others.now = search rules in
    sorted_once _ _ c.in_ok-sorted.ensures.sorted c.in_ok-sorted.ensures.same ∙ ap in_writer_order all
