use Rattle.std.proofs.Common.{◌∙◌, ap}
use Rattle.std.specs.Prelude.{count_by}
use Rattle.audit.proofs.Counted.{counts_wrong}
use Rattle.audit.proofs.auditing.audit.Goals as goal

pub returns-clause-wrong : goal.returns-clause-wrong
returns-clause-wrong g c =
    counts_wrong c.args.histories.now c.args.completed.now _ _ _ (c.count.ensures ∙ ap (count_by (λ b. b)) c.as_slice-2.ensures.value) c.in_ok-wrong.ensures
    (c.as_slice.ensures.value ∙ c.in_ok-laid.ensures.ok)
