use Rattle.std.proofs.Common.{◌∙◌, ap, rules}
use Rattle.std.specs.Ordering.{is_eq}
use Rattle.std.specs.Map.{set_value}
use Rattle.std.proofs.lemmas.Map.Steps.{set_value_same}
use Rattle.std.proofs.lemmas.Result.{on_err_weaker}
use Rattle.logical_time.specs.Stamps.{txn_cmp}
use Rattle.dependencies.proofs.askers.add.Goals as goal

pub returns-in-Some-clause-same : goal.returns-in-Some-clause-same
returns-in-Some-clause-same c =
    let h = c.get_mut.follows.holds c.add.new.self in
    on_err_weaker c.add.result
    (λ e. h.0 ∙ (ap (set_value (λ k. is_eq (txn_cmp c.args.dependency k)) c.args.waiters.now.entries) e ∙ set_value_same (λ k. is_eq (txn_cmp c.args.dependency k)) c.args.waiters.now.entries c.in-Some.waiting.now (search rules)))
    c.add.ensures.same
