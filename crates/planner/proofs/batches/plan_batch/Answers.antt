use Rattle.std.proofs.Common.{◌≡◌, ◌∙◌, ap, map, arith}
use Rattle.std.proofs.lemmas.Result.{IfOk-weaker}
use Rattle.column_family.specs.Places.{normal_of}
use Rattle.planner.specs.Plan.{coordinator_of, cohorts_of}
use Rattle.planner.specs.Planned.{part_on}
use Rattle.planner.proofs.Parts.{same_cohorts, parts_cut, plan_cut}
use Rattle.planner.proofs.batches.plan_batch.Goals as goal

pub returns-clause-cohorts : goal.returns-clause-cohorts
returns-clause-cohorts c =
    IfOk-weaker c.cut.result _ (λ plan. plan.cohorts.items ≡ map (part_on c.args.shards (normal_of c.args.batch.now)) (cohorts_of c.args.shards c.args.batch.now))
    (λ plan e. e ∙ ap (map (part_on c.args.shards (normal_of c.args.batch.now))) (same_cohorts c.args.batch.now c.args.shards (coordinator_of c.args.shards c.args.batch.now)))
    c.cut.ensures.cohorts

pub returns-clause-cut : goal.returns-clause-cut
returns-clause-cut c =
    plan_cut c.args.shards (normal_of c.args.batch.now) c.cut.result
    (part_on c.args.shards (normal_of c.args.batch.now) (coordinator_of c.args.shards c.args.batch.now))
    (map (part_on c.args.shards (normal_of c.args.batch.now)) (cohorts_of c.args.shards c.args.batch.now))
    (parts_cut c.args.schema.now c.args.batch.now c.args.shards (omega (arith, c.get-some.ensures.value, c.get-some.ensures.some)) c.in_ok-check_batch.ensures)
    c.cut.ensures.coordinator
    (returns-clause-cohorts c)
