use Rattle.std.proofs.Common.{rules}
use Rattle.std.proofs.Common.{◌∙◌, ap, map, arith}
use Rattle.std.proofs.lemmas.Result.{IfOk-weaker}
use Rattle.planner.specs.Plan.{shards_asked}
use Rattle.planner.specs.Planned.{keys_on, IsKeyCut}
use Rattle.planner.proofs.Asked.{keys_cut}
use Rattle.planner.proofs.reads.plan_read.Goals as goal

pub returns-clause-cut : goal.returns-clause-cut
returns-clause-cut c =
    IfOk-weaker c.cut.result _ (λ plan. IsKeyCut c.args.shards c.args.read.now.keys plan.asked.items)
    (λ plan e. keys_cut c.args.shards c.args.read.now.keys plan.asked.items (omega (arith, c.get-some.ensures.value, c.get-some.ensures.some)) (e ∙ ap (λ ks. map (keys_on c.args.shards ks) (shards_asked c.args.shards ks)) c.as_slice.ensures))
    c.cut.ensures.exact

pub returns-clause-refused : goal.returns-clause-refused
returns-clause-refused c = search rules
