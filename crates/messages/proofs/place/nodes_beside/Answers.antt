use Rattle.std.proofs.Common.{◌+◌, ◌*◌, arith}
use Rattle.std.specs.Prelude.{not, ◌==◌}
use Rattle.std.proofs.lemmas.Grind.{common_steps}
use Rattle.std.proofs.lemmas.Bool.Decides.{nat_tests}
use Rattle.messages.proofs.Places.{others_more}
use Rattle.messages.proofs.place.nodes_beside.Goals as goal
use Rattle.messages.proofs.place.nodes_beside.Goals.{then-dc-own+in_ok-push, else-dc-own}

pub loop-dc-preserved : goal.loop-dc-preserved
loop-dc-preserved c =
    let more = others_more (λ d. d * c.args.home.shards + c.args.shard) (λ d. not (d == c.args.home.dc)) c.loop-dc.dc in
    elim c.if-dc-own.branch [ then-dc-own+in_ok-push w ↦ grind (arith, common_steps, nat_tests) | else-dc-own w ↦ grind (arith, common_steps, nat_tests) ]
