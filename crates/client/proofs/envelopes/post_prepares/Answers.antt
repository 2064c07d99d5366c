use Rattle.std.proofs.Common.{rules, arith, ◌≤◌, ◌+◌}
use Rattle.std.proofs.lemmas.Grind.{common_steps}
use Rattle.client.proofs.envelopes.post_prepares.Goals as goal

pub loop-part-preserved : goal.loop-part-preserved
loop-part-preserved c =
    let took : c.loop-part.outbox.room ≤ c.post.new.self.room + 1 = search rules in
    record {
      sent = grind (arith, common_steps);
      room = grind (arith, common_steps, took);
    }

pub returns : goal.returns
returns c = grind (arith, common_steps)
