-- One read more is lessened.
use Rattle.std.proofs.Common.{rules, ap, sym, ◌∙◌, if◌then◌else◌, slice_set}
use Rattle.std.proofs.lemmas.List.Edits.{map_over_more}
use Rattle.messages.specs.Reads.{without}
use Rattle.messages.specs.Shard.{WaitingRead}
use Rattle.commit_check.specs.Waiting.{concerns}
use Rattle.commit_check.proofs.waits.lessen_all.Goals as goal

pub loop-wait-preserved : goal.loop-wait-preserved
loop-wait-preserved c =
    let f : WaitingRead → WaitingRead = λ x. if concerns c.args.cause.now x then record x { left = without c.args.txn x.left } else x in
    ap (slice_set c.loop-wait.wait-items c.loop-wait.wait-index) (c.lessen.ensures ∙ ap f (sym c.wait-item.is))
    ∙ map_over_more f c.args.waits.now.items c.loop-wait.wait-items c.loop-wait.wait-index c.wait-item.result (search rules) c.loop-wait.invariant c.wait-item.is
