use Rattle.std.proofs.lemmas.List.Elements.{All-push}
use Rattle.explore.specs.Exploration.{IsShown}
use Rattle.explore.proofs.exploring.all_found.Goals as goal

pub loop-place-preserved : goal.loop-place-preserved
loop-place-preserved c = rw c.in_ok-push.ensures.items (All-push (IsShown c.args.lose c.args.script.now) c.loop-place.all.items _ c.loop-place.invariant c.in_ok-found_at.ensures)
