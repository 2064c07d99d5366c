use Rattle.std.proofs.Common.{◌∙◌, Some, ap}
use Rattle.site.proofs.Doing.{at_place, did, refused}
use Rattle.site.proofs.kept.happen_at.Goals as goal

pub returns-clause-done : goal.returns-clause-done
returns-clause-done g c =
    let e = c.happen.ensures in
    let at = at_place c.args.members.now.items c.args.place c.index_mut.result.now _ c.requires.there.1 c.index_mut.ensures.value ∙ ap Some c.in-Some.is in
    did g.M.Machine.came_from g.M.Machine.untaken g.M.Machine.refuses c.args.members.now.items c.args.place c.args.event c.happen.new.sends.sent c.in-Some.member c.happen.new.self at e.node
    c.happen.result e.past e.sound e.timed e.number

pub returns-clause-undone : goal.returns-clause-undone
returns-clause-undone g c =
    let e = c.happen.ensures in
    let at = at_place c.args.members.now.items c.args.place c.index_mut.result.now _ c.requires.there.1 c.index_mut.ensures.value ∙ ap Some c.in-Some.is in
    refused g.M.Machine.came_from g.M.Machine.untaken g.M.Machine.refuses c.args.members.now.items c.args.place c.args.event c.happen.new.sends.sent c.in-Some.member c.happen.new.self at e.node
    c.happen.result e.same e.still e.refused
