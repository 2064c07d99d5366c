use Rattle.world.proofs.in_code.Held.{submission_holds}
use Rattle.world.proofs.world.World.submit.Goals as goal

pub invariant_of-self-2 : goal.invariant_of-self-2
invariant_of-self-2 c =
    submission_holds c.self.inside.actors _ c.self.inside.log _ _ c.args.session _ c.args.op _ _ c.self.invariant c.make_room_for_submission.ensures.same c.in_ok-number.ensures.ok
    c.submit.ensures.topology c.in-Ok.ensures.copies.1 c.in-Ok.ensures.copies.2 c.add_submission.ensures.events c.add_submission.ensures.writes c.add_submission.ensures.delivered
