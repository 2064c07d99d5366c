use Rattle.std.proofs.Common.{refl}
use Rattle.actors.proofs.Showing.{shown_empty}
use Rattle.actors.proofs.member.Member.new.Goals as goal

pub returns-clause-past : goal.returns-clause-past
returns-clause-past g c =
    let came = c.in_ok-machine.ensures.came in
    record {
      came = came;
      taken = c.in_ok-machine.ensures.untaken;
      accepted = refl;
      clocked = refl;
      shown = shown_empty g.M.Machine.came_from c.args.topology.now c.args.node c.in_ok-machine.machine came;
    }
