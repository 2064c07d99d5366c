use Rattle.std.proofs.Common.{[], refl}
use Rattle.actors.proofs.Showing.{shown_empty}
use Rattle.actors.proofs.recorded.Recorded.new.Goals as goal

pub returns-clause-recorded : goal.returns-clause-recorded
returns-clause-recorded g c =
    let came = c.in_ok-machine.ensures.came in
    record {
      sent = [];
      goes = λ to. refl;
      past =
          record {
            came = came;
            taken = c.in_ok-machine.ensures.untaken;
            accepted = refl;
            clocked = refl;
            shown = shown_empty g.M.Machine.came_from c.args.topology.now c.args.node c.in_ok-machine.machine came;
          };
    }
