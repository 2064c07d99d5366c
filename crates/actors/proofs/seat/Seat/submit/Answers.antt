use Rattle.std.proofs.Common.{◌≡◌, ◌+◌, Some, rules}
use Rattle.actors.specs.Journals.{submissions}
use Rattle.actors.proofs.Working.{submitted}
use Rattle.actors.proofs.seat.Seat.submit.Goals as goal

pub returns-in-Ok-Some-clause-number : goal.returns-in-Ok-Some-clause-number
returns-in-Ok-Some-clause-number g c =
    let is : Some c.in-Ok-Some.number ≡ Some (submissions c.args.self.now.journal + 1) = search rules in
    submitted c.args.self.now.journal c.own.new.self.journal c.args.op c.in-Ok-Some.number is c.in-Ok-Some.ensures.ok.journal
