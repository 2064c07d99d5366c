use Rattle.doors.proofs.Rounds.{all_noted}
use Rattle.doors.proofs.hall.Hall.new.Goals as goal

pub returns-clause-noted : goal.returns-clause-noted
returns-clause-noted g c = all_noted c.in_ok-new.field-0.places.items c.in_ok-all_places.field-0.items c.args.places c.in_ok-new.ensures.count c.in_ok-all_places.ensures
