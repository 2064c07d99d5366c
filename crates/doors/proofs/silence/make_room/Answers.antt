use Rattle.std.proofs.Common.{◌∙◌, sym, inr}
use Rattle.doors.proofs.silence.make_room.Goals as goal

pub returns-clause-room : goal.returns-clause-room
returns-clause-room g c =
    let found = c.in-Some-find_rested.ensures in
    let crowded = c.if-not-is_crowded.false in
    inr (
      c.is_crowded.ensures.more crowded,
      sym c.deref.ensures.value ∙ c.is_crowded.ensures.taken crowded,
      record {
        place = c.in-Some-find_rested.place;
        connection = found.stood.0;
        patience = c.in-Some.patience;
        stood = found.stood.1;
        answered = found.stood.2;
        unpromised = found.unpromised;
        borne = c.in-Some.is;
        rested = found.rested;
        left = c.dismiss.ensures.left;
      },
    )
