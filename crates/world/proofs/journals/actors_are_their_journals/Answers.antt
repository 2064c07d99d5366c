use Rattle.world.proofs.replays.OwnJournals.{each_is_its_journal}
use Rattle.world.proofs.journals.actors_are_their_journals.Goals as goal

pub returns : goal.returns
returns c = each_is_its_journal
