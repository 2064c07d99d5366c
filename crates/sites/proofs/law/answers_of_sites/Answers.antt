use Rattle.world.proofs.replays.Merged.{are_a_run}
use Rattle.sites.proofs.Meant.{means, has_story}
use Rattle.sites.specs.Sites.{journals_of}
use Rattle.sites.proofs.Stories.{stories_fit}
use Rattle.sites.proofs.law.answers_of_sites.Goals as goal

pub returns-clause-alone : goal.returns-clause-alone
returns-clause-alone c = λ top dc s story node number o result session here ended journals events has is. means top dc node s journals events story has here is number o result ended

pub returns-clause-together : goal.returns-clause-together
returns-clause-together c = λ top stories ok live meet dc below. (has_story top stories dc, are_a_run top (journals_of top stories) (stories_fit top stories ok live meet))
