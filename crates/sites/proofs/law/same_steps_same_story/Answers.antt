use Rattle.sites.proofs.Again.{lives_on, lived_so_far, goes_on_from}
use Rattle.sites.proofs.law.same_steps_same_story.Goals as goal

pub returns-clause-back : goal.returns-clause-back
returns-clause-back c = λ top dc s t first second apart back. goes_on_from s t (lives_on top dc s t first second apart back) top dc

pub returns-clause-way : goal.returns-clause-way
returns-clause-way c = λ top dc s t first second apart way. goes_on_from t s (lived_so_far top dc s t first second apart way) top dc
