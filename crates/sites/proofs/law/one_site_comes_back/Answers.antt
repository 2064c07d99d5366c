use Rattle.sites.proofs.Again.{lives_on, lived_so_far, goes_on_from, stay_apart}
use Rattle.sites.proofs.law.one_site_comes_back.Goals as goal

pub returns-clause-back : goal.returns-clause-back
returns-clause-back c = λ top dc s t journals first has fit second back.
    goes_on_from s t (lives_on top dc s t first second (stay_apart top dc s journals first.0.topology has fit) back) top dc

pub returns-clause-way : goal.returns-clause-way
returns-clause-way c = λ top dc s t journals first has fit second way.
    goes_on_from t s (lived_so_far top dc s t first second (stay_apart top dc s journals first.0.topology has fit) way) top dc
