use Rattle.present.proofs.AtRest.{none_is_given_up}
use Rattle.present.proofs.law.collections_at_rest_give_up_no_read.Goals as goal

pub returns : goal.returns
returns c = λ top events ok come d has is. none_is_given_up top events ok come d has is
