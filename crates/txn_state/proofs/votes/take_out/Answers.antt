use Rattle.std.proofs.Common.{rules}
use Rattle.std.proofs.lemmas.Fn.{filter_same}
use Rattle.txn_state.proofs.votes.take_out.Goals as goal

pub returns-clause-rest : goal.returns-clause-rest
returns-clause-rest c = filter_same _ _ _ (λ x b f' k. search rules) _ _ c.retain.ensures.filtered
