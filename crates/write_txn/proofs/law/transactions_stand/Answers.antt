use Rattle.write_txn.proofs.Views.{view_of_others}
use Rattle.write_txn.proofs.CohortSteps.{known_if}
use Rattle.write_txn.proofs.Bodies.{decision_if}
use Rattle.write_txn.proofs.law.transactions_stand.Goals as goal

pub returns-clause-known : goal.returns-clause-known
returns-clause-known c = known_if

pub returns-clause-decided : goal.returns-clause-decided
returns-clause-decided c = decision_if

pub returns-clause-others : goal.returns-clause-others
returns-clause-others c = view_of_others
