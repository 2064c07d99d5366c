use Rattle.write_txn.proofs.CohortSteps.{cohort_prepares, cohort_applies}
use Rattle.write_txn.proofs.Bodies.{prepare_known, prepare_unknown, commit_applies}
use Rattle.write_txn.proofs.law.parts_move_on.Goals as goal

pub returns-clause-unknown : goal.returns-clause-unknown
returns-clause-unknown c = prepare_unknown

pub returns-clause-known : goal.returns-clause-known
returns-clause-known c = prepare_known

pub returns-clause-prepared : goal.returns-clause-prepared
returns-clause-prepared c = cohort_prepares

pub returns-clause-commit : goal.returns-clause-commit
returns-clause-commit c = commit_applies

pub returns-clause-applied : goal.returns-clause-applied
returns-clause-applied c = cohort_applies
