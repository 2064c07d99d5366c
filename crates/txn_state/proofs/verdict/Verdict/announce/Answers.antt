use Rattle.std.proofs.Common.{rules}
use Rattle.txn_state.proofs.verdict.Verdict.announce.Goals as goal

pub returns-clause-told : goal.returns-clause-told
returns-clause-told c = search rules

pub returns-clause-space : goal.returns-clause-space
returns-clause-space c = search rules
