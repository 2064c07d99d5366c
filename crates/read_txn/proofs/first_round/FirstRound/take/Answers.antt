use Rattle.std.proofs.Common.{[], ◌∷◌, ◌++◌, sym, subst}
use Rattle.std.proofs.lemmas.Result.{IfOk-weaker}
use Rattle.read_txn.specs.Valid.{AcceptsValid}
use Rattle.read_txn.proofs.Accepted.{accepts_valid}
use Rattle.read_txn.proofs.first_round.FirstRound.take.Goals as goal

pub returns-clause-valid : goal.returns-clause-valid
returns-clause-valid c =
    let f = c.args.self in
    let all = f.heard ++ record { from = c.args.from; rows = c.args.rows } ∷ [] in
    IfOk-weaker c.taken.result _ (λ taken. AcceptsValid f.asked all taken) (λ taken e. subst (λ t. AcceptsValid f.asked all t) (sym e) (accepts_valid f c.args.from c.args.rows)) c.taken.ensures.exact
