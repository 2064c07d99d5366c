use Rattle.std.proofs.Common.{◌∙◌, ap, subst, Some, None}
use Rattle.txn_state.specs.Ballot.{BallotValue}
use Rattle.txn_state.specs.Prepared.{PreparedValue}
use Rattle.write_txn.specs.declared.open.Led.{Led}
use Rattle.write_txn.specs.declared.open.Open.TheVariants as in_open
use Rattle.write_txn.specs.Ledger.{Holds, Becomes}
use Rattle.shard.proofs.in_code.Begins.{holds_begun}
use Rattle.shard.proofs.begun.hold.Goals as goal

pub returns-clause-step : goal.returns-clause-step
returns-clause-step c = λ sent top me a r apart.
    let b = c.args.begun in
    let led : BallotValue → Led = λ x. record { ballot = x; cohorts = b.cohorts; dependencies = b.dependencies; stamp = None } in
    let becomes = subst (λ (x : BallotValue). Becomes x.own.part.writer.txn (Some (Holds (in_open.Led (led x)))) c.args.kept.now.transactions.ledger c.hold.new.self.ledger)
    (c.new.ensures ∙ ap (λ (o : PreparedValue). record { own = o; votes = c.args.votes }) c.own_part-own.ensures) c.in-Ok.ensures.ok in
    holds_begun top me c.args.clock c.args.kept.now c.hold.new.self c.forget_votes.new.self c.forget.new.self a b c.args.votes sent r apart c.requires.unknown (c.requires.votes top me r.place) c.requires.missing
    becomes c.hold.ensures.store c.hold.ensures.early c.forget_votes.ensures.ledger c.forget_votes.ensures.store c.forget_votes.ensures.forgotten c.forget.ensures
