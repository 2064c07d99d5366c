use Rattle.std.proofs.Common.{rules, ◌≡◌, ◌∙◌, ℕ, ap, subst, arith}
use Rattle.std.specs.Prelude.{OnErr}
use Rattle.std.proofs.lemmas.Grind.{common_steps}
use Rattle.read_txn.specs.States.{First as FirstState}
use Rattle.read_txn.specs.Taken.{first_taken}
use Rattle.client.proofs.Ended.{back_at, ended_back, ended_heard, ended_some}
use Rattle.read_txn.specs.declared.first_round.FirstTaken.TheVariants as in_first
use Rattle.client.specs.declared.current.Current.TheVariants as current
use Rattle.client.proofs.first_answers.first.Goals as goal

pub returns-in-Err-clause-same : goal.returns-in-Err-clause-same
returns-in-Err-clause-same c = grind (arith, common_steps)

pub returns-in-Err-clause-sends : goal.returns-in-Err-clause-sends
returns-in-Err-clause-sends c = grind (arith, common_steps)

pub returns-in-Err-clause-state : goal.returns-in-Err-clause-state
returns-in-Err-clause-state c = grind (arith, common_steps)

pub returns-in-Err-clause-unasked : goal.returns-in-Err-clause-unasked
returns-in-Err-clause-unasked c = grind (arith, common_steps)

pub returns-in-Err-clause-unsent : goal.returns-in-Err-clause-unsent
returns-in-Err-clause-unsent c = grind (arith, common_steps)

pub returns-in-Ok-Done-clause-same : goal.returns-in-Ok-Done-clause-same
returns-in-Ok-Done-clause-same c = grind (arith, common_steps)

pub returns-in-Ok-Done-clause-sends : goal.returns-in-Ok-Done-clause-sends
returns-in-Ok-Done-clause-sends c = grind (arith, common_steps)

pub returns-in-Ok-Done-clause-state : goal.returns-in-Ok-Done-clause-state
returns-in-Ok-Done-clause-state c = grind (arith, common_steps)

pub returns-in-Ok-Done-clause-unasked : goal.returns-in-Ok-Done-clause-unasked
returns-in-Ok-Done-clause-unasked c = grind (arith, common_steps)

pub returns-in-Ok-Done-clause-unsent : goal.returns-in-Ok-Done-clause-unsent
returns-in-Ok-Done-clause-unsent c = grind (arith, common_steps)

pub returns-in-Ok-More-clause-same : goal.returns-in-Ok-More-clause-same
returns-in-Ok-More-clause-same c = grind (arith, common_steps)

pub returns-in-Ok-More-clause-sends : goal.returns-in-Ok-More-clause-sends
returns-in-Ok-More-clause-sends c = grind (arith, common_steps)

pub returns-in-Ok-More-clause-state : goal.returns-in-Ok-More-clause-state
returns-in-Ok-More-clause-state c = grind (arith, common_steps)

pub returns-in-Ok-More-clause-unasked : goal.returns-in-Ok-More-clause-unasked
returns-in-Ok-More-clause-unasked c = grind (arith, common_steps)

pub returns-in-Ok-More-clause-unsent : goal.returns-in-Ok-More-clause-unsent
returns-in-Ok-More-clause-unsent c = grind (arith, common_steps)

pub returns-in-Ok-Second-clause-same : goal.returns-in-Ok-Second-clause-same
returns-in-Ok-Second-clause-same c =
    let f = c.args.round in
    let s = c.in-Ok-Second.round in
    let taken : in_first.Second s ≡ first_taken f c.args.from c.args.rows = search rules in
    let floor : c.floor-floor.result ≡ f.floor = search rules in
    let back = ap (λ (n : ℕ). back_at s n f.heard) floor ∙ ended_back f c.args.from c.args.rows s taken in
    subst (λ (g : FirstState). OnErr c.open_second.result (c.open_second.new.kept ≡ record c.args.kept.now { current = current.First g })) back
    (c.open_second.ensures.same f.heard (record { from = c.args.from; rows = c.args.rows }) (ended_heard f c.args.from c.args.rows s taken))

pub returns-in-Ok-Second-clause-sends : goal.returns-in-Ok-Second-clause-sends
returns-in-Ok-Second-clause-sends c = grind (arith, common_steps)

pub returns-in-Ok-Second-clause-state : goal.returns-in-Ok-Second-clause-state
returns-in-Ok-Second-clause-state c = grind (arith, common_steps)

pub returns-in-Ok-Second-clause-unasked : goal.returns-in-Ok-Second-clause-unasked
returns-in-Ok-Second-clause-unasked c = grind (arith, common_steps)

pub returns-in-Ok-Second-clause-unsent : goal.returns-in-Ok-Second-clause-unsent
returns-in-Ok-Second-clause-unsent c = grind (arith, common_steps)

pub open_second-requires-clause-heard : goal.open_second-requires-clause-heard
open_second-requires-clause-heard c =
    let s = c.in-Ok-Second.round in
    let taken : in_first.Second s ≡ first_taken c.args.round c.args.from c.args.rows = search rules in
    ended_some c.args.round c.args.from c.args.rows s taken

pub returns-in-Ok-Second-clause-back : goal.returns-in-Ok-Second-clause-back
returns-in-Ok-Second-clause-back c =
    let f = c.args.round in
    let s = c.in-Ok-Second.round in
    let taken : in_first.Second s ≡ first_taken f c.args.from c.args.rows = search rules in
    c.open_second.ensures.back f.heard (record { from = c.args.from; rows = c.args.rows }) (ended_heard f c.args.from c.args.rows s taken)
