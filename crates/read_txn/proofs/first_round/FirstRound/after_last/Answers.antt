use Rattle.std.proofs.Common.{◌≡◌, ◌∙◌, ◌<◌, ap, length, rules, arith}
use Rattle.std.proofs.lemmas.Bool.Decides.{nat_tests}
use Rattle.std.proofs.lemmas.Result.{IfOk-weaker}
use Rattle.messages.specs.Rounds.{effective_time}
use Rattle.read_txn.specs.States.{asked_again}
use Rattle.read_txn.specs.Taken.{over}
use Rattle.read_txn.specs.declared.first_round.FirstTaken.TheVariants as in_first
use Rattle.read_txn.proofs.Ends.{asks_again, completes}
use Rattle.read_txn.proofs.first_round.FirstRound.after_last.Goals as goal

pub returns-in-Ok-clause-exact : goal.returns-in-Ok-clause-exact
returns-in-Ok-clause-exact c =
    let f = c.args.self in
    let late = c.in-Ok.late.items in
    let time : c.effective_time-time.result ≡ effective_time f.floor f.heard = search rules in
    let is : late ≡ asked_again f.asked c.effective_time-time.result f.heard = search rules in
    let none : length late ≡ 0 = grind (arith, nat_tests, c.if-is_empty.true, c.is_empty.ensures, c.in-Ok.late.ok) in
    IfOk-weaker c.complete.result _ (λ taken. taken ≡ over f (effective_time f.floor f.heard)) (λ taken e. e ∙ completes f c.effective_time-time.result late none is ∙ ap (λ t. over f t) time) c.complete.ensures.exact

pub returns-in-Ok-2-clause-exact : goal.returns-in-Ok-2-clause-exact
returns-in-Ok-2-clause-exact c =
    let f = c.args.self in
    let late = c.in-Ok-2.late.items in
    let time : c.effective_time-time.result ≡ effective_time f.floor f.heard = search rules in
    let is : late ≡ asked_again f.asked c.effective_time-time.result f.heard = search rules in
    let some : 0 < length late = grind (arith, nat_tests, c.if-is_empty.false, c.is_empty.ensures, c.in-Ok-2.late.ok) in
    ap in_first.Second c.again.ensures ∙ asks_again f c.effective_time-time.result late some is ∙ ap (λ t. over f t) time
