use Rattle.std.proofs.Common.{◌≡◌, ◌∙◌, true, sym, subst, if◌then◌else◌}
use Rattle.std.proofs.lemmas.Result.{on_ok_weaker}
use Rattle.logical_time.specs.Stamps.{TxnValue}
use Rattle.messages.specs.Words.{is_same_txn}
use Rattle.messages.specs.Known.{is_asker}
use Rattle.dependencies.specs.Askers.{AskersValue, askers_of, asker_for, with_asker, waiting_for}
use Rattle.dependencies.specs.declared.waiters.Waiting.{Waiting}
use Rattle.dependencies.proofs.Remembered.{asked_as_kept, remembered}
use Rattle.dependencies.proofs.askers.Askers.remember.Goals as goal

pub returns-clause-ok : goal.returns-clause-ok
returns-clause-ok c =
    let one : Waiting = record { waiter = c.args.waiter; from = c.args.from } in
    on_ok_weaker c.add.result
    (λ h. subst (λ (es : AskersValue). (t : TxnValue) → askers_of c.add.new.waiters.entries t ≡ (if is_same_txn c.args.dependency t then with_asker (asker_for c.args.dependency one) (askers_of es t) else askers_of es t)) c.self.view_is
    (remembered c.self.inside.waiters.entries c.add.new.waiters.entries c.args.dependency one h))
    c.add.ensures.ok

pub returns-clause-known : goal.returns-clause-known
returns-clause-known c = λ asked.
    let one : Waiting = record { waiter = c.args.waiter; from = c.args.from } in
    c.add.ensures.known (sym (asked_as_kept c.args.dependency one (waiting_for c.self.inside.waiters.entries c.args.dependency))
    ∙ subst (λ (es : AskersValue). is_asker (askers_of es c.args.dependency) c.args.dependency c.args.waiter c.args.from ≡ true) (sym c.self.view_is) asked)
