use Rattle.std.proofs.Common.{rules, ◌≡◌, ◌∙◌, sym}
use Rattle.std.specs.List.{list_all}
use Rattle.std.specs.Ordering.{is_eq}
use Rattle.logical_time.specs.Stamps.{txn_cmp}
use Rattle.txn_state.proofs.Missing.{none_left}
use Rattle.txn_state.proofs.answers.Answers.is_last.Goals as goal

pub returns : goal.returns
returns c =
    let e : c.are_all.result ≡ list_all (λ u. is_eq (txn_cmp u c.args.txn)) c.args.self.now = search rules in
    e ∙ sym (none_left (λ u. is_eq (txn_cmp u c.args.txn)) c.args.self.now)
