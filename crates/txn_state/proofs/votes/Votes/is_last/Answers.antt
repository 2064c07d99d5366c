use Rattle.std.proofs.Common.{rules, ◌≡◌, ◌∙◌, sym, ◌==◌}
use Rattle.std.specs.List.{list_all}
use Rattle.txn_state.proofs.Missing.{none_left}
use Rattle.txn_state.proofs.votes.Votes.is_last.Goals as goal

pub returns : goal.returns
returns c =
    let e : c.are_all.result ≡ list_all (λ n. n == c.args.node) c.args.self.now.missing = search rules in
    e ∙ sym (none_left (λ n. n == c.args.node) c.args.self.now.missing)
