use Rattle.std.proofs.Common.{rules, ◌≡◌, ◌∙◌, ap, sym, Some}
use Rattle.std.specs.BTreeMap.{get}
use Rattle.std.proofs.lemmas.Result.{on_err_weaker}
use Rattle.logical_time.specs.Stamps.{txn_cmp}
use Rattle.write_txn.proofs.Early.{same_voters}
use Rattle.write_txn.proofs.voters.add_one.Goals as goal

pub returns-in-Some-clause-err : goal.returns-in-Some-clause-err
returns-in-Some-clause-err c =
    let h = c.get_mut.follows.holds c.push.new.self in
    let was : get txn_cmp c.args.entries.now c.args.txn ≡ Some c.in-Some.nodes.now = search rules in
    on_err_weaker c.push.result (λ e. same_voters c.args.entries.now (c.get_mut.follows.lender c.push.new.self) c.args.txn c.push.new.self (h.3 (search rules)) (was ∙ ap Some (sym e))) c.push.ensures.err
