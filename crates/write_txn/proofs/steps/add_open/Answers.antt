use Rattle.std.proofs.Common.{rules, ◌≡◌, ◌++◌, ◌∷◌, [], length}
use Rattle.write_txn.proofs.Added.{pushed_placed, pushed_becomes}
use Rattle.write_txn.proofs.steps.add_open.Goals as goal

pub returns-in-Ok-clause-placed : goal.returns-in-Ok-clause-placed
returns-in-Ok-clause-placed c =
    let pushed : c.push.new.self.items ≡ c.args.under_way.now.items ++ c.args.held ∷ [] = search rules in
    let at : c.len-place.result ≡ length c.args.under_way.now.items = search rules in
    pushed_placed c.args.statuses.now c.add.new.self c.args.under_way.now.items c.push.new.self.items c.args.held c.txn.result c.len-place.result c.requires.placed c.requires.unknown c.txn.ensures at pushed c.in-Ok.ensures.ok

pub returns-in-Ok-clause-ok : goal.returns-in-Ok-clause-ok
returns-in-Ok-clause-ok c =
    let pushed : c.push.new.self.items ≡ c.args.under_way.now.items ++ c.args.held ∷ [] = search rules in
    let at : c.len-place.result ≡ length c.args.under_way.now.items = search rules in
    pushed_becomes c.args.statuses.now c.add.new.self c.args.under_way.now.items c.push.new.self.items c.args.held c.txn.result c.len-place.result c.requires.placed c.requires.unknown c.txn.ensures at pushed c.in-Ok.ensures.ok
