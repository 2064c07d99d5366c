use Rattle.std.proofs.Common.{rules, ◌≡◌, [], ◌∷◌, ◌++◌, None}
use Rattle.store.proofs.seen.Gatherings.{at_either_end, other_way}
use Rattle.store.proofs.gathering.add_writer.Goals as goal

pub returns-in_default : goal.returns-in_default
returns-in_default c =
    let none : c.args.first.now ≡ None = search rules in
    rw none (other_way (c.args.more.now.items ++ c.args.writer ∷ []) (c.args.writer ∷ c.args.more.now.items) (at_either_end c.args.writer c.args.more.now.items))
