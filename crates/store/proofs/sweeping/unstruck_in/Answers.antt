use Rattle.std.proofs.Common.{rules, ◌≡◌, ◌∙◌, []}
use Rattle.std.specs.Option.{option_copied}
use Rattle.store.proofs.seen.Struck.{none_left}
use Rattle.store.proofs.sweeping.unstruck_in.Goals as goal

pub returns-in_ok-all_of-in-None-clause-ok : goal.returns-in_ok-all_of-in-None-clause-ok
returns-in_ok-all_of-in-None-clause-ok c =
    let empty : c.args.row.now.ranges.ranges ≡ [] = search rules in
    let all : c.in_ok-all_of-in-None.field-0.items ≡ c.args.seen.now = search rules in
    all ∙ none_left c.args.row.now.ranges.ranges c.args.time (option_copied c.args.deletion) c.args.seen.now empty
