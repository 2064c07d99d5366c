use Rattle.std.proofs.Common.{rules, ◌≡◌, ◌∙◌, ◌≤◌, length}
use Rattle.std.specs.Ordering.{nat_cmp}
use Rattle.column_family.specs.Heads.{first_of, second_of, StartsWithBytes}
use Rattle.column_family.proofs.Heads.{by_first, by_second}
use Rattle.column_family.proofs.few.Few.cmp_few.Goals as goal

pub returns-in-Equal : goal.returns-in-Equal
returns-in-Equal c =
    let x = c.args.self.now in
    let y = c.args.other.now in
    let own : StartsWithBytes 14 x = search rules in
    let others : StartsWithBytes 14 y = search rules in
    let own_few : length x ≤ 14 = search rules in
    let other_few : length y ≤ 14 = search rules in
    let same : first_of x ≡ first_of y = search rules in
    let by_numbers : c.cmp-in-Equal.result ≡ nat_cmp (second_of x) (second_of y) = search rules in
    by_numbers ∙ by_second x y own others own_few other_few same

pub returns-in_default : goal.returns-in_default
returns-in_default c =
    let x = c.args.self.now in
    let y = c.args.other.now in
    let own : StartsWithBytes 14 x = search rules in
    let others : StartsWithBytes 14 y = search rules in
    let by_numbers : c.cmp.result ≡ nat_cmp (first_of x) (first_of y) = search rules in
    by_first x y c.cmp.result own others by_numbers c.in_default.not-Equal
