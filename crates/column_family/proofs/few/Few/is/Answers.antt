use Rattle.std.proofs.Common.{rules, ◌≡◌, ◌∙◌, ◌≤◌, length, true, false}
use Rattle.std.specs.Prelude.{◌==◌}
use Rattle.column_family.specs.Heads.{first_of, StartsWithBytes}
use Rattle.column_family.proofs.Alike.{alike_then, alike_else}
use Rattle.column_family.proofs.few.Few.is.Goals as goal

pub returns-then-first : goal.returns-then-first
returns-then-first c =
    let x = c.args.self.now in
    let y = c.args.other.now in
    let own : StartsWithBytes 14 x = search rules in
    let others : StartsWithBytes 14 y = search rules in
    let own_few : length x ≤ 14 = search rules in
    let other_few : length y ≤ 14 = search rules in
    let same : (first_of x == first_of y) ≡ true = search rules in
    (search rules) ∙ alike_then x y own others own_few other_few same

pub returns-else-first : goal.returns-else-first
returns-else-first c =
    let x = c.args.self.now in
    let y = c.args.other.now in
    let own : StartsWithBytes 14 x = search rules in
    let others : StartsWithBytes 14 y = search rules in
    let own_few : length x ≤ 14 = search rules in
    let other_few : length y ≤ 14 = search rules in
    let apart : (first_of x == first_of y) ≡ false = search rules in
    (search rules) ∙ alike_else x y own others own_few other_few apart
