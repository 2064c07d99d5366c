use Rattle.std.proofs.Common.{rules, ◌≡◌, subst}
use Rattle.std.specs.Ordering.{nat_cmp}
use Rattle.column_family.specs.Heads.{head_of, StartsWithBytes}
use Rattle.column_family.proofs.Heads.{by_heads, text_bytes}
use Rattle.column_family.proofs.shared_bytes.SharedBytes.cmp_many.Goals as goal

pub returns-in_default : goal.returns-in_default
returns-in_default c =
    let x = c.args.self.now in
    let y = c.args.other.now in
    let own : StartsWithBytes 7 x = subst (λ l. StartsWithBytes 7 l) c.self.view_is (text_bytes c.self.inside.text c.self.invariant) in
    let others : StartsWithBytes 7 y = subst (λ l. StartsWithBytes 7 l) c.other.view_is (text_bytes c.other.inside.text c.other.invariant) in
    let by_numbers : c.cmp.result ≡ nat_cmp (head_of 7 x) (head_of 7 y) = search rules in
    by_heads 7 x y c.cmp.result own others by_numbers c.in_default.not-Equal

pub returns-in-Equal : goal.returns-in-Equal
returns-in-Equal c = search rules
