use Rattle.std.proofs.Common.{rules, of_calls, ◌≡◌, ◌∙◌, sym, ap, true, false, nat_le, Some, None, if◌then◌else◌, arith, Bool}
use Rattle.std.proofs.lemmas.Bool.Decides.{nat_tests}
use Rattle.std.proofs.lemmas.Fn.{always_returns_same}
use Rattle.versions.proofs.Found.{ends_part, seen_from_point, none_from_point}
use Rattle.versions.proofs.times.newest_at.Goals as goal

pub returns-then-le : goal.returns-then-le
returns-then-le c =
    let es = c.args.entries.now in
    let t = c.args.time in
    let e = c.in-Some.entry.now in
    let point = c.partition_point-i.ensures.partitioned (λ x. nat_le x.end t) (always_returns_same _ _ _ (λ a r f k. search (rules, of_calls))) (ends_part es t c.requires) in
    let seen : nat_le e.version.evt t ≡ true = grind (arith, nat_tests, c.le.ensures, c.if-le.true) in
    sym (seen_from_point es c.partition_point-i.result t e point c.requires (search rules) (search rules) ∙ ap (λ (b : Bool). if b then Some e.version else None) seen)

pub returns-else-le : goal.returns-else-le
returns-else-le c =
    let es = c.args.entries.now in
    let t = c.args.time in
    let e = c.in-Some.entry.now in
    let point = c.partition_point-i.ensures.partitioned (λ x. nat_le x.end t) (always_returns_same _ _ _ (λ a r f k. search (rules, of_calls))) (ends_part es t c.requires) in
    let seen : nat_le e.version.evt t ≡ false = grind (arith, nat_tests, c.le.ensures, c.if-le.false) in
    sym (seen_from_point es c.partition_point-i.result t e point c.requires (search rules) (search rules) ∙ ap (λ (b : Bool). if b then Some e.version else None) seen)

pub returns-in-None : goal.returns-in-None
returns-in-None c =
    let es = c.args.entries.now in
    let t = c.args.time in
    let point = c.partition_point-i.ensures.partitioned (λ x. nat_le x.end t) (always_returns_same _ _ _ (λ a r f k. search (rules, of_calls))) (ends_part es t c.requires) in
    sym (none_from_point es c.partition_point-i.result t point c.requires (search rules) (search rules))
