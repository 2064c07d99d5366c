use Rattle.std.proofs.Common.{rules, ◌≡◌, ◌∙◌, sym, ◌+◌, ◌-◌, ◌^◌, length, arith}
use Rattle.versions.specs.Ends.{versions_of}
use Rattle.versions.proofs.Found.{interval_at_index, interval_past, versions_long}
use Rattle.versions.proofs.times.interval_at.Goals as goal

pub between-requires : goal.between-requires
between-requires c =
    let es = c.args.entries.now in
    let i = length es - 1 - c.args.place in
    let sum : i + c.args.place + 1 ≡ length es = omega (arith, c.if-place-count.true) in
    (interval_at_index es i c.args.place c.index-entries-count.result sum (search rules) c.requires).1

pub returns-then-place-count : goal.returns-then-place-count
returns-then-place-count c =
    let es = c.args.entries.now in
    let i = length es - 1 - c.args.place in
    let sum : i + c.args.place + 1 ≡ length es = omega (arith, c.if-place-count.true) in
    c.between.ensures ∙ sym (interval_at_index es i c.args.place c.index-entries-count.result sum (search rules) c.requires).0

pub returns-else-place-count : goal.returns-else-place-count
returns-else-place-count c =
    let es = c.args.entries.now in
    let long = versions_long es in
    sym (interval_past (2 ^ 48) (versions_of es) c.args.place (omega (arith, long, c.if-place-count.false)))
