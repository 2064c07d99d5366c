use Rattle.std.proofs.Common.{◌≡◌, Some, None, rules}
use Rattle.records.specs.Records.{Entry, front_at}
use Rattle.logfile.proofs.Sites.{begun, not_begun, untold, empty}
use Rattle.logfile.proofs.site_reading.site_of.Goals as goal

pub returns-in_default-clause-none : goal.returns-in_default-clause-none
returns-in_default-clause-none c =
    let front : front_at c.args.secret 0 c.args.bytes.now ≡ None = search rules in
    empty c.args.secret c.args.bytes.now front

pub returns-in-Some-2-clause-some : goal.returns-in-Some-2-clause-some
returns-in-Some-2-clause-some c =
    let r : Entry = record { first = c.in-Some._first; body = c.in-Some.text.now } in
    let front : front_at c.args.secret 0 c.args.bytes.now ≡ Some r = search rules in
    begun c.args.secret c.args.bytes.now r front c.in-Some-2.entry c.whose.result (search rules) (search rules) c.whose.ensures

pub returns-in-Some-2-clause-none : goal.returns-in-Some-2-clause-none
returns-in-Some-2-clause-none c =
    let r : Entry = record { first = c.in-Some._first; body = c.in-Some.text.now } in
    let front : front_at c.args.secret 0 c.args.bytes.now ≡ Some r = search rules in
    not_begun c.args.secret c.args.bytes.now r front c.in-Some-2.entry c.whose.result c.texts_are_of_one_entry.ensures (search rules) (search rules) c.whose.ensures

pub returns-in-None-clause-none : goal.returns-in-None-clause-none
returns-in-None-clause-none c =
    let r : Entry = record { first = c.in-Some._first; body = c.in-Some.text.now } in
    let front : front_at c.args.secret 0 c.args.bytes.now ≡ Some r = search rules in
    untold c.args.secret c.args.bytes.now r front (search rules)
