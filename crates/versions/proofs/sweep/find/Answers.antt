use Rattle.std.proofs.Common.{◌∙◌, ap, sym}
use Rattle.versions.specs.Sweeps.{is_left}
use Rattle.versions.proofs.SweepSteps.{found_newest, found_none}
use Rattle.versions.proofs.sweep.find.Goals as goal

pub come_to-requires : goal.come_to-requires
come_to-requires c = record { inside = λ i h. (c.requires.seen i h).0 }

pub returns-in-Err-clause-way : goal.returns-in-Err-clause-way
returns-in-Err-clause-way c = c.in-Err.ensures.way c.args.time c.requires.seen c.requires.way

pub newest_reached-requires-clause-inside : goal.newest_reached-requires-clause-inside
newest_reached-requires-clause-inside c = λ i h. let way = c.in-Ok.ensures.way c.args.time c.requires.seen c.requires.way in (way.seen i h).0

pub range_of-requires : goal.range_of-requires
range_of-requires c =
    let way = c.newest_reached.ensures.way c.args.time c.in-Ok.count c.args.ahead.now (c.in-Ok.ensures.way c.args.time c.requires.seen c.requires.way) in
    (way.seen c.in-Some.i c.in-Some.ensures.newest.0).0

pub returns-in-Some-clause-exact : goal.returns-in-Some-clause-exact
returns-in-Some-clause-exact c =
    let way = c.newest_reached.ensures.way c.args.time c.in-Ok.count c.args.ahead.now (c.in-Ok.ensures.way c.args.time c.requires.seen c.requires.way) in
    let newest = c.in-Some.ensures.newest in
    let x = c.range_of.result.now in
    sym (found_newest c.args.ranges.now c.args.time c.args.ahead.now c.in-Ok.count _ c.args.name.now c.in-Some.i x way (c.in-Ok.ensures.end c.requires.by_start)
    newest.0 (c.range_of.ensures x) (ap (is_left c.args.name.now) (c.range_of.ensures x) ∙ newest.1 x) newest.2)

pub returns-in-Some-clause-way : goal.returns-in-Some-clause-way
returns-in-Some-clause-way c = c.newest_reached.ensures.way c.args.time c.in-Ok.count c.args.ahead.now (c.in-Ok.ensures.way c.args.time c.requires.seen c.requires.way)

pub returns-in-None-clause-exact : goal.returns-in-None-clause-exact
returns-in-None-clause-exact c =
    let way = c.newest_reached.ensures.way c.args.time c.in-Ok.count c.args.ahead.now (c.in-Ok.ensures.way c.args.time c.requires.seen c.requires.way) in
    sym (found_none c.args.ranges.now c.args.time c.args.ahead.now c.in-Ok.count _ c.args.name.now way (c.in-Ok.ensures.end c.requires.by_start) c.in-None.ensures.newest)

pub returns-in-None-clause-way : goal.returns-in-None-clause-way
returns-in-None-clause-way c = c.newest_reached.ensures.way c.args.time c.in-Ok.count c.args.ahead.now (c.in-Ok.ensures.way c.args.time c.requires.seen c.requires.way)
