use Rattle.std.proofs.Common.{◌≡◌, ◌∙◌, ◌+◌, ◌<◌, ◌^◌, length, rules}
use Rattle.threaded.proofs.Counting.{so_many, counted_one}
use Rattle.threaded.proofs.matching.count_from.Goals as goal

pub overflow_add-index_mut : goal.overflow_add-index_mut
overflow_add-index_mut c =
    let is : c.from-from.result ≡ c.args.node = c.from-from.ensures ∙ c.get.ensures in
    let within : c.from-from.result < length c.args.received.now.items = search rules in
    let small : c.index_mut.result.now + 1 < 2 ^ 64 =
    c.requires.fits c.index_mut.result.now (so_many c.args.received.now.items c.args.node c.from-from.result c.index_mut.result.now is within c.index_mut.ensures.value) in
    search rules

pub returns : goal.returns
returns c =
    let is : c.from-from.result ≡ c.args.node = c.from-from.ensures ∙ c.get.ensures in
    let within : c.from-from.result < length c.args.received.now.items = search rules in
    counted_one c.args.received.now.items c.args.node c.from-from.result c.index_mut.result.now is within c.index_mut.ensures.value
