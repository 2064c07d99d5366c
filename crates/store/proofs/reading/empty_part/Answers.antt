use Rattle.std.proofs.Common.{◌∙◌, [], refl}
use Rattle.store.specs.Stored.{no_row}
use Rattle.store.specs.Sight.{sight_of}
use Rattle.store.proofs.seen.Sights.{nothing_kept}
use Rattle.store.proofs.seen.Strikes.{under_none}
use Rattle.store.proofs.reading.empty_part.Goals as goal

pub returns : goal.returns
returns c =
    under_none (sight_of c.args.moment.now no_row) [] c.args.predicate.now (record { columns = c.none.result; writers = c.from_vec.result; evt = c.zero.result }) refl
    (nothing_kept c.args.moment.now c.args.predicate.now (record { columns = c.none.result; writers = c.from_vec.result; evt = c.zero.result })
    c.none.ensures (c.from_vec.ensures ∙ c.new.ensures.items) c.zero.ensures)
