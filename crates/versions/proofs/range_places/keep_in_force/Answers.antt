use Rattle.std.proofs.Common.{rules, of_calls}
use Rattle.std.specs.Prelude.{not}
use Rattle.std.proofs.lemmas.Fn.{filter_same}
use Rattle.versions.specs.Ranges.{hidden}
use Rattle.versions.proofs.RangesKept.{kept_reversed}
use Rattle.versions.proofs.range_places.keep_in_force.Goals as goal

pub returns-clause-kept : goal.returns-clause-kept
returns-clause-kept c =
    kept_reversed c.args.time c.args.deletions.now.versions c.args.ranges.now.items c.retain.new.self.items
    (filter_same _ (λ r. not (hidden c.args.time c.args.deletions.now.versions r)) _ (λ x b f' k. search (rules, of_calls)) _ _ c.retain.ensures.filtered)
