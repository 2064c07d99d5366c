use Rattle.std.proofs.Common.{rules, of_calls}
use Rattle.arrayvec.proofs.ArrayVecLemmas.{filter-from_retain}
use Rattle.versions.proofs.Kept.{stays, kept_by_ends}
use Rattle.versions.proofs.places.keep_from.Goals as goal

pub returns-clause-ended : goal.returns-clause-ended
returns-clause-ended c =
    let is = filter-from_retain _ (stays c.args.time) _ (λ x b f' y k. search (rules, of_calls)) _ _ c.retain.ensures.filtered in
    (kept_by_ends c.args.time c.args.entries.now.items c.retain.new.self.items (search rules) c.requires is).0

pub returns-clause-kept : goal.returns-clause-kept
returns-clause-kept c =
    let is = filter-from_retain _ (stays c.args.time) _ (λ x b f' y k. search (rules, of_calls)) _ _ c.retain.ensures.filtered in
    (kept_by_ends c.args.time c.args.entries.now.items c.retain.new.self.items (search rules) c.requires is).1
