use Rattle.std.proofs.Common.{rules}
use Rattle.std.proofs.lemmas.Map.Made.{map_same_pairs}
use Rattle.store.specs.Stored.{collected_held}
use Rattle.store.proofs.applied.Collected.{held_collected}
use Rattle.store.proofs.row.collect_columns.Goals as goal

pub returns : goal.returns
returns c = map_same_pairs _ (collected_held c.args.time) _ (λ k v b w f' t. search (rules, held_collected)) _ _ c.retain.ensures.filtered
