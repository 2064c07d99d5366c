-- A part that is going to be applied, and the shard's state once it is.
use Rattle.std.specs.Prelude.{[], ◌∷◌, ◌++◌}
use Rattle.store.specs.declared.part.Applied.{Applied}
use Rattle.messages.specs.Shard.{ShardState}
use Rattle.shard.specs.declared.coming.Coming.{Coming}

abbrev pub applied_of : Coming → Applied
applied_of x = record { part = record { writer = x.writer; batch = x.batch.now }; commit = x.commit; stamp = x.stamp }

abbrev pub with_applied : ShardState → Applied → ShardState
with_applied a x = record a { applied = a.applied ++ x ∷ [] }
