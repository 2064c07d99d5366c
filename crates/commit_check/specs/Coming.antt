-- A part that is going to be applied, and the shard once it is.
use Rattle.std.specs.Prelude.{List, [], ◌∷◌, ◌++◌, Option, Some, None, ⊤}
use Rattle.column_family.specs.Normal.{IsNormal}
use Rattle.store.specs.declared.part.Applied.{Applied}
use Rattle.store.specs.Keeps.{IsNewStamp}
use Rattle.messages.specs.Shard.{ShardState}
use Rattle.commit_check.specs.declared.reading_at.ComingPart.{ComingPart}

abbrev pub applied_of : ComingPart → Applied
applied_of x = record { part = record { writer = x.writer; batch = x.batch.now }; commit = x.commit; stamp = x.stamp }

-- what is applied once the part is, if there is one
abbrev pub applied_after : Option ComingPart → List Applied → List Applied
applied_after None applied = applied
applied_after (Some x) applied = applied ++ applied_of x ∷ []

-- the shard once the part is applied, if there is one
abbrev pub after : Option ComingPart → ShardState → ShardState
after x a = record a { applied = applied_after x a.applied }

-- the part, if there is one, is in normal form, and its stamp is new
abbrev pub MayCome : Option ComingPart → List Applied → Type 0
MayCome None applied = ⊤
MayCome (Some x) applied = IsNormal x.batch.now × IsNewStamp x.stamp applied
