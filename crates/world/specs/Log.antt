-- What a world notes of what happened.
use Rattle.std.specs.Prelude.{◌≡◌, ℕ, ◌<◌, List, Option, option_map, option_to_list}
use Rattle.std.specs.Global.{Vec}
use Rattle.std.specs.Vec.{vec_len, vec_capacity}
use Rattle.column_family.specs.declared.batch.Change.{Change}
use Rattle.world.specs.declared.log.Log.{Log}
use Rattle.world.specs.declared.written.Written.{Written}
use Rattle.world.specs.Delivered.{is_marked}

-- one more fits without memory
abbrev pub HasRoom : {X : Type 0} → Vec X → Type 0
HasRoom v = vec_len v < vec_capacity v

-- nothing was noted: rooms may have been made
pub record IsSameLog (old new : Log) : Type 0 where
  pub events : new.events.items ≡ old.events.items
  pub writes : new.writes.items ≡ old.writes.items
  pub delivered : (k : ℕ) → is_marked new.delivered.marks k ≡ is_marked old.delivered.marks k

-- what is noted of a submitted operation: a write by its transaction and its batch, of a read nothing
abbrev pub written_by : ℕ → ℕ → Option (List Change) → List Written
written_by session number batch = option_to_list (option_map (λ b. record { txn = record { session = session; number = number }; batch = b }) batch)
