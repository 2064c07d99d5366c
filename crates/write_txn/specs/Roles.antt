-- As what a cohort prepared a part.
use Rattle.messages.specs.Shard as machine
use Rattle.write_txn.specs.declared.open.Origin.{Origin}
use Rattle.write_txn.specs.declared.open.Origin.TheVariants.{Submitted, Replicated}

-- as a cohort's where the write was submitted, or where it was replicated
abbrev pub role_of : Origin → machine.Role
role_of Submitted = machine.Cohort
role_of Replicated = machine.Replica
