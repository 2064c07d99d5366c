-- What a step makes of what was under way.
use Rattle.write_txn.specs.Ledger.{State, Holds, IsApplied, IsDecided}
use Rattle.write_txn.specs.declared.next.Next.{Next}
use Rattle.write_txn.specs.declared.next.Next.TheVariants as in_next

-- what is then known of the transaction
abbrev pub state_next : Next → State
state_next (in_next.Holds held) = Holds held
state_next in_next.Applied = IsApplied
state_next (in_next.Decided commit stamp) = IsDecided commit stamp
