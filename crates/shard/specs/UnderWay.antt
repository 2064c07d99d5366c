-- What is under way of a transaction, as the shard's own part of it.
use Rattle.std.specs.Prelude.{Option, option_map}
use Rattle.logical_time.specs.Stamps.{TxnValue, WriterValue}
use Rattle.txn_state.specs.declared.part.WritePart.{WritePart}
use Rattle.write_txn.specs.Ledger.{LedgerValue, state_of, open_in, part_of}

-- the shard's own part of a transaction, if something of it is under way
abbrev pub part_under_way : LedgerValue → TxnValue → Option WritePart
part_under_way l t = option_map part_of (open_in (state_of l t))

-- the transaction with its coordinator, if something of it is under way
abbrev pub writer_under_way : LedgerValue → TxnValue → Option WriterValue
writer_under_way l t = option_map (λ o. (part_of o).writer) (open_in (state_of l t))
