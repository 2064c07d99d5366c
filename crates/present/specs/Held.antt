-- How much the shards of a world hold.
use Rattle.std.specs.Prelude.{List}
use Rattle.std.specs.List.{fold}
use Rattle.store.specs.declared.holdings.Holdings.{Holdings}
use Rattle.store.specs.Holdings.{held_together, holdings_of, no_holdings}
use Rattle.shard.specs.declared.kept.ShardKept.{ShardKept}

-- what one shard holds, beside what others do
abbrev pub held_too : Holdings → ShardKept → Holdings
held_too held shard = held_together held (holdings_of shard.transactions.store.rows)

-- what these shards hold together
abbrev pub held_by_all : List ShardKept → Holdings
held_by_all shards = fold held_too no_holdings shards
