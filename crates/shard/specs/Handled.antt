-- Which bodies a shard may keep something of.
use Rattle.std.specs.Prelude.{Bool, true, false}
use Rattle.messages.specs.declared.body.Body.{Body}
use Rattle.messages.specs.declared.body.Body.TheVariants.{Begin, Prepare, ReadAt, ReplBegin, ReplPart}

-- whether a body has a part, or a read that may wait, which a shard keeps or copies
abbrev pub is_handed_over : Body → Bool
is_handed_over (Begin txn rows cohorts dependencies) = true
is_handed_over (Prepare txn rows coordinator) = true
is_handed_over (ReadAt number time read) = true
is_handed_over (ReplBegin cohorts txn rows stamp dependencies) = true
is_handed_over (ReplPart txn rows stamp coordinator) = true
is_handed_over other = false
