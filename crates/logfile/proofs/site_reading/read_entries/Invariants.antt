use Rattle.std.proofs.Common.{◌≡◌, ◌++◌}
use Rattle.records.specs.Records.{views}
use Rattle.durable_site.specs.Logged.{Tell}
use Rattle.logfile.proofs.site_reading.read_entries.Given as goal

-- the records so far tell the entries, and the others are left
abbrev pub invariant-loop-record : goal.invariant-loop-record
invariant-loop-record l = record {
  tell : Tell l.entries.items (views l.yielded);
  parts : l.yielded ++ l.record-iterator.rest.items ≡ l.fn.records.items;
}
