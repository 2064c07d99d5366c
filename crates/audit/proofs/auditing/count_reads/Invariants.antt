use Rattle.std.proofs.Common.{◌≡◌, ◌≤◌, take}
use Rattle.std.specs.Prelude.{count_by}
use Rattle.audit.specs.Audit.{is_read}
use Rattle.audit.proofs.auditing.count_reads.Given as goal

-- the reads so far are counted
abbrev pub invariant-loop-one : goal.invariant-loop-one
invariant-loop-one l = record {
  counted : l.reads ≡ count_by is_read (take l.one-index l.completed);
  few : l.reads ≤ l.one-index;
}
