use Rattle.std.proofs.Common.{◌≡◌, ◌≤◌, ◌*◌, take, sum}
use Rattle.planner.proofs.partition.byte_sum_of_few.Given as goal

abbrev pub invariant-loop-byte : goal.invariant-loop-byte
invariant-loop-byte l = record { so_far : l.total ≡ sum (take l.byte-index l.bytes); small : l.total ≤ 255 * l.byte-index }
