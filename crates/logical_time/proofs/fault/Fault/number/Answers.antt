use Rattle.std.proofs.Common.{rules}
use Rattle.logical_time.proofs.fault.Fault.number.Goals as goal

pub returns-in-RangeOrder : goal.returns-in-RangeOrder
returns-in-RangeOrder c = search rules
