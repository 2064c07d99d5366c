use Rattle.std.proofs.Common.{◌+◌, ◌-◌, arith}
use Rattle.wire.proofs.Fronts.{fault_is_front}
use Rattle.wire.proofs.front.look.Goals as goal

pub returns-in-Err-Frame : goal.returns-in-Err-Frame
returns-in-Err-Frame c =
    let n = c.read_u32-length.result in
    let e = rw c.in-Err-Frame.field-0-is at c.in-Err-Frame.ensures in
    fault_is_front c.args.bytes.now n (4 + n - 4) c.in-Err-Frame.fault c.if-bytes-lt4.false c.read_u32-length.ensures c.if-length-gt-LONGEST.false c.if-bytes-length.false (omega arith) e
