use Rattle.hello.proofs.Blocks.{short_block, long_block, put_same}
use Rattle.hello.proofs.mac.block_of.Goals as goal

pub returns-then-key-le64 : goal.returns-then-key-le64
returns-then-key-le64 c = short_block _ c.args.key.now c.if-key-le64.true c.put.ensures.after

pub returns-else-key-le64 : goal.returns-else-key-le64
returns-else-key-le64 c = long_block _ c.args.key.now c.if-key-le64.false (put_same c.put-else-key-le64.new.out c.digest.result _ c.digest.ensures c.put-else-key-le64.ensures.after)
