use Rattle.std.proofs.Common.{arith}
use Rattle.hello.proofs.hello.Hello.write.Goals as goal

pub returns-clause-is_hello : goal.returns-clause-is_hello
returns-clause-is_hello c = record {
  version = omega arith;
  «from» = omega arith;
  to = omega arith;
  incarnation = omega arith;
  known = omega arith;
  digest = omega arith;
  nonce = omega arith;
}
