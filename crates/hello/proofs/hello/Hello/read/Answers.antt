use Rattle.std.proofs.Common.{◌≡◌, ◌∙◌, Some, sym, ap, subst, arith, length}
use Rattle.hello.specs.declared.hello.Hello.{Hello}
use Rattle.hello.specs.Hello.{spelled, IsHello}
use Rattle.hello.proofs.Spelled.{hello_of, hello_at, length-spelled, spelled_again, read_again, read_is}
use Rattle.hello.proofs.hello.Hello.read.Goals as goal

pub returns-then-bytes-ne-LONG-clause-spelled_is_read : goal.returns-then-bytes-ne-LONG-clause-spelled_is_read
returns-then-bytes-ne-LONG-clause-spelled_is_read c = λ h is e. absurd (c.if-bytes-ne-LONG.true (sym (ap length e) ∙ length-spelled h is))

pub returns-clause-read_is_spelled : goal.returns-clause-read_is_spelled
returns-clause-read_is_spelled c =
    let same : hello_of c.from_be_bytes.result c.from_be_bytes-2.result c.from_be_bytes-3.result c.taken-4.result c.taken-5.result c.taken-6.result c.taken-7.result ≡ hello_at c.args.bytes.now = cc in
    ap spelled same ∙ read_again c.args.bytes.now (λ i. omega (arith, c.type_inv.bytes i)) (omega arith)

pub returns-clause-spelled_is_read : goal.returns-clause-spelled_is_read
returns-clause-spelled_is_read c = λ h is e.
    let same : hello_of c.from_be_bytes.result c.from_be_bytes-2.result c.from_be_bytes-3.result c.taken-4.result c.taken-5.result c.taken-6.result c.taken-7.result ≡ hello_at c.args.bytes.now = cc in
    let again = read_again c.args.bytes.now (λ i. omega (arith, c.type_inv.bytes i)) (omega arith) in
    ap (λ (g : Hello). Some g) (same ∙ spelled_again (hello_at c.args.bytes.now) h (read_is c.args.bytes.now (λ i. omega (arith, c.type_inv.bytes i)) (omega arith)) is (again ∙ sym e))

pub returns-clause-is_hello : goal.returns-clause-is_hello
returns-clause-is_hello c =
    let same : hello_of c.from_be_bytes.result c.from_be_bytes-2.result c.from_be_bytes-3.result c.taken-4.result c.taken-5.result c.taken-6.result c.taken-7.result ≡ hello_at c.args.bytes.now = cc in
    subst (λ (g : Hello). IsHello g) (sym same) (read_is c.args.bytes.now (λ i. omega (arith, c.type_inv.bytes i)) (omega arith))
