use Rattle.std.proofs.Common.{◌∙◌, sym, arith, eqb-true, eq-eqb}
use Rattle.std.proofs.lemmas.List.{take_all}
use Rattle.hello.proofs.Gathered.{same_none, same_more}
use Rattle.hello.proofs.comparing.same.Goals as goal

pub loop-i-init : goal.loop-i-init
loop-i-init c = same_none c.args.a.now c.args.b.now

pub loop-i-preserved : goal.loop-i-preserved
loop-i-preserved c = same_more c.args.a.now c.args.b.now c.loop-i.i c.loop-i.differs c.loop-i-test.true (omega arith) c.loop-i.invariant

pub returns : goal.returns
returns c =
    let a = take_all c.loop-i.i c.args.a.now (omega arith) in
    let b = take_all c.loop-i.i c.args.b.now (omega arith) in
    (λ t. sym a ∙ c.loop-i.invariant.0 (eqb-true _ _ t) ∙ b, λ e. eq-eqb _ _ (c.loop-i.invariant.1 (a ∙ e ∙ sym b)))
