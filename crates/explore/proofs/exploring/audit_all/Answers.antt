use Rattle.std.proofs.Common.{◌≡◌, ℕ, length, subst, arith}
use Rattle.explore.specs.Exploration.{AreAudited}
use Rattle.explore.proofs.Audits.{none_audited, one_more_audited}
use Rattle.explore.proofs.exploring.audit_all.Goals as goal

pub loop-end-init : goal.loop-end-init
loop-end-init g c = none_audited c.args.lose c.args.script.now

pub loop-end-preserved : goal.loop-end-preserved
loop-end-preserved g c =
    rw c.together-all.ensures
    (one_more_audited c.args.lose c.args.script.now c.loop-end.end-index c.loop-end.all c.in_ok-audit_at.ensures.audit.0 c.in_ok-audit_at.field-0 c.loop-end.invariant
    c.in_ok-audit_at.ensures.audit.1 c.in_ok-audit_at.ensures.right)

pub returns : goal.returns
returns g c =
    let all : c.loop-end.end-index ≡ length c.args.ends.now = omega arith in
    subst (λ (n : ℕ). AreAudited c.args.lose c.args.script.now n c.loop-end.all) all c.loop-end.invariant
