use Rattle.explore.proofs.exploring.audit_at.Goals as goal

pub returns-clause-audit : goal.returns-clause-audit
returns-clause-audit g c =
    (c.in_ok-played.played, record { is_order = c.in_ok-is_order_of.ensures.0 c.if-not-branch.false; audit = c.in_ok-audited.ensures.audit })
