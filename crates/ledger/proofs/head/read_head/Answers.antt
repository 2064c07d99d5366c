use Rattle.std.proofs.Common.{◌≡◌, ◌∙◌, Err, refl, rules}
use Rattle.ledger.proofs.Whole.{no_topology, another_head}
use Rattle.ledger.proofs.head.read_head.Goals as goal

pub returns-in_err-topology-clause-refused : goal.returns-in_err-topology-clause-refused
returns-in_err-topology-clause-refused c =
    let same : c.from_residual-in_err-topology.result ≡ Err c.in_err-topology.field-0.0 = search rules in
    no_topology c.args.bytes.now c.in_ok-rest.rest.now c.in_ok-rest.ensures.ok c.from_be_bytes-secret.result c.from_be_bytes-secret.ensures c.in_err-topology.field-0.0 c.from_residual-in_err-topology.result same
    c.in_err-topology.ensures.refused c.in_err-topology.ensures.whole

pub returns-then-not-begin_with-clause-refused : goal.returns-then-not-begin_with-clause-refused
returns-then-not-begin_with-clause-refused c = (
  c.in_ok-rest.rest.now,
  c.in_ok-rest.ensures.ok,
  another_head c.args.bytes.now c.in_ok-rest.rest.now c.in_ok-rest.ensures.ok c.from_be_bytes-secret.result c.from_be_bytes-secret.ensures c.in_ok-topology.topology c.deref.result.now
      (c.deref.ensures.value ∙ c.in_ok-head.ensures) c.in_ok-topology.ensures.whole (c.if-not-begin_with.ensures.no refl),
)
