use Rattle.std.proofs.Common.{◌≡◌, ◌∙◌, Some, None, sym}
use Rattle.messages.specs.Topology.{TopologyValue}
use Rattle.ledger.proofs.Stores.{text_told, some_told}
use Rattle.ledger.proofs.head.told_by.Goals as goal

pub returns-in_default-clause-whole : goal.returns-in_default-clause-whole
returns-in_default-clause-whole c = λ top more is told. absurd (some_told c.args.secret c.args.rest.now more top is told c.in_default.ensures)

pub returns-in-Some-2-clause-whole : goal.returns-in-Some-2-clause-whole
returns-in-Some-2-clause-whole c = λ top more is told.
    one (sym c.in-Some-2.is ∙ c.in_ok-topology.ensures top is (text_told c.args.secret c.args.rest.now more c.in-Some.text.now c.in-Some.field-0-0 top is told c.in-Some.ensures))
  where
    one : {a b : TopologyValue} → Some a ≡ Some b → a ≡ b
    one h = cc

pub returns-in-None-clause-whole : goal.returns-in-None-clause-whole
returns-in-None-clause-whole c = λ top more is told.
    absurd (differ (sym c.in-None.is ∙ c.in_ok-topology.ensures top is (text_told c.args.secret c.args.rest.now more c.in-Some.text.now c.in-Some.field-0-0 top is told c.in-Some.ensures)))
  where
    differ : {b : TopologyValue} → None ≡ Some b → ⊥
    differ h = cc
