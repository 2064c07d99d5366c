use Rattle.std.proofs.Common.{rules, Ok, ℕ}
use Rattle.std.proofs.lemmas.Iterator.{items_from_collect, YieldsList-from_slice, YieldsList-from_map}
use Rattle.std.proofs.lemmas.Iterator.Consumers.{YieldsList-at}
use Rattle.messages.specs.Reads.{check_of}
use Rattle.replicator.proofs.checking.checks.Goals as goal

pub returns-clause-envelopes : goal.returns-clause-envelopes
returns-clause-envelopes c = λ top me is.
    items_from_collect {E = ℕ} (Ok c.in_ok-envelopes.envelopes) c.in_ok-envelopes.ensures.ran
    (YieldsList-from_map _ (check_of top me c.args.time c.args.read_time)
    (YieldsList-at c.map.ensures.source (YieldsList-from_slice c.args.writers.now (cc)))
    c.map.ensures.closure (λ x r q k. search rules))
