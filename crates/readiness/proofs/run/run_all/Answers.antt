use Rattle.std.proofs.Common.{◌≡◌, ◌∙◌, List, sym, subst, rules}
use Rattle.std.proofs.lemmas.List.{nil_from_length, map-id}
use Rattle.std.proofs.lemmas.Iterator.Adapters.{YieldsList-from_vec}
use Rattle.std.proofs.lemmas.Iterator.Consumers.{YieldsList-end}
use Rattle.readiness.specs.declared.connection.TheConstants.{LIMIT}
use Rattle.readiness.specs.declared.run.Act.{Act}
use Rattle.readiness.specs.Runs.{RanFor, arrivals}
use Rattle.readiness.proofs.Positions.{chain_none, chain_then}
use Rattle.readiness.proofs.Lives.{arrivals-then, ran-begins, none-bounded}
use Rattle.readiness.proofs.run.run_all.Goals as goal

pub loop-act-init : goal.loop-act-init
loop-act-init g c =
    let none = nil_from_length c.in_ok-new.field-0.places.items c.in_ok-new.ensures.count in
    record {
      chain = chain_none g.P.SharedPort.steps (g.P.SharedPort.seen c.args.port.now);
      ran = ran-begins g.L.ReadyLine.seen g.P.SharedPort.steps (g.P.SharedPort.seen c.args.port.now) c.in_ok-new.field-0.places.items c.new-2.result.items none c.new-2.ensures.items;
      bounded = none-bounded LIMIT g.L.ReadyLine.seen c.in_ok-new.field-0.places.items none;
    }

pub loop-act-preserved : goal.loop-act-preserved
loop-act-preserved g c = record {
  chain = chain_then g.P.SharedPort.steps (g.P.SharedPort.seen c.args.port.now) (g.P.SharedPort.seen c.loop-act.port) (g.P.SharedPort.seen c.act_on.new.port) c.loop-act.invariant.chain c.act_on.ensures.chain;
  ran = rw (arrivals-then c.loop-act.yielded c.in-Some.act) (c.in_ok-act_on.ensures.ran (arrivals c.loop-act.yielded) (g.P.SharedPort.seen c.args.port.now) c.loop-act.invariant.ran);
  bounded = c.in_ok-act_on.ensures.bounded c.loop-act.invariant.bounded;
}

pub returns-clause-ran : goal.returns-clause-ran
returns-clause-ran g c =
    let given = c.into_iter-act-iterator.ensures.into_iter_gives in
    let end = YieldsList-end (YieldsList-from_vec {s = c.into_iter-act-iterator.result} c.args.acts.items given.0 (search rules)) c.loop-act.yielded c.loop-act.act-iterator c.loop-act.yielded_by c.next.result c.next.new.self c.in-None.is c.next.ensures.steps in
    let all : c.loop-act.yielded ≡ c.args.acts.items = sym (map-id c.loop-act.yielded) ∙ end.0 in
    subst (λ (acts : List (Act g.row.L.Denot)). RanFor g.L.ReadyLine.seen g.P.SharedPort.steps (arrivals acts) c.loop-act.run.gone.items (g.P.SharedPort.seen c.args.port.now) c.loop-act.run.places.places.items (g.P.SharedPort.seen c.loop-act.port)) all c.loop-act.invariant.ran

pub returns-in_err-act_on-clause-chain : goal.returns-in_err-act_on-clause-chain
returns-in_err-act_on-clause-chain g c = chain_then g.P.SharedPort.steps (g.P.SharedPort.seen c.args.port.now) (g.P.SharedPort.seen c.loop-act.port) (g.P.SharedPort.seen c.act_on.new.port) c.loop-act.invariant.chain c.act_on.ensures.chain
