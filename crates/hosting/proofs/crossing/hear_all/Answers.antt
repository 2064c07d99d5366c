use Rattle.std.proofs.Common.{[], ◌∙◌, refl}
use Rattle.site_port.specs.Port.{port_of}
use Rattle.hosting.specs.Rounds.{IsComing}
use Rattle.hosting.proofs.Passing.{passed_none, passed_then, leaves_none, leaves_then}
use Rattle.hosting.proofs.crossing.hear_all.Goals as goal

pub loop-heard-init : goal.loop-heard-init
loop-heard-init g c = record { heard = passed_none IsComing g.W.Ways.steps [] (port_of c.args.port.now) c.args.ways.now; silent = leaves_none g.W.Ways.steps c.args.ways.now; ungiven = refl; kept = refl }

pub returns-then-not-branch : goal.returns-then-not-branch
returns-then-not-branch g c = record {
  heard = passed_then IsComing g.W.Ways.steps [] (port_of c.args.port.now) (port_of c.loop-heard.port) (port_of c.hear_one.new.port) c.args.ways.now c.loop-heard.ways c.hear_one.new.ways c.loop-heard.invariant.heard c.in_ok-hear_one.ensures.heard;
  silent = leaves_then g.W.Ways.steps c.args.ways.now c.loop-heard.ways c.hear_one.new.ways c.loop-heard.invariant.silent c.hear_one.ensures.silent;
  ungiven = c.in_ok-hear_one.ensures.ungiven ∙ c.loop-heard.invariant.ungiven;
  kept = c.in_ok-hear_one.ensures.kept ∙ c.loop-heard.invariant.kept;
}

pub loop-heard-preserved : goal.loop-heard-preserved
loop-heard-preserved g c = record {
  heard = passed_then IsComing g.W.Ways.steps [] (port_of c.args.port.now) (port_of c.loop-heard.port) (port_of c.hear_one.new.port) c.args.ways.now c.loop-heard.ways c.hear_one.new.ways c.loop-heard.invariant.heard c.in_ok-hear_one.ensures.heard;
  silent = leaves_then g.W.Ways.steps c.args.ways.now c.loop-heard.ways c.hear_one.new.ways c.loop-heard.invariant.silent c.hear_one.ensures.silent;
  ungiven = c.in_ok-hear_one.ensures.ungiven ∙ c.loop-heard.invariant.ungiven;
  kept = c.in_ok-hear_one.ensures.kept ∙ c.loop-heard.invariant.kept;
}

pub returns-in_err-hear_one-clause-silent : goal.returns-in_err-hear_one-clause-silent
returns-in_err-hear_one-clause-silent g c = leaves_then g.W.Ways.steps c.args.ways.now c.loop-heard.ways c.hear_one.new.ways c.loop-heard.invariant.silent c.hear_one.ensures.silent
