use Rattle.std.proofs.Common.{[], ◌∷◌, sym, subst}
use Rattle.std.specs.Prelude.{OnOk}
use Rattle.workload.specs.declared.script.ScriptEvent.{ScriptEvent}
use Rattle.by_sites.specs.Holds.{HasTaken}
use Rattle.by_sites.proofs.Keeping.{idle, asks_nothing}
use Rattle.by_sites.proofs.asking.ask.Goals as goal

pub returns-in-Submit : goal.returns-in-Submit
returns-in-Submit c = record {
  taken = subst (λ (x : ScriptEvent). OnOk c.submit.result (HasTaken c.args.topology.now (x ∷ []) c.args.sites.now c.args.told.now c.submit.new.sites c.submit.new.told))
      (sym c.in-Submit.is) c.submit.ensures.taken;
}

pub returns-in-Collect : goal.returns-in-Collect
returns-in-Collect c = record {
  taken = subst (λ (x : ScriptEvent). OnOk c.collect.result (HasTaken c.args.topology.now (x ∷ []) c.args.sites.now c.args.told.now c.collect.new.sites c.collect.new.told))
      (sym c.in-Collect.is) c.collect.ensures.taken;
}

pub returns-in-Deliver : goal.returns-in-Deliver
returns-in-Deliver c = record {
  taken = λ events holds. idle c.args.topology.now events c.args.sites.now c.args.told.now c.args.event.now (asks_nothing c.args.event.now c.in-Deliver.is) holds;
}

pub returns-in-Deliver-2 : goal.returns-in-Deliver-2
returns-in-Deliver-2 c = record {
  taken = λ events holds. idle c.args.topology.now events c.args.sites.now c.args.told.now c.args.event.now (asks_nothing c.args.event.now c.in-Deliver.is) holds;
}
