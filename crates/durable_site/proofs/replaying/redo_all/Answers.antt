use Rattle.std.proofs.Common.{◌≡◌, ◌∙◌, List, ◌∷◌, ◌++◌, sym, subst, rules, arith}
use Rattle.std.proofs.lemmas.Grind.{common_steps}
use Rattle.std.proofs.lemmas.List.{map-id}
use Rattle.std.proofs.lemmas.Iterator.Adapters.{YieldsList-from_vec}
use Rattle.std.proofs.lemmas.Iterator.Consumers.{YieldsList-end}
use Rattle.site_ledger.specs.declared.entry.Entry.{Entry}
use Rattle.site_ledger.specs.Steps.{steps_told}
use Rattle.durable_site.specs.Stuck.{HasRedone}
use Rattle.durable_site.proofs.Redone.{redone_none, one_more_entry, stuck_entry_err}
use Rattle.durable_site.proofs.replaying.redo_all.Goals as goal

pub loop-entry-init : goal.loop-entry-init
loop-entry-init g c = record { redone = redone_none c.args.site.now; parts = grind (arith, common_steps) }

pub loop-entry-preserved : goal.loop-entry-preserved
loop-entry-preserved g c = record {
  redone = one_more_entry c.args.site.now c.loop-entry.site c.redo.new.site c.loop-entry.yielded c.in-Some.entry c.loop-entry.invariant.redone c.in_ok-redo.ensures.ok;
  parts = grind (arith, common_steps);
}

pub returns-in_err-redo-clause-refused : goal.returns-in_err-redo-clause-refused
returns-in_err-redo-clause-refused g c =
    let parts : c.args.entries.items ≡ c.loop-entry.yielded ++ c.in-Some.entry ∷ c.next.new.self.rest.items = grind (arith, common_steps) in
    stuck_entry_err c.from_residual.result g.M.Machine.refuses c.args.site.now c.loop-entry.site c.loop-entry.yielded c.next.new.self.rest.items c.args.entries.items c.in-Some.entry c.in_err-redo.field-0.0 (search rules) parts c.loop-entry.invariant.redone
    c.in_err-redo.ensures.refused

pub returns-clause-ok : goal.returns-clause-ok
returns-clause-ok g c =
    let given = c.into_iter-entry-iterator.ensures.into_iter_gives in
    let end = YieldsList-end (YieldsList-from_vec {s = c.into_iter-entry-iterator.result} c.args.entries.items given.0 (search rules)) c.loop-entry.yielded c.loop-entry.entry-iterator c.loop-entry.yielded_by c.next.result c.next.new.self c.in-None.is c.next.ensures.steps in
    let all : c.loop-entry.yielded ≡ c.args.entries.items = sym (map-id c.loop-entry.yielded) ∙ end.0 in
    subst (λ (l : List Entry). HasRedone c.args.site.now (steps_told l) c.loop-entry.site) all c.loop-entry.invariant.redone
