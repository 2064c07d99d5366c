use Rattle.std.proofs.Common.{◌≤◌, [], List, length, sym, subst}
use Rattle.std.proofs.lemmas.List.{append-nil}
use Rattle.workload.specs.declared.script.ScriptEvent.{ScriptEvent}
use Rattle.by_sites.specs.Holds.{Holds, HasTaken}
use Rattle.by_sites.proofs.Keeping.{taken_more, take_all_of}
use Rattle.by_sites.proofs.running.take_all.Goals as goal

pub loop-place-init : goal.loop-place-init
loop-place-init c = λ events holds. subst (λ l. Holds c.args.script.now.topology l c.args.sites.now c.args.told.now []) (sym (append-nil events)) holds

pub loop-place-preserved : goal.loop-place-preserved
loop-place-preserved c =
    taken_more c.args.script.now.topology c.args.script.now.events c.as_slice-events.result.now c.loop-place.place c.index-events-place.result
    c.args.sites.now c.loop-place.sites c.ask.new.sites c.settle.new.sites c.args.told.now c.loop-place.told c.ask.new.told c.settle.new.told
    c.as_slice-events.ensures c.loop-place-test.true c.index-events-place.is c.loop-place.invariant c.in_ok-ask.ensures.taken c.in_ok-settle.ensures.on

pub returns : goal.returns
returns c =
    let all = c.args.script.now.events in
    let le = subst (λ (l : List ScriptEvent). length l ≤ c.loop-place.place) c.as_slice-events.ensures c.loop-place-test.false in
    record {
      taken = subst (λ l. HasTaken c.args.script.now.topology l c.args.sites.now c.args.told.now c.loop-place.sites c.loop-place.told) (take_all_of all c.loop-place.place le) c.loop-place.invariant;
    }
