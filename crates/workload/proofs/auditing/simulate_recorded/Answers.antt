use Rattle.std.proofs.Common.{◌≡◌, ◌∙◌, ap, subst}
use Rattle.messages.specs.Topology.{TopologyValue}
use Rattle.world.specs.Run.{Run}
use Rattle.world.specs.World.{WorldValue, run_of}
use Rattle.workload.specs.Audited.{AreFirstHistories}
use Rattle.workload.specs.Simulation.{run_of as run_of_script}
use Rattle.workload.proofs.Audits.{is_run_of}
use Rattle.workload.proofs.auditing.simulate_recorded.Goals as goal

pub returns-clause-histories : goal.returns-clause-histories
returns-clause-histories c =
    let s = c.args.script.now in
    let v = c.play_all-played.new.world in
    let w = run_of v in
    let same : c.in_ok-world.world.top ≡ s.topology = ap (λ (v : WorldValue). v.top) c.in_ok-world.ensures.made in
    let kept : v.top ≡ s.topology = c.in_ok-_marks.ensures.topology ∙ same in
    let runs : w ≡ run_of_script s = is_run_of s c.in_ok-world.world.top c.as_slice.result.now w _ same c.as_slice.ensures c.in_ok-_marks.ensures.ok in
    subst (λ (t : TopologyValue). AreFirstHistories t (run_of_script s) t.dcs c.in_ok-histories.histories.items) kept
    (subst (λ (r : Run). AreFirstHistories v.top r v.top.dcs c.in_ok-histories.histories.items) runs c.in_ok-histories.ensures.each)

pub returns-clause-completed : goal.returns-clause-completed
returns-clause-completed c =
    let s = c.args.script.now in
    let v = c.play_all-played.new.world in
    let same : c.in_ok-world.world.top ≡ s.topology = ap (λ (v : WorldValue). v.top) c.in_ok-world.ensures.made in
    let runs : run_of v ≡ run_of_script s = is_run_of s c.in_ok-world.world.top c.as_slice.result.now (run_of v) _ same c.as_slice.ensures c.in_ok-_marks.ensures.ok in
    c.leave-completed.ensures ∙ ap (λ (r : Run). r.transcript) runs
