use Rattle.std.proofs.Common.{◌≡◌, ◌∙◌, sym}
use Rattle.running.proofs.telling.are_of.Goals as goal

pub returns : goal.returns
returns c =
    let same : c.args.concluded.now.top ≡ c.args.script.now.topology = sym c.topology.ensures ∙ c.same_topology.ensures.0 c.if-not-same_topology.false in
    (λ on. (same, c.have_taken.ensures.0 on), λ both. c.have_taken.ensures.1 both.1)
