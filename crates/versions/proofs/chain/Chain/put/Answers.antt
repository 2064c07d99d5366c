use Rattle.std.proofs.Common.{ap}
use Rattle.std.proofs.lemmas.Result.{on_ok_weaker}
use Rattle.versions.specs.Chain.{Held}
use Rattle.versions.specs.Ends.{versions_of}
use Rattle.versions.proofs.Held.{held_after_put}
use Rattle.versions.proofs.Seen.{at_after_put}
use Rattle.versions.proofs.chain.Chain.put.Goals as goal

pub returns-clause-held : goal.returns-clause-held
returns-clause-held c =
    rw (← ap (λ (h : Held). h.versions) c.self.view_is)
    (on_ok_weaker c.put_in.result (held_after_put (versions_of c.self.inside.entries.items) (versions_of c.put_in.new.entries.items) c.args.version c.self.invariant.0) c.put_in.ensures.ok)

pub returns-clause-seen : goal.returns-clause-seen
returns-clause-seen c =
    rw (← ap (λ (h : Held). h.versions) c.self.view_is)
    (on_ok_weaker c.put_in.result (at_after_put (versions_of c.self.inside.entries.items) (versions_of c.put_in.new.entries.items) c.args.version c.self.invariant.0) c.put_in.ensures.ok)
