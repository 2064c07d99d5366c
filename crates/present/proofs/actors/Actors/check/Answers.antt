use Rattle.std.proofs.Common.{◌∙◌, ◌-◌}
use Rattle.world.proofs.in_code.Taking.{place_of, place_below}
use Rattle.present.proofs.Going.{submission_allowed, submission_would_refuse}
use Rattle.present.proofs.actors.Actors.check.Goals as goal

pub returns-in-Ok-clause-allowed : goal.returns-in-Ok-clause-allowed
returns-in-Ok-clause-allowed c =
    let same = c.from.ensures ∙ c.get.ensures in
    let to = place_of c.args.session c.from.result c.len.result _ same (c.len.ensures ∙ c.args.self.now.shards.ok.0) c.requires.session in
    let lt = place_below c.args.session _ _ _ to c.requires.sessions in
    λ top events h. submission_allowed top events c.args.self.now c.args.self.now h c.args.session (c.from.result - c.len.result) c.args.op.now to lt c.in-Ok.ensures.allowed

pub returns-in-Err-clause-refused : goal.returns-in-Err-clause-refused
returns-in-Err-clause-refused c =
    let same = c.from.ensures ∙ c.get.ensures in
    let to = place_of c.args.session c.from.result c.len.result _ same (c.len.ensures ∙ c.args.self.now.shards.ok.0) c.requires.session in
    let lt = place_below c.args.session _ _ _ to c.requires.sessions in
    λ top events h. submission_would_refuse top events c.args.self.now c.args.self.now h c.args.session (c.from.result - c.len.result) c.args.op.now c.in-Err.fault to lt c.in-Err.ensures.refused
