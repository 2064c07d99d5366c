use Rattle.std.proofs.Common.{◌∙◌, sym, rules}
use Rattle.world.specs.World.{run_of}
use Rattle.std.proofs.lemmas.List.{nil_from_length}
use Rattle.service.proofs.Searched.{searched_none, searched_more, not_found}
use Rattle.service.proofs.asked.outcome_of.Goals as goal

pub loop-last-init : goal.loop-last-init
loop-last-init c = searched_none (run_of c.args.world.now).transcript c.transcript-rest.result.now c.args.session c.args.number c.transcript-rest.ensures.listed

pub loop-last-preserved : goal.loop-last-preserved
loop-last-preserved c =
    searched_more (run_of c.args.world.now).transcript c.loop-last.rest.now c.in-Some.before.now c.in-Some.last.now c.args.session c.args.number c.loop-last.invariant
    c.in-Some.ensures.cases.0 (sym c.is_end.ensures ∙ c.if-is_end.false)

pub returns-clause-none : goal.returns-clause-none
returns-clause-none c =
    not_found (run_of c.args.world.now) c.loop-last.rest.now c.args.session c.args.number c.loop-last.invariant (search (rules, nil_from_length))
