use Rattle.std.proofs.Common.{rules, sym, refl, arith}
use Rattle.std.proofs.lemmas.Bool.Decides.{nat_tests}
use Rattle.slice.specs.Rests.{is_within}
use Rattle.store.proofs.lists.CameTo.{all_left}
use Rattle.store.proofs.reading.reached.Goals as goal

pub returns-in_default : goal.returns-in_default
returns-in_default c = λ sorted.
    sym (all_left (λ s. is_within c.args.predicate.now c.args.columns.now s.name.now) c.args.seen.now (λ k d lt. search (rules, arith, nat_tests)))

pub returns-in_default-2 : goal.returns-in_default-2
returns-in_default-2 c = λ sorted.
    sym (all_left (λ s. is_within c.args.predicate.now c.args.columns.now s.name.now) c.args.seen.now (λ k d lt. rw c.in_default.is refl))
