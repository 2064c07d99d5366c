use Rattle.std.proofs.Common.{◌∙◌, ◌++◌, ap, sym}
use Rattle.std.proofs.lemmas.List.{append-nil}
use Rattle.running.specs.Told.{told_at}
use Rattle.running.proofs.ToldMore.{then_ok}
use Rattle.running.proofs.telling.tell_at.Goals as goal

pub returns-in-Some-clause-told : goal.returns-in-Some-clause-told
returns-in-Some-clause-told c =
    then_ok c.tell_session.result (λ is. is ∙ ap (λ o. c.args.transcript.now ++ told_at c.args.node o) (sym c.in-Some.ensures.some)) c.tell_session.ensures.told

pub returns-in-None-clause-told : goal.returns-in-None-clause-told
returns-in-None-clause-told c = sym (append-nil c.args.transcript.now) ∙ ap (λ o. c.args.transcript.now ++ told_at c.args.node o) (sym c.in-None.ensures.none)
