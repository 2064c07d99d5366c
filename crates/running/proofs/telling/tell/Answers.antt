use Rattle.std.proofs.Common.{◌∙◌, ◌++◌, ap, inr, refl}
use Rattle.running.specs.Told.{told_of}
use Rattle.running.proofs.Shown.{is_transcript, of_script, not_of_script, not_received}
use Rattle.running.proofs.telling.tell.Goals as goal

pub returns-then-not-are_of-clause-refused : goal.returns-then-not-are_of-clause-refused
returns-then-not-are_of-clause-refused c =
    let v = c.args.concluded.now in
    inr (refl, not_of_script c.args.script.now v.seats v.top c.seats-concluded.ensures.run (λ both. let no = c.if-not-are_of.ensures.1 both in absurd (cc)))

pub returns-then-not-quiet-clause-refused : goal.returns-then-not-quiet-clause-refused
returns-then-not-quiet-clause-refused c =
    let v = c.args.concluded.now in
    let of = c.if-not-are_of.ensures.0 refl in
    inr (refl, not_received c.args.script.now v.seats v.top of.0 (λ all. let no = c.in_ok-quiet.ensures.links.1 all in absurd (cc)))

pub returns-clause-told : goal.returns-clause-told
returns-clause-told c =
    let v = c.args.concluded.now in
    let of = c.if-not-are_of.ensures.0 refl in
    let is =
    is_transcript c.args.script.now v.seats c.tell_sessions.new.transcript v.top of.0 c.seats-concluded.ensures.run c.requires of.1 (c.in_ok-quiet.ensures.quiet c.if-not-quiet.false)
    (c.in_ok-tell_sessions.ensures.told ∙ ap (λ l. l ++ told_of v.top v.seats) c.new-transcript.ensures) in
    record { topology = is.topology; transcript = is.transcript; seats = is.seats }

pub returns-clause-of : goal.returns-clause-of
returns-clause-of c =
    let v = c.args.concluded.now in
    let of = c.if-not-are_of.ensures.0 refl in
    of_script c.args.script.now v.seats v.top of.0 c.seats-concluded.ensures.run (c.in_ok-quiet.ensures.links.0 c.if-not-quiet.false) of.1
