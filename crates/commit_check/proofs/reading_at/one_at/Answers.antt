use Rattle.std.proofs.Common.{rules, ap, List, ℕ}
use Rattle.std.specs.Option.{option_copied}
use Rattle.messages.specs.declared.rows_at.RowAt.{RowAt}
use Rattle.commit_check.proofs.SameRows.{found_at}
use Rattle.commit_check.proofs.reading_at.one_at.Goals as goal

pub returns-clause-ok : goal.returns-clause-ok
returns-clause-ok c = λ a keeps may.
    let part = c.in_ok-part.part in
    let r : RowAt = record { key = c.in_ok-clone.field-0; columns = part.columns; writers = part.writers } in
    found_at c.args.store.now (option_copied c.args.coming) a c.args.time c.args.read.now c.args.key.now part r keeps may c.in_ok-part.ensures.ok
    (ap (λ (x : List ℕ). record { key = x; columns = part.columns; writers = part.writers }) (search rules))
