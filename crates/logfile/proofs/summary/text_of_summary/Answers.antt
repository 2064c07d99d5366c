use Rattle.std.proofs.Common.{◌∙◌, ◌++◌, string_bytes, ap, rules}
use Rattle.std.specs.Prelude.{codes}
use Rattle.logfile.proofs.Texts.{told_so}
use Rattle.logfile.proofs.summary.text_of_summary.Goals as goal

pub returns : goal.returns
returns c =
    let store = string_bytes c.in_ok-store.store in
    let line = string_bytes c.in_ok-text.text in
    let counts = string_bytes c.in_ok-counts_of.field-0 in
    told_so c.args.summary.now store line counts (string_bytes c.push_str.new.self) c.in_ok-store.ensures
    (c.in_ok-text.ensures ∙ ap (λ x. codes "the log of " ++ x ++ codes "\n") c.as_str.ensures.value) c.in_ok-counts_of.ensures (search rules)
