use Rattle.std.proofs.Common.{◌∙◌, ℕ, List, Option, ap, sym}
use Rattle.std.specs.Option.{option_or}
use Rattle.durable_site.specs.Met.{met_by}
use Rattle.durable_site.proofs.LastMet.{met_then}
use Rattle.durable_site.proofs.others.last_met.Goals as goal

pub loop-entry-preserved : goal.loop-entry-preserved
loop-entry-preserved c =
    let dc = c.args.dc in
    let es = c.args.entries.now in
    let i = c.loop-entry.entry-index in
    let e = c.entry-item.result in
    c.or-last.ensures ∙ ap (λ (o : Option (List ℕ)). option_or o c.loop-entry.last) c.met_by.ensures ∙ ap (λ (p : Option (List ℕ)). option_or (met_by dc e) p) c.loop-entry.invariant ∙ sym (met_then dc es i e c.loop-entry-test.true c.entry-item.is)
