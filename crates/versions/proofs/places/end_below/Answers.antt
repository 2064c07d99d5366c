use Rattle.std.proofs.Common.{rules, ◌≡◌, ◌∙◌, ap, subst, sym, ℕ, reverse, take, drop, get_or}
use Rattle.versions.specs.declared.entry.Entry.{Entry}
use Rattle.versions.specs.Chain.{least}
use Rattle.versions.specs.Ends.{AreEnded, LeadTo}
use Rattle.versions.proofs.Ended.{below_index}
use Rattle.versions.proofs.places.end_below.Goals as goal

pub returns-then-i-entries-clause-newer : goal.returns-then-i-entries-clause-newer
returns-then-i-entries-clause-newer c =
    let e = c.index-entries-i.result in
    let is : e ≡ get_or c.args.entries.now c.args.i e = search rules in
    subst (LeadTo (reverse (drop c.args.i c.args.entries.now))) (sym (c.least.ensures.least ∙ ap (λ (x : Entry). least x.end x.version.evt) is))
    (below_index c.args.entries.now c.args.i e (search rules) c.requires.ended).0

pub returns-then-i-entries-clause-older : goal.returns-then-i-entries-clause-older
returns-then-i-entries-clause-older c =
    let e = c.index-entries-i.result in
    let is : e ≡ get_or c.args.entries.now c.args.i e = search rules in
    subst (λ (n : ℕ). AreEnded n (reverse (take c.args.i c.args.entries.now))) (sym (c.least.ensures.least ∙ ap (λ (x : Entry). least x.end x.version.evt) is))
    (below_index c.args.entries.now c.args.i e (search rules) c.requires.ended).1
