use Rattle.std.proofs.Common.{rules, ◌∙◌, ap, sym, subst, ◌^◌, ◌≡◌, List, length, take, drop}
use Rattle.std.specs.Prelude.{reverse, insert}
use Rattle.smallvec.proofs.SmallVecLemmas.{items-with_items}
use Rattle.versions.specs.declared.entry.Entry.{Entry}
use Rattle.versions.specs.Chain.{least}
use Rattle.versions.specs.Ends.{AreEnded, LeadTo}
use Rattle.versions.proofs.Ended.{inserted}
use Rattle.versions.proofs.places.insert_at.Goals as goal

pub returns-in-Ok-clause-ended : goal.returns-in-Ok-clause-ended
returns-in-Ok-clause-ended c =
    let e : Entry = record { version = c.args.version; end = c.end_below-end.result } in
    let es = c.args.entries.now.items in
    let is : c.as_mut_slice.result.now ≡ insert es c.args.i e = search rules in
    let long : length c.mend.new.entries ≡ length c.insert.new.self.items = c.mend.ensures.length ∙ ap length c.as_mut_slice.ensures.value in
    let k = inserted es c.args.i e c.requires.inside c.least-bound.ensures.time
    (subst (λ (fs : List Entry). LeadTo (reverse (drop c.args.i fs)) e.end) c.as_slice.ensures c.end_below-end.ensures.newer)
    (subst (λ (fs : List Entry). AreEnded e.end (reverse (take c.args.i fs))) c.as_slice.ensures c.end_below-end.ensures.older) in
    subst (λ (fs : List Entry). AreEnded (2 ^ 48) (reverse fs)) (sym (items-with_items c.insert.new.self c.mend.new.entries long))
    (c.mend.ensures.ended e.end
    (subst (LeadTo (reverse (drop c.args.i c.as_mut_slice.result.now))) (sym c.least-bound.ensures.least)
    (subst (λ (fs : List Entry). LeadTo (reverse (drop c.args.i fs)) (least e.end c.args.version.evt)) (sym is) k.0))
    (subst (λ (fs : List Entry). AreEnded e.end (reverse (take c.args.i fs))) (sym is) k.1))
