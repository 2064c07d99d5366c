use Rattle.std.proofs.Common.{◌≡◌, ◌∙◌, ap, sym, subst, ◌+◌, ◌-◌, ◌^◌, List, length, take, drop, get_or, Some, arith}
use Rattle.std.specs.Prelude.{reverse, remove}
use Rattle.smallvec.proofs.SmallVecLemmas.{items-with_items}
use Rattle.versions.specs.declared.entry.Entry.{Entry}
use Rattle.versions.specs.Chain.{least}
use Rattle.versions.specs.Ends.{AreEnded, LeadTo, versions_of}
use Rattle.versions.proofs.Ended.{removed}
use Rattle.versions.proofs.Found.{get_at_index, remove_at_index}
use Rattle.versions.proofs.places.take_out.Goals as goal

pub returns-clause-ended : goal.returns-clause-ended
returns-clause-ended c =
    let e = c.remove-removed.result in
    let es = c.args.entries.now.items in
    let i = c.len-count.result - 1 - c.args.place in
    let count = c.len-count.ensures.value in
    let sum : i + c.args.place + 1 ≡ length es = omega (arith, count, c.if-place-count.false) in
    let is : c.as_mut_slice.result.now ≡ remove es i = c.as_mut_slice.ensures.value ∙ c.remove-removed.ensures.items in
    let long : length c.mend.new.entries ≡ length c.remove-removed.new.self.items = c.mend.ensures.length ∙ ap length c.as_mut_slice.ensures.value in
    let own : e ≡ get_or es i e = c.remove-removed.ensures.value in
    let k = removed es i e (omega (arith, sum)) c.requires in
    subst (λ (fs : List Entry). AreEnded (2 ^ 48) (reverse fs)) (sym (items-with_items c.remove-removed.new.self c.mend.new.entries long))
    (c.mend.ensures.ended (least (get_or es i e).end (get_or es i e).version.evt)
    (subst (λ (x : Entry). LeadTo (reverse (drop i c.as_mut_slice.result.now)) x.end) (sym own)
    (subst (λ (fs : List Entry). LeadTo (reverse (drop i fs)) (get_or es i e).end) (sym is) k.0))
    (subst (λ (fs : List Entry). AreEnded (least (get_or es i e).end (get_or es i e).version.evt) (reverse (take i fs))) (sym is) k.1))

pub returns-clause-removed : goal.returns-clause-removed
returns-clause-removed c =
    let e = c.remove-removed.result in
    let es = c.args.entries.now.items in
    let i = c.len-count.result - 1 - c.args.place in
    let count = c.len-count.ensures.value in
    let sum : i + c.args.place + 1 ≡ length es = omega (arith, count, c.if-place-count.false) in
    let own : e ≡ get_or es i e = c.remove-removed.ensures.value in
    sym (get_at_index es i c.args.place e sum ∙ ap (λ (x : Entry). Some x.version) (sym own))

pub returns-clause-left : goal.returns-clause-left
returns-clause-left c =
    let e = c.remove-removed.result in
    let es = c.args.entries.now.items in
    let i = c.len-count.result - 1 - c.args.place in
    let count = c.len-count.ensures.value in
    let sum : i + c.args.place + 1 ≡ length es = omega (arith, count, c.if-place-count.false) in
    let long : length c.mend.new.entries ≡ length c.remove-removed.new.self.items = c.mend.ensures.length ∙ ap length c.as_mut_slice.ensures.value in
    ap versions_of (items-with_items c.remove-removed.new.self c.mend.new.entries long)
    ∙ c.mend.ensures.versions
    ∙ ap versions_of (c.as_mut_slice.ensures.value ∙ c.remove-removed.ensures.items)
    ∙ sym (remove_at_index es i c.args.place e sum)
