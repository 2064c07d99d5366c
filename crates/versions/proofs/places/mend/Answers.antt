use Rattle.std.proofs.Common.{rules, ◌≡◌, ◌∙◌, subst, ℕ, ◌+◌, ◌-◌, ◌<◌, take, drop, length, arith}
use Rattle.std.proofs.lemmas.Bool.Decides.{nat_tests}
use Rattle.std.specs.Prelude.{reverse}
use Rattle.std.proofs.lemmas.List.{length-set, take-set}
use Rattle.versions.specs.Ends.{LeadTo}
use Rattle.versions.proofs.Reversed.{take_less}
use Rattle.versions.proofs.Ended.{versions_stay, lead_step, mended_all, mended_before}
use Rattle.versions.proofs.places.mend.Goals as goal

pub loop-i-preserved : goal.loop-i-preserved
loop-i-preserved c =
    let es = c.loop-i.entries in
    let first = c.args.entries.now in
    let i = c.loop-i.i - 1 in
    let d = c.index-entries-i-in-loop-i.result in
    let inv = c.loop-i.invariant in
    let back : c.loop-i.i ≡ i + 1 = omega (arith, c.loop-i-test.true) in
    let lt : i < length es = omega (arith, back, inv.inside, inv.long, c.requires) in
    record {
      inside = omega (arith, back, inv.inside);
      long = length-set es i _ ∙ inv.long;
      older = take-set es i _ ∙ take_less i es first (subst (λ (n : ℕ). take n es ≡ take n first) back inv.older);
      versions = versions_stay es i d c.loop-i.end lt ∙ inv.versions;
      ended = λ lead.
          lead_step es i d c.index-entries-i-in-loop-i-2.result c.loop-i.end c.least-end.result lt
          c.least-end.ensures.time c.least-end.ensures.least
          (subst (λ (n : ℕ). LeadTo (reverse (drop n es)) c.loop-i.end) back (inv.ended lead));
    }

pub returns-else-entries-i-clause-ended : goal.returns-else-entries-i-clause-ended
returns-else-entries-i-clause-ended c = λ b lead older.
    let es = c.loop-i.entries in
    let i = c.loop-i.i - 1 in
    let inv = c.loop-i.invariant in
    let back : c.loop-i.i ≡ i + 1 = omega (arith, c.loop-i-test.true) in
    let lt : i < length es = omega (arith, back, inv.inside, inv.long, c.requires) in
    mended_before es c.args.entries.now i c.args.index b c.loop-i.end c.index-entries-i.result lt (search rules) (omega (arith, back, inv.inside))
    (subst (λ (n : ℕ). take n es ≡ take n c.args.entries.now) back inv.older)
    older
    (grind (arith, nat_tests, c.if-entries-i.false))
    (subst (λ (n : ℕ). LeadTo (reverse (drop n es)) c.loop-i.end) back (inv.ended lead))

pub returns-after-loop-i-clause-ended : goal.returns-after-loop-i-clause-ended
returns-after-loop-i-clause-ended c = λ b lead older.
    let start : c.loop-i.i ≡ 0 = omega (arith, c.loop-i-test.false) in
    mended_all c.loop-i.entries c.loop-i.end
    (subst (λ (n : ℕ). LeadTo (reverse (drop n c.loop-i.entries)) c.loop-i.end) start (c.loop-i.invariant.ended lead))
