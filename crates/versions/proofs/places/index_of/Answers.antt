use Rattle.std.proofs.Common.{rules, ◌≡◌, subst, sym, ℕ, ◌+◌, ◌-◌, ◌++◌, ◌∷◌, take, drop, arith}
use Rattle.versions.specs.Chain.{put_of}
use Rattle.versions.specs.Ends.{versions_of}
use Rattle.versions.proofs.Indexed.{IsBelow, below_less, below_equal, below_greater}
use Rattle.versions.proofs.places.index_of.Goals as goal

pub loop-i-preserved : goal.loop-i-preserved
loop-i-preserved c =
    let es = c.args.entries.now in
    let i = c.loop-i.i - 1 in
    let v = c.args.version.now in
    let inv = c.loop-i.invariant in
    let back : c.loop-i.i ≡ i + 1 = omega (arith, c.loop-i-test.true) in
    record {
      inside = omega (arith, back, inv.inside);
      below = below_less es i c.index-entries-i.result v (omega (arith, back, inv.inside)) (search rules) (search rules) (subst (λ (n : ℕ). IsBelow es n v) back inv.below);
    }

pub returns-in-Equal : goal.returns-in-Equal
returns-in-Equal c =
    let es = c.args.entries.now in
    let i = c.loop-i.i - 1 in
    let v = c.args.version.now in
    let inv = c.loop-i.invariant in
    let back : c.loop-i.i ≡ i + 1 = omega (arith, c.loop-i-test.true) in
    below_equal es i c.index-entries-i.result v (omega (arith, back, inv.inside)) (search rules) (search rules) (subst (λ (n : ℕ). IsBelow es n v) back inv.below)

pub returns-in-Greater : goal.returns-in-Greater
returns-in-Greater c =
    let es = c.args.entries.now in
    let i = c.loop-i.i - 1 in
    let v = c.args.version.now in
    let inv = c.loop-i.invariant in
    let back : c.loop-i.i ≡ i + 1 = omega (arith, c.loop-i-test.true) in (
      inv.inside,
      subst (λ (n : ℕ). put_of (versions_of es) v ≡ versions_of (drop n es) ++ v ∷ versions_of (take n es)) (sym back)
          (below_greater es i c.index-entries-i.result v (omega (arith, back, inv.inside)) (search rules) (search rules) (subst (λ (n : ℕ). IsBelow es n v) back inv.below)),
    )
