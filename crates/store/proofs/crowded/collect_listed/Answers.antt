use Rattle.std.proofs.Common.{rules, ◌∙◌, sym, ap, subst, take, ◌++◌, [], ◌∷◌, List}
use Rattle.std.proofs.lemmas.List.{take_more, take_all}
use Rattle.column_family.specs.declared.batch.Row.{Row}
use Rattle.store.proofs.applied.Listed.{collected_more, ranges_collected_more, AreCollected, AreRangesCollected}
use Rattle.store.proofs.crowded.collect_listed.Goals as goal

pub loop-row-preserved : goal.loop-row-preserved
loop-row-preserved c =
    let t = c.args.time in
    let os = c.args.rows.now.entries in
    let ls = c.loop-row.rows.entries in
    let ns = c.collect_row.new.rows.entries in
    let so_far = take c.loop-row.row-index c.args.listed.now in
    let x = c.row-item.result in
    let i = c.loop-row.invariant in
    let more = take_more c.args.listed.now c.loop-row.row-index x c.loop-row-test.true ∙ ap (λ (y : Row). so_far ++ y ∷ []) (sym c.row-item.is) in
    record {
      versions = subst (λ (rows : List Row). AreCollected t rows os ns) (sym more) (collected_more t os ls ns so_far x i.versions c.collect_row.ensures.versions);
      ranges = subst (λ (rows : List Row). AreRangesCollected t rows os ns) (sym more) (ranges_collected_more t os ls ns so_far x i.versions i.ranges c.collect_row.ensures.ranges);
    }

pub returns-clause-versions : goal.returns-clause-versions
returns-clause-versions c =
    let all = take_all c.loop-row.row-index c.args.listed.now (search rules) in
    subst (λ (rows : List Row). AreCollected c.args.time rows c.args.rows.now.entries c.loop-row.rows.entries) all c.loop-row.invariant.versions

pub returns-clause-ranges : goal.returns-clause-ranges
returns-clause-ranges c =
    let all = take_all c.loop-row.row-index c.args.listed.now (search rules) in
    subst (λ (rows : List Row). AreRangesCollected c.args.time rows c.args.rows.now.entries c.loop-row.rows.entries) all c.loop-row.invariant.ranges
