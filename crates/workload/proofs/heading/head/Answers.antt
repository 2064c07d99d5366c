use Rattle.std.proofs.Common.{sym, ◌∙◌}
use Rattle.workload.proofs.Members.{head_dcs, head_shards, head_families, head_homes}
use Rattle.workload.proofs.heading.head.Goals as goal

pub returns-in_ok-dcs : goal.returns-in_ok-dcs
returns-in_ok-dcs c = head_dcs c.args.name.now c.args.depth c.args.reader.now c.of_reader.new.reader c.args.heading.now c.in_ok-dcs.dcs (sym c.eq.ensures ∙ c.if-eq.true) c.in_ok-dcs.ensures

pub returns-in_ok-shards : goal.returns-in_ok-shards
returns-in_ok-shards c = head_shards c.args.name.now c.args.depth c.args.reader.now c.of_reader-then-eq-2.new.reader c.args.heading.now c.in_ok-shards.shards (sym c.eq-else-eq.ensures ∙ c.if-eq-2.true) c.in_ok-shards.ensures

pub returns-in_ok-families : goal.returns-in_ok-families
returns-in_ok-families c = head_families c.args.name.now c.args.depth c.args.reader.now c.of_reader-then-eq-3.new.reader c.args.heading.now c.in_ok-families.families (sym c.eq-else-eq-2.ensures ∙ c.if-eq-3.true) c.in_ok-families.ensures

pub returns-in_ok-homes : goal.returns-in_ok-homes
returns-in_ok-homes c = head_homes c.args.name.now c.args.depth c.args.reader.now c.list_in.new.reader c.args.heading.now c.in_ok-homes.homes (sym c.eq-else-eq-3.ensures ∙ c.if-eq-4.true) c.in_ok-homes.ensures
