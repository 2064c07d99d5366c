use Rattle.std.proofs.Common.{rules, ◌≡◌, ◌∙◌, [], ◌∷◌, ap, sym, subst, length, arith, List}
use Rattle.std.proofs.lemmas.List.{nil_from_length}
use Rattle.column_family.specs.Normal.{ranges_of}
use Rattle.column_family.specs.declared.batch.Change.{Change}
use Rattle.store.specs.Stored.{chain_at, ranges_in, written, put_all, ranges_written, put_all_ranges}
use Rattle.store.proofs.applied.Changes.{AreReady, ready_rest, put_rest}
use Rattle.store.proofs.applied.Written.{count_first, rest_put}
use Rattle.store.proofs.rows.put_changes.Goals as goal

pub loop-change-preserved : goal.loop-change-preserved
loop-change-preserved c =
    let i = c.loop-change.invariant in
    let o = c.args.origin.now in
    let olds = c.loop-change.rows.entries in
    let news = c.put_change.new.rows.entries in
    let split : c.loop-change.change-iterator.rest.items ≡ c.in-Some.change ∷ c.next.new.self.rest.items = search rules in
    let ready = subst (λ (cs : List Change). AreReady o.stamp olds cs) split i.ready in
    record {
      ready = ready_rest o olds news c.in-Some.change c.next.new.self.rest.items c.put_change.ensures.versions c.put_change.ensures.room ready;
      versions = λ r p. put_rest o olds news c.in-Some.change c.next.new.self.rest.items c.put_change.ensures.versions r p
          ∙ subst (λ (cs : List Change). put_all (chain_at olds r p).versions (written o r p cs) ≡ put_all (chain_at c.args.rows.now.entries r p).versions (written o r p c.args.changes.items)) split (i.versions r p);
      ranges_ready = λ r.
          (let first = i.ranges_ready r in
          let count = count_first r c.in-Some.change c.next.new.self.rest.items in
          let room = c.put_change.ensures.range_room r in
          let same = ap (λ (cs : List Change). length (ranges_of r cs)) split in
          omega (arith, first, count, room, same));
      held = λ r.
          rest_put o r c.in-Some.change c.next.new.self.rest.items (ranges_in olds r).ranges (ranges_in news r).ranges (c.put_change.ensures.held r)
          ∙ subst
          (λ (cs : List Change). put_all_ranges (ranges_in olds r).ranges (ranges_written o r cs) ≡ put_all_ranges (ranges_in c.args.rows.now.entries r).ranges (ranges_written o r c.args.changes.items)) split (i.held r);
      listing = (let first = i.listing in let room = c.put_change.ensures.listing in let same = ap (λ (cs : List Change). length cs) split in omega (arith, first, room, same));
      listed = λ listed. c.put_change.ensures.listed (i.listed listed);
    }

pub returns-clause-ranges : goal.returns-clause-ranges
returns-clause-ranges c = λ r.
    let rest : c.loop-change.change-iterator.rest.items ≡ [] = nil_from_length c.loop-change.change-iterator.rest.items (sym c.loop-change.change-iterator.rest.ok.0 ∙ c.in-None.ensures.steps.0) in
    subst
    (λ (cs : List Change). put_all_ranges (ranges_in c.loop-change.rows.entries r).ranges (ranges_written c.args.origin.now r cs)
    ≡ put_all_ranges (ranges_in c.args.rows.now.entries r).ranges (ranges_written c.args.origin.now r c.args.changes.items)) rest (c.loop-change.invariant.held r)
