use Rattle.std.proofs.Common.{◌≤◌, ◌<◌, ◌∙◌, length, None, rules}
use Rattle.actors.proofs.Receiving.{popped, unpolled, same_sources}
use Rattle.actors.proofs.Looking.{looked_more, looked_up_to, others_stay, popped_at}
use Rattle.actors.proofs.incoming.poll.Goals as goal

pub returns-then-not-is_empty-clause-sources : goal.returns-then-not-is_empty-clause-sources
returns-then-not-is_empty-clause-sources c =
    let from = c.pop.ensures.addresses.0 ∙ c.is_empty.ensures.addresses.0 in
    same_sources c.loop-place.incoming.items c.loop-place.place c.index_mut-link.result.now c.pop.new.self c.index_mut-link.ensures.value from ∙ c.loop-place.invariant.sources

pub returns-then-not-is_empty-clause-received : goal.returns-then-not-is_empty-clause-received
returns-then-not-is_empty-clause-received c = λ journal apart start.
    let d = c.index_mut-link.result.now in
    let inv = c.loop-place.invariant in
    let from = c.pop.ensures.addresses.0 ∙ c.is_empty.ensures.addresses.0 in
    let lt : c.loop-place.place < length c.loop-place.incoming.items = search rules in
    popped c.loop-place.incoming.items c.loop-place.place d c.pop.new.self c.pop.result lt c.index_mut-link.ensures.value from
    (rw (← c.is_empty.ensures.same) c.pop.ensures.some) (rw (← c.is_empty.ensures.addresses.0) c.pop.ensures.from) (rw (← c.is_empty.ensures.same) c.pop.ensures.none)
    journal (rw inv.sources apart) (inv.received journal start)

pub returns-then-not-is_empty-clause-found : goal.returns-then-not-is_empty-clause-found
returns-then-not-is_empty-clause-found c =
    let from = c.pop.ensures.addresses.0 ∙ c.is_empty.ensures.addresses.0 in
    let lt : c.loop-place.place < length c.loop-place.incoming.items = search rules in
    popped_at c.loop-place.incoming.items _ _ c.loop-place.place _ c.index_mut-link.result.now c.pop.new.self c.pop.result (search rules) (search rules) lt c.index_mut-link.ensures.value from
    (rw (← c.is_empty.ensures.addresses.0) c.pop.ensures.from) (search rules) c.loop-place.invariant.empty

pub returns-then-not-is_empty-clause-others : goal.returns-then-not-is_empty-clause-others
returns-then-not-is_empty-clause-others c =
    others_stay _ c.loop-place.incoming.items _ _ c.loop-place.place c.pop.new.self (search rules) (search rules) c.loop-place.invariant.others

pub loop-place-preserved : goal.loop-place-preserved
loop-place-preserved c =
    let d = c.index_mut-link.result.now in
    let inv = c.loop-place.invariant in
    let h = c.index_mut-link.ensures.value in
    let from = c.is_empty.ensures.addresses.0 in
    let lt : c.loop-place.place < length c.loop-place.incoming.items = search rules in
    record {
      count = search rules;
      sources = same_sources c.loop-place.incoming.items c.loop-place.place d c.is_empty.new.self h from ∙ inv.sources;
      next = c.loop-place.invariant.next;
      empty = looked_more c.loop-place.incoming.items c.args.first c.loop-place.place c.is_empty.new.self lt inv.empty (search rules);
      others = others_stay _ c.loop-place.incoming.items _ _ c.loop-place.place c.is_empty.new.self (search rules) (search rules) inv.others;
      received = λ journal start. unpolled c.loop-place.incoming.items c.loop-place.place d c.is_empty.new.self lt h from c.is_empty.ensures.same journal None (inv.received journal start);
    }

pub returns-clause-none : goal.returns-clause-none
returns-clause-none c =
    let past : c.args.end ≤ c.loop-place.place = search rules in
    (looked_up_to _ _ _ c.loop-place.place past c.loop-place.invariant.empty, c.loop-place.invariant.next)
