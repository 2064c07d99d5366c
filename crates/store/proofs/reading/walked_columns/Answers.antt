use Rattle.std.proofs.Common.{◌∙◌, ap, sym, [], filter_map, take, le_trans}
use Rattle.std.specs.Option.{option_copied}
use Rattle.std.proofs.lemmas.List.{take_all}
use Rattle.slice.specs.Slice.{walked}
use Rattle.slice.specs.declared.predicate.Predicate.TheVariants.{Range}
use Rattle.slice.proofs.Chosen.{chosen_first}
use Rattle.store.specs.declared.sight.Seen.{Seen}
use Rattle.store.specs.Sight.{named, live_of}
use Rattle.store.proofs.seen.Assembled.{if_ok, not_more}
use Rattle.store.proofs.reading.walked_columns.Goals as goal

pub returns-then-seen-most-clause-ok : goal.returns-then-seen-most-clause-ok
returns-then-seen-most-clause-ok c =
    let items = c.args.seen.now in
    let column = λ (s : Seen). live_of (option_copied c.args.deletion) (named s) in
    if_ok c.live_columns.result
    (λ columns is. is
    ∙ sym (take_all c.args.most (filter_map column items) (le_trans (not_more column items) c.if-seen-most.true))
    ∙ ap (λ b. take c.args.most (walked b (filter_map column items))) (sym c.if-not-reversed.true))
    c.live_columns.ensures.ok

pub returns-clause-ok : goal.returns-clause-ok
returns-clause-ok c =
    let items = c.args.seen.now in
    let column = λ (s : Seen). live_of (option_copied c.args.deletion) (named s) in
    if_ok c.live_columns-2.result
    (λ columns is. is
    ∙ ap (filter_map column) (c.deref.ensures.value ∙ c.in_ok-live.ensures)
    ∙ chosen_first column (Range [] [] c.args.reversed c.args.most) items)
    c.live_columns-2.ensures.ok
