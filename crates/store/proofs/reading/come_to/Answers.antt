use Rattle.std.proofs.Common.{◌≡◌, ◌∙◌, ap, sym, ◌-◌, length, None, refl}
use Rattle.std.specs.Prelude.{slice_get}
use Rattle.std.specs.Option.{option_copied}
use Rattle.slice.specs.Rests.{is_reached}
use Rattle.store.proofs.lists.CameTo.{none_left}
use Rattle.store.proofs.reading.come_to.Goals as goal

pub returns-in-None : goal.returns-in-None
returns-in-None c = λ sorted.
    let columns = c.args.columns.now in
    let nothing : slice_get columns (length columns - 1) ≡ None = sym c.last.ensures.value ∙ ap option_copied c.in-None.is in
    sym (none_left (λ s. is_reached c.args.reversed columns s.name.now) c.args.seen.now (λ k d lt. rw nothing refl))
