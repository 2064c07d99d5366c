use Rattle.std.proofs.Common.{◌≡◌, ◌∙◌, false, Some, None, length, sym, arith}
use Rattle.std.proofs.lemmas.Option.{slice_get_past}
use Rattle.site_port.specs.declared.waiting.Late.{Late}
use Rattle.site_port.specs.Ends.{is_awaited as is_awaited_end}
use Rattle.site_port.proofs.Lists.{all_more}
use Rattle.site_port.proofs.recalling.place_of.Goals as goal

pub loop-place-preserved : goal.loop-place-preserved
loop-place-preserved c =
    all_more (λ (x : Late). is_awaited_end (Some (c.args.session, c.args.number)) x ≡ false) c.args.late.now c.loop-place.place c.index-late-place.result (omega arith) c.index-late-place.is
    (sym c.is_end.ensures ∙ c.if-is_end.false) c.loop-place.invariant

none_some : (l : Late) → None ≡ Some l → ⊥
none_some l q = cc

pub returns-clause-there : goal.returns-clause-there
returns-clause-there c = λ l at. absurd (none_some l (sym (slice_get_past c.args.late.now (length c.args.late.now) (omega arith)) ∙ at))
