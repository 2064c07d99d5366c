use Rattle.std.proofs.Common.{◌≡◌, ◌∙◌, ap, map, subst, Result, List, Bool}
use Rattle.std.specs.Prelude.{IfOk}
use Rattle.std.specs.declared.alloc.AllocError.{AllocError}
use Rattle.std.specs.List.{AllZip}
use Rattle.std.proofs.lemmas.Result.{MatchResult-weaker}
use Rattle.rayon.proofs.ToStd.{slice-map}
use Rattle.audit.specs.Audit.{is_wrong}
use Rattle.audit.proofs.Oks.{all_ok}
use Rattle.audit.proofs.auditing.judge_all.Goals as goal

pub returns : goal.returns
returns g c =
    let slice = ap (λ it. it.base.slice.now) c.map.ensures.base ∙ ap (λ it. it.slice.now) c.with_min_len.ensures.base ∙ c.par_iter.ensures in
    let wrong = is_wrong c.map.result.f.1.now in
    let same : c.map.result.f.1.now ≡ c.args.laid.now = ap (λ f. f.1.now) c.map.ensures.f in
    let h = c.in_ok-collect.ensures in
    let chain = h.1 in
    MatchResult-weaker c.in_ok-collect.field-0 h.2
    (λ v p.
    p.2
    ∙ slice-map chain.0 c.args.completed.now (chain.1 ∙ slice) wrong p.0
    (all_ok AllocError (λ z. wrong z.now) chain.0 p.0 (subst (λ (rs : List (Result Bool AllocError)). AllZip (λ z r. IfOk r (λ b. b ≡ wrong z.now)) chain.0 rs) p.1 chain.2))
    ∙ ap (λ laid. map (is_wrong laid) c.args.completed.now) same)
    (λ e q. tt)
