-- What records tell, one by one.
use Rattle.std.proofs.Common.{◌≡◌, ◌∙◌, ℕ, suc, List, [], ◌∷◌, ◌++◌, Result, Err, IfErr, ◌⊎◌, inl, inr, length, refl, ap, sym, subst}
use Rattle.logical_time.specs.declared.fault.Fault.TheVariants.{Memory}
use Rattle.std.proofs.lemmas.List.{map-append}
use Rattle.records.specs.declared.record.Record.{Record as Read}
use Rattle.records.specs.Records.{Entry as Record, view, views}
use Rattle.site_ledger.specs.declared.entry.Entry.{Entry}
use Rattle.site_ledger.specs.Entries.{IsTextOf, IsNumbered}
use Rattle.durable_site.specs.Logged.{Tell}
use Rattle.durable_site.specs.declared.error.OpenError.{OpenError}
use Rattle.durable_site.specs.declared.error.OpenError.TheVariants.{Unread, Refused}
use Rattle.durable_site.specs.Stuck.{TellsNone, IsUnreadable}
use Rattle.durable_site.proofs.Logs.{tell_more}

-- one more record, and what it tells
pub tell_read : (es more : List Entry) (rs : List Read) (e : Entry) (r : Read) → more ≡ es ++ e ∷ [] → Tell es (views rs) → IsNumbered e → IsTextOf e r.body.items → Tell more (views (rs ++ r ∷ []))
tell_read es more rs e r is t n told =
    subst (λ (l : List Entry). Tell l (views (rs ++ r ∷ []))) (sym is)
    (subst (λ (l : List Record). Tell (es ++ e ∷ []) l) (sym (map-append view rs (r ∷ []))) (tell_more es (views rs) e (view r) t n told))

tell_length : (es : List Entry) (rs : List Record) → Tell es rs → length es ≡ length rs
tell_length [] [] t = refl
tell_length [] (r ∷ rs) t = absurd t
tell_length (e ∷ es) [] t = absurd t
tell_length (e ∷ es) (r ∷ rs) t = ap suc (tell_length es rs t.2)

-- the next record tells none
pub unread_at : (es : List Entry) (done rest all : List Read) (r : Read) (number : ℕ) → Tell es (views done) → number ≡ length es → all ≡ done ++ r ∷ rest → TellsNone (view r) → IsUnreadable (views all) (Unread number)
unread_at es done rest all r number t n parts none = (
  views done,
  views rest,
  view r,
  ap views parts ∙ map-append view done (r ∷ rest),
  n ∙ tell_length es (views done) t,
  none,
)

-- why what is read is refused
pub refused_by : {T : Type 0} (es : List Entry) (done rest all : List Read) (r : Read) (number : ℕ) (e : OpenError) (result : Result T OpenError) → result ≡ Err e → Tell es (views done) → number ≡ length es → all ≡ done ++ r ∷ rest
    → (e ≡ Refused Memory) ⊎ ((e ≡ Unread number) × TellsNone (view r)) → IfErr result (IsUnreadable (views all))
refused_by {T = T} es done rest all r number e result is t n parts why = subst (λ (x : Result T OpenError). IfErr x (IsUnreadable (views all))) (sym is) (told why)
  where
    told : (e ≡ Refused Memory) ⊎ ((e ≡ Unread number) × TellsNone (view r)) → IsUnreadable (views all) e
    told (inl memory) = subst (λ (x : OpenError). IsUnreadable (views all) x) (sym memory) refl
    told (inr none) = subst (λ (x : OpenError). IsUnreadable (views all) x) (sym none.0) (unread_at es done rest all r number t n parts none.1)
