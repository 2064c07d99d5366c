-- A node's log that is looked at.
use Rattle.std.proofs.Common.{◌≡◌, ◌∙◌, ℕ, ◌+◌, ◌-◌, ◌≤◌, List, [], ◌∷◌, ◌++◌, length, drop, Option, Some, None, Result, Err, IfErr, ◌⊎◌, inl, inr, refl, sym, ap, subst, append_assoc, cond, arith}
use Rattle.std.specs.Prelude.{IfSome, IfNone, not, ◌==◌}
use Rattle.std.specs.List.{flat_map}
use Rattle.std.proofs.lemmas.List.FromFn.{filter_of_map_range_with_len_more}
use Rattle.logical_time.specs.declared.fault.Fault.TheVariants.{Memory}
use Rattle.messages.specs.Topology.{TopologyValue}
use Rattle.records.specs.declared.record.Record.{Record as Read}
use Rattle.records.specs.Records.{Entry as Record, view, views, spelled, recovered, front_at, size, IsUndamaged}
use Rattle.records.proofs.Recovered.{recovered_none, recovered_some}
use Rattle.ledger.specs.Heads.{head_of}
use Rattle.durable.specs.Looked.{IsWholeAt}
use Rattle.durable.specs.declared.error.OpenError.{OpenError}
use Rattle.durable.specs.declared.error.OpenError.TheVariants.{Unread, Refused}
use Rattle.site_ledger.specs.declared.entry.Entry.{Entry}
use Rattle.site_ledger.specs.Entries.{IsTextOf, IsNumbered}
use Rattle.durable_site.specs.Logged.{Tell}
use Rattle.durable_site.specs.Stuck.{TellsNone}
use Rattle.durable_site.proofs.Read.{unread_at}
use Rattle.logfile.specs.declared.error.LogError.{LogError}
use Rattle.logfile.specs.declared.error.LogError.TheVariants.{Records}
use Rattle.logfile.specs.declared.site_counts.Counts.{Counts}
use Rattle.logfile.specs.declared.site_summary.SiteSummary.{SiteSummary}
use Rattle.logfile.specs.Logs.{BeginsWith, behind}
use Rattle.logfile.specs.Sites.{IsUnreadable, CantReadSite, CantLookAtSite, IsBegunBy, begun_by, other_of, others_in, IsOfSite, IsOfNoSite, AreCountsOf, IsSiteSummaryOf, site_line, site_counts_text, other_text, rest_text}
use Rattle.logfile.specs.Told.{store_text, site_text}
use Rattle.logfile.proofs.Files.{begins, rest_is}

-- why what is read is refused
pub refused_by : {T : Type 0} (es : List Entry) (done rest all : List Read) (r : Read) (number : ℕ) (e : OpenError) (result : Result T OpenError) → result ≡ Err e → Tell es (views done) → number ≡ length es → all ≡ done ++ r ∷ rest
    → (e ≡ Refused Memory) ⊎ ((e ≡ Unread number) × TellsNone (view r)) → IfErr result (IsUnreadable (views all))
refused_by {T = T} es done rest all r number e result is t n parts why = subst (λ (x : Result T OpenError). IfErr x (IsUnreadable (views all))) (sym is) (told why)
  where
    told : (e ≡ Refused Memory) ⊎ ((e ≡ Unread number) × TellsNone (view r)) → IsUnreadable (views all) e
    told (inl memory) = subst (λ (x : OpenError). IsUnreadable (views all) x) (sym memory) refl
    told (inr none) = subst (λ (x : OpenError). IsUnreadable (views all) x) (sym none.0) (unread_at es done rest all r number t n parts none.1)

-- ## Whose it is

-- a text is of one entry at most
abbrev pub OneEach : Type 0
OneEach = (a b : Entry) (text : List ℕ) → IsNumbered a → IsNumbered b → IsTextOf a text → IsTextOf b text → a ≡ b

module _ (secret : ℕ) (bytes : List ℕ) (r : Record) (front : front_at secret 0 bytes ≡ Some r) where
  told : recovered secret 0 0 bytes ≡ r ∷ recovered secret (0 + size r) 0 (drop (size r) bytes)
  told = recovered_some secret 0 bytes r front

  first : (b : Record) (rest : List Record) → recovered secret 0 0 bytes ≡ b ∷ rest → b ≡ r
  first b rest is =
      let one = told in
      cc

  -- the first record tells this entry
  pub begun : (e : Entry) (result : Option ℕ) → IsNumbered e → IsTextOf e r.body → result ≡ begun_by e → IfSome result (IsBegunBy (recovered secret 0 0 bytes))
  begun e None n t is = tt
  begun e (Some dc) n t is = (r, recovered secret (0 + size r) 0 (drop (size r) bytes), told, e, sym is, n, t)

  pub not_begun : (e : Entry) (result : Option ℕ) → OneEach → IsNumbered e → IsTextOf e r.body → result ≡ begun_by e → IfNone result ((dc : ℕ) → IsBegunBy (recovered secret 0 0 bytes) dc → ⊥)
  not_begun e (Some dc) law n t is = tt
  not_begun e None law n t is = λ dc b.
      let same : b.0 ≡ r = first b.0 b.1 b.2 in
      let text : IsTextOf b.3 r.body = subst (λ (x : Record). IsTextOf b.3 x.body) same b.6 in
      let entry : b.3 ≡ e = law b.3 e r.body b.5 n text t in
      let bad : None ≡ Some dc = is ∙ ap begun_by (sym entry) ∙ b.4 in
      absurd cc

  -- it tells none
  pub untold : ((e : Entry) → IsTextOf e r.body → ⊥) → (dc : ℕ) → IsBegunBy (recovered secret 0 0 bytes) dc → ⊥
  untold none dc b = none b.3 (subst (λ (x : Record). IsTextOf b.3 x.body) (first b.0 b.1 b.2) b.6)

-- there is no record
pub empty : (secret : ℕ) (bytes : List ℕ) → front_at secret 0 bytes ≡ None → (dc : ℕ) → IsBegunBy (recovered secret 0 0 bytes) dc → ⊥
empty secret bytes front dc b =
    let bad : [] ≡ b.0 ∷ b.1 = sym (recovered_none secret 0 bytes front) ∙ b.2 in
    absurd cc

-- ## How much is in it

-- one data centre more
pub others_more : (here n : ℕ) (es : List Entry) → others_in here (n + 1) es ≡ others_in here n es ++ cond (not (n == here)) (other_of es n ∷ []) []
others_more here n es = filter_of_map_range_with_len_more (λ o. not (o.dc == here)) (other_of es) 0 n n (omega arith)

-- ## A file that is looked at

module _ (file rest : List ℕ) (top : TopologyValue) (secret n : ℕ) (is : file ≡ head_of secret top ++ drop n file) (at : n ≡ length (head_of secret top)) (behind_it : rest ≡ drop n file) where
  here : rest ≡ behind secret top file
  here = rest_is file rest top secret n at behind_it

  starts : BeginsWith secret top file
  starts = begins file file top secret n refl is

  pub of_site : (whose : Option ℕ) → IfSome whose (IsBegunBy (recovered secret 0 0 rest)) → IfSome whose (IsOfSite file)
  of_site None some = tt
  of_site (Some dc) some = (secret, top, starts, subst (λ (l : List ℕ). IsBegunBy (recovered secret 0 0 l) dc) here some)

  pub of_no_site : (whose : Option ℕ) → IfNone whose ((dc : ℕ) → IsBegunBy (recovered secret 0 0 rest) dc → ⊥) → IfNone whose (IsOfNoSite file)
  of_no_site (Some dc) none = tt
  of_no_site None none = (secret, top, starts, λ dc b. none dc (subst (λ (l : List ℕ). IsBegunBy (recovered secret 0 0 l) dc) (sym here) b))

  pub unread_site : {T : Type 0} (x : OpenError) (result : Result T LogError) → result ≡ Err (Records x) → CantReadSite secret rest x → IfErr result (CantLookAtSite file)
  unread_site {T = T} x result same why =
      subst (λ (r : Result T LogError). IfErr r (CantLookAtSite file)) (sym same) (secret, top, starts, subst (λ (l : List ℕ). CantReadSite secret l x) here why)

  pub summed_site : (es : List Entry) (dc end : ℕ) (c : Counts) → Tell es (recovered secret 0 0 rest) → IsWholeAt secret rest end → AreCountsOf dc top.dcs es c
      → IsSiteSummaryOf file dc (record { dc = dc; topology = top; counts = c; records = end; torn = length rest - end })
  summed_site es dc end c tell whole counts =
      let within = whole.within in
      let long : end + (length rest - end) ≡ length rest = omega arith in
      record {
        whose = refl;
        secret = secret;
        begins = starts;
        entries = es;
        tell = subst (λ (l : List ℕ). Tell es (recovered secret 0 0 l)) here tell;
        undamaged = subst (λ (l : List ℕ). IsUndamaged secret l) here whole.undamaged;
        counts = counts;
        records = whole.ends ∙ ap (λ (l : List ℕ). length (spelled secret 0 (recovered secret 0 0 l))) here;
        torn = long ∙ ap (λ (l : List ℕ). length l) here;
      }

-- ## The lines that tell it

pub site_told : (s : SiteSummary) (store line counts others last whole : List ℕ) → ((names : List ℕ) × (store ≡ store_text s.topology names)) → line ≡ site_line s.dc store → counts ≡ site_counts_text s.counts
    → others ≡ flat_map other_text s.counts.others.items → last ≡ rest_text s.records s.torn → whole ≡ ((line ++ counts) ++ others) ++ last → (names : List ℕ) × (whole ≡ site_text s names)
site_told s store line counts others last whole named one two three four is = (
  named.0,
  is
      ∙ append_assoc (line ++ counts) others last ∙ append_assoc line counts (others ++ last)
      ∙ ap (λ (x : List ℕ). x ++ (counts ++ (others ++ last))) (one ∙ ap (λ (x : List ℕ). site_line s.dc x) named.1)
      ∙ ap (λ (x : List ℕ). site_line s.dc (store_text s.topology named.0) ++ (x ++ (others ++ last))) two
      ∙ ap (λ (x : List ℕ). site_line s.dc (store_text s.topology named.0) ++ (site_counts_text s.counts ++ (x ++ last))) three
      ∙ ap (λ (x : List ℕ). site_line s.dc (store_text s.topology named.0) ++ (site_counts_text s.counts ++ (flat_map other_text s.counts.others.items ++ x))) four,
)
