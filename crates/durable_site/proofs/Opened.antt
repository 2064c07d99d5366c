-- What comes back from the records of a log.
use Rattle.std.proofs.Common.{◌≡◌, ◌∙◌, ℕ, ◌+◌, Bool, true, false, List, [], ◌∷◌, ◌++◌, refl, ap, sym, subst, Option, Some, None, IfSome, length, drop, ◌⊎◌, inl, inr, append-nil, Result, Ok, Err, IfErr, OnOk}
use Rattle.std.specs.Prelude.{slice_get}
use Rattle.std.proofs.lemmas.Grind.{flat_map-append}
use Rattle.messages.specs.Topology.{TopologyValue}
use Rattle.logical_time.specs.declared.fault.Fault.{Fault}
use Rattle.logical_time.specs.declared.fault.Fault.TheVariants.{Memory, WriteFailed}
use Rattle.disk.specs.declared.disk.DiskError.TheVariants.{Failed}
use Rattle.disk.specs.Disk.{IsBeginning, LeavesOnly}
use Rattle.records.specs.Records.{Entry as Record, recovered, spelled, has_first}
use Rattle.keeper.specs.declared.log.Log.{Log}
use Rattle.keeper.specs.Log.{Stands, IsAsBefore}
use Rattle.keeper.specs.declared.recovery.RecoveryError.{RecoveryError}
use Rattle.keeper.specs.declared.recovery.RecoveryError.TheVariants.{Disk, Damaged}
use Rattle.keeper.proofs.Moments.{weaker, then_more, from_some}
use Rattle.actors.specs.Machines.{Refuses}
use Rattle.site.specs.Sites.{SiteValue}
use Rattle.site.specs.Steps.{Step, steps}
use Rattle.site_ledger.specs.declared.entry.Entry.{Entry}
use Rattle.site_ledger.specs.Entries.{IsTextOf, IsNumbered}
use Rattle.site_ledger.specs.Steps.{steps_of, steps_told}
use Rattle.durable_site.specs.declared.identity.Identity.{Identity}
use Rattle.durable_site.specs.Logged.{Tell, TellSteps, Notes, IsLogged, whose_of}
use Rattle.durable_site.specs.declared.step_log.StepLog.{StepLog}
use Rattle.durable_site.specs.declared.error.OpenError.TheVariants.{Unrecovered}
use Rattle.durable_site.specs.Kept.{IsOpened}
use Rattle.durable_site.specs.Settled.{Holds, HoldsOnly, IsSettled, Settles, kept_by}
use Rattle.durable_site.specs.Stuck.{IsWhose, ComesBack, CantOpen, IsLeft}
use Rattle.durable_site.proofs.Logs.{kept_first, logged_by}
use Rattle.durable_site.proofs.Settled.{settled_at}

-- what whose log it is says is no step
pub whose_no_step : (i : Identity) (whose : Entry) (es : List Entry) → whose ≡ whose_of i → steps_told (whose ∷ es) ≡ steps_told es
whose_no_step i whose es is = ap (λ (e : Entry). steps_of e ++ steps_told es) is

-- whatever a file held came back, first
pub came_back : ((a b : Entry) (text : List ℕ) → IsNumbered a → IsNumbered b → IsTextOf a text → IsTextOf b text → a ≡ b)
    → (top : TopologyValue) (mine : Identity) (secret : ℕ) (bytes : List ℕ) (i : Identity) (site : SiteValue) → ComesBack top mine (recovered secret 0 0 bytes) i site
    → (whose : Entry) (all : List Step) → Holds secret whose all bytes → (whose ≡ whose_of i) × IsBeginning all (steps site.story)
came_back one_entry top mine secret bytes i site b whose all h =
    let found = kept_first one_entry h.kept h.more h.entries b.entries h.tell (subst (λ (rs : List Record). Tell b.entries rs) h.records b.tell) in
    let rest = h.steps.0 in
    let entries : b.entries ≡ whose ∷ (rest ++ found.0) = found.1 ∙ ap (λ (l : List Entry). l ++ found.0) h.steps.1 in
    let own : whose ≡ whose_of i = (subst (λ (l : List Entry). IsWhose mine l i) entries b.whose).0 in (
      own,
      (
        steps_told found.0,
        b.redone.steps ∙ ap steps_told entries ∙ whose_no_step i whose (rest ++ found.0) own ∙ flat_map-append steps_of rest found.0 ∙ ap (λ (l : List Step). l ++ steps_told found.0) h.steps.2,
      ),
    )

-- ## A log that is there, or is begun

module _ {D : Type 0} (seen : D → Option (List ℕ)) (may_leave : D → List ℕ → Type 0) (failed : D → Bool) where
  -- the first entry of a log that has none yet
  pub begun : (old : Log D) (new : StepLog D) (i : Identity) → Stands seen may_leave old [] [] → (Notes seen may_leave old [] → Notes seen may_leave new.log (whose_of i ∷ [])) → new.turned ≡ 0 → IsLogged seen may_leave (whose_of i) new []
  begun old new i s noted none = logged_by seen may_leave (whose_of i) new [] none (whose_of i ∷ [], noted (record { kept = []; noted = []; stands = s; tell = tt }), ([], refl, refl))

  -- entries that begin with whose log it is
  pub found_told : (i : Identity) (e : Entry) (es : List Entry) → e ≡ whose_of i → TellSteps (whose_of i) (steps_told (e ∷ es)) (e ∷ es)
  found_told i e es is = (es, ap (λ (x : Entry). x ∷ es) is, sym (whose_no_step i e es is))

  first_is : (e first : Entry) → Some first ≡ Some e → e ≡ first
  first_is e first is = cc

  none_first : (first : Entry) → Some first ≡ None → ⊥
  none_first first is = cc

  pub first_told : (i : Identity) (es : List Entry) (first : Entry) → Some first ≡ slice_get es 0 → first ≡ whose_of i → TellSteps (whose_of i) (steps_told es) es
  first_told i [] first is own = absurd (none_first first is)
  first_told i (e ∷ es) first is own = found_told i e es (first_is e first is ∙ own)

  pub found_logged : (l : StepLog D) (i : Identity) (kept : List Record) (entries : List Entry) → l.turned ≡ 0 → Stands seen may_leave l.log kept [] → Tell entries kept → TellSteps (whose_of i) (steps_told entries) entries
      → IsLogged seen may_leave (whose_of i) l (steps_told entries)
  found_logged l i kept entries none s t told =
      logged_by seen may_leave (whose_of i) l (steps_told entries) none (entries, record { kept = kept; noted = []; stands = s; tell = subst (λ (rs : List Record). Tell entries rs) (sym (append-nil kept)) t }, told)

  pub found_settled : (l : StepLog D) (i : Identity) (kept : List Record) (entries : List Entry) → Stands seen may_leave l.log kept [] → Tell entries kept → TellSteps (whose_of i) (steps_told entries) entries
      → IsSettled seen may_leave failed l.log.secret l.log.disk (whose_of i) (steps_told entries)
  found_settled l i kept entries s t told = settled_at seen may_leave failed l.log.secret l.log.end l.log.disk (whose_of i) (steps_told entries) kept entries s.is_kept t told

-- what a result says where it is right
pub on_ok : (r : Result (Unit {0}) Fault) (P : Type 0) → (r ≡ Ok tt → P) → OnOk r P
on_ok (Ok u) P h = h refl
on_ok (Err e) P h = tt

pub only_faults : (r : Result (Unit {0}) Fault) (F : Type 0) → IfErr r (λ e. ((e ≡ WriteFailed) × F) ⊎ (e ≡ Memory)) → IfErr r (λ e. (e ≡ Memory) ⊎ (F × (e ≡ WriteFailed)))
only_faults (Ok u) F h = tt
only_faults (Err e) F (inl h) = inr (h.1, h.0)
only_faults (Err e) F (inr h) = inl h

-- ## What a crash leaves meanwhile

-- a commit either leaves the disk, or nothing but this
pub left_by : {D : Type 0} (seen : D → Option (List ℕ)) (may_leave : D → List ℕ → Type 0) (failed : D → Bool) (moment : D → ℕ) (left_since : D → ℕ → List ℕ → Type 0) (whose : Entry) (all : List Step) (old : ℕ × D)
    (went : Result (Unit {0}) Fault) (new : ℕ × D) → Settles seen may_leave failed moment left_since whose all old went new → (new.1 ≡ old.1) ⊎ LeavesOnly moment left_since old.1 new.1 (HoldsOnly old.0 whose all)
left_by {D = D} seen may_leave failed moment left_since whose all old went new s = either (failed old.1) refl
  where
    either : (b : Bool) → failed old.1 ≡ b → (new.1 ≡ old.1) ⊎ LeavesOnly moment left_since old.1 new.1 (HoldsOnly old.0 whose all)
    either true is = inl (s.dead is).1
    either false is = inr (s.only is)

-- and so since before the first entry was noted, which left the disk
pub begun_left : {D : Type 0} (seen : D → Option (List ℕ)) (may_leave : D → List ℕ → Type 0) (failed : D → Bool) (moment : D → ℕ) (left_since : D → ℕ → List ℕ → Type 0) (whose : Entry) (old mid : Log D) (went : Result (Unit {0}) Fault)
    (new : StepLog D) → mid.disk ≡ old.disk → mid.secret ≡ old.secret → Settles seen may_leave failed moment left_since whose [] (mid.secret, mid.disk) went (kept_by new)
    → (new.log.disk ≡ old.disk) ⊎ LeavesOnly moment left_since old.disk new.log.disk (HoldsOnly old.secret whose [])
begun_left {D = D} seen may_leave failed moment left_since whose old mid went new disk secret s =
    subst (λ (t : ℕ). (new.log.disk ≡ old.disk) ⊎ LeavesOnly moment left_since old.disk new.log.disk (HoldsOnly t whose [])) secret
    (subst (λ (d : D). (new.log.disk ≡ d) ⊎ LeavesOnly moment left_since d new.log.disk (HoldsOnly mid.secret whose [])) disk (left_by seen may_leave failed moment left_since whose [] (mid.secret, mid.disk) went (kept_by new) s))

-- the log was recovered, and then perhaps begun
pub left_meanwhile : {D : Type 0} (moment : D → ℕ) (left_since : D → ℕ → List ℕ → Type 0) (disk mid new : D) (secret : ℕ) (whose : Entry) (bytes : List ℕ) → LeavesOnly moment left_since disk mid (IsAsBefore secret bytes)
    → (new ≡ mid) ⊎ ((recovered secret 0 0 bytes ≡ []) × LeavesOnly moment left_since mid new (HoldsOnly secret whose [])) → LeavesOnly moment left_since disk new (IsLeft secret whose bytes)
left_meanwhile {D = D} moment left_since disk mid new secret whose bytes first (inl same) =
    subst (λ (d : D). LeavesOnly moment left_since disk d (IsLeft secret whose bytes)) (sym same) (weaker moment left_since disk mid (IsAsBefore secret bytes) (IsLeft secret whose bytes) first (λ c h. inl h))
left_meanwhile moment left_since disk mid new secret whose bytes first (inr begun) =
    then_more moment left_since disk mid new (IsLeft secret whose bytes) (weaker moment left_since disk mid (IsAsBefore secret bytes) (IsLeft secret whose bytes) first (λ c h. inl h))
    (weaker moment left_since mid new (HoldsOnly secret whose []) (IsLeft secret whose bytes) begun.1 (λ c h. inr (begun.0, h)))

-- no entries are told by no records
pub no_records : (es : List Entry) (rs : List Record) → es ≡ [] → Tell es rs → rs ≡ []
no_records [] [] is t = refl
no_records [] (r ∷ rs) is t = absurd t
no_records (e ∷ es) rs is t = absurd cc

pub begun_of_none : (es : List Entry) (rs : List Record) (A B : Type 0) → Tell es rs → A ⊎ ((es ≡ []) × B) → A ⊎ ((rs ≡ []) × B)
begun_of_none es rs A B t (inl same) = inl same
begun_of_none es rs A B t (inr begun) = inr (no_records es rs begun.0 t, begun.1)

-- what a crash leaves of a file until its log is open
module _ {D : Type 0} (seen : D → Option (List ℕ)) (may_leave : D → List ℕ → Type 0) (failed : D → Bool) (moment : D → ℕ) (left_since : D → ℕ → List ℕ → Type 0) (secret : ℕ) (disk mid : D) (start : Log D) (l : StepLog D) (bytes : List ℕ)
    (records : List Record) (mine : Entry) (over : (start.disk ≡ mid) × (start.secret ≡ secret)) (first : LeavesOnly moment left_since disk mid (IsAsBefore secret bytes)) (same : records ≡ recovered secret 0 0 bytes)
    (then : (l.log.disk ≡ start.disk) ⊎ ((records ≡ []) × LeavesOnly moment left_since start.disk l.log.disk (HoldsOnly start.secret mine []))) where
  pub left_until : LeavesOnly moment left_since disk l.log.disk (IsLeft secret mine bytes)
  left_until =
      left_meanwhile moment left_since disk mid l.log.disk secret mine bytes first
      (subst (λ (rs : List Record). (l.log.disk ≡ mid) ⊎ ((rs ≡ []) × LeavesOnly moment left_since mid l.log.disk (HoldsOnly secret mine []))) same
      (subst (λ (n : ℕ). (l.log.disk ≡ mid) ⊎ ((records ≡ []) × LeavesOnly moment left_since mid l.log.disk (HoldsOnly n mine []))) over.1
      (subst (λ (d : D). (l.log.disk ≡ d) ⊎ ((records ≡ []) × LeavesOnly moment left_since d l.log.disk (HoldsOnly start.secret mine []))) over.0 then)))

  -- and then the site keeps it
  pub opened : (i : Identity) (site : SiteValue) → l.log.secret ≡ start.secret → IsSettled seen may_leave failed l.log.secret l.log.disk (whose_of i) (steps site.story) → (failed disk ≡ false → failed mid ≡ false)
      → (failed start.disk ≡ false → failed l.log.disk ≡ false) → IsOpened seen may_leave failed moment left_since secret disk (IsLeft secret mine bytes) (record { site = site; identity = i; log = Some l })
  opened i site kept settled works still =
      let is : l.log.secret ≡ secret = kept ∙ over.1 in
      record {
        now = l.log.disk;
        is = ap (λ (n : ℕ). Some (n, l.log.disk)) is;
        settled = subst (λ (n : ℕ). IsSettled seen may_leave failed n l.log.disk (whose_of i) (steps site.story)) is settled;
        any_moment = left_until;
        works = λ w. still (subst (λ (d : D). failed d ≡ false) (sym over.0) (works w));
      }

-- ## Why none comes back

-- why a log can't be recovered is why it isn't opened
pub unrecovered : (refuses : Refuses) (top : TopologyValue) (mine : Identity) (secret : ℕ) (bytes : List ℕ) (failed : Bool) (shown : Option (List ℕ)) (x : RecoveryError) → shown ≡ Some bytes → (x ≡ Disk Failed → failed ≡ true)
    → ((at : ℕ) → x ≡ Damaged at → IfSome shown (λ s. (at ≡ length (spelled secret 0 (recovered secret 0 0 s))) × (has_first secret (at + 1) (drop (at + 1) s) ≡ true))) → CantOpen refuses top mine secret bytes failed (Unrecovered x)
unrecovered refuses top mine secret bytes failed shown (Disk e) told fails damaged = λ is. fails (ap Disk is)
unrecovered refuses top mine secret bytes failed shown (Damaged at) told fails damaged =
    let h = from_some shown (λ s. (at ≡ length (spelled secret 0 (recovered secret 0 0 s))) × (has_first secret (at + 1) (drop (at + 1) s) ≡ true)) bytes told (damaged at refl) in
    (h.0, subst (λ (n : ℕ). has_first secret (n + 1) (drop (n + 1) bytes) ≡ true) h.0 h.1)

pub one_recovery : (x y : RecoveryError) → Unrecovered x ≡ Unrecovered y → x ≡ y
one_recovery x y is = cc
