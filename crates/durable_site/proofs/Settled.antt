-- What is on the disk for good, and what a crash leaves of it.
use Rattle.std.proofs.Common.{◌≡◌, ◌∙◌, ℕ, ◌≤◌, Bool, true, false, List, [], ◌++◌, Option, Some, Ok, Err, ◌⊎◌, inl, inr, refl, ap, sym, subst, append-nil, append_assoc}
use Rattle.logical_time.specs.declared.fault.Fault.{Fault}
use Rattle.logical_time.specs.declared.fault.Fault.TheVariants.{Memory, WriteFailed}
use Rattle.disk.specs.Disk.{IsBeginning, LeavesOnly}
use Rattle.records.specs.Records.{Entry as Record, spelled, recovered, AllFit}
use Rattle.records.proofs.Recovered.{recovered_spelled}
use Rattle.keeper.specs.declared.log.Log.{Log}
use Rattle.keeper.specs.Log.{IsKept, Stands, Survives}
use Rattle.keeper.proofs.Logs.{survives}
use Rattle.keeper.proofs.Moments.{started, weaker, itself}
use Rattle.site.specs.Steps.{Step}
use Rattle.site_ledger.specs.declared.entry.Entry.{Entry}
use Rattle.durable_site.specs.Logged.{Tell, TellSteps}
use Rattle.durable_site.specs.Settled.{Holds, HoldsOnly, IsSettled, Lasts, Settles}
use Rattle.durable_site.proofs.Logs.{Told}

pub recovered_of : (secret : ℕ) (kept : List Record) → AllFit kept → recovered secret 0 0 (spelled secret 0 kept) ≡ kept
unfolding recovered
recovered_of secret kept fit =
    subst (λ (b : List ℕ). recovered secret 0 0 b ≡ kept) (append-nil (spelled secret 0 kept)) (recovered_spelled secret 0 kept [] fit ∙ append-nil kept)

-- a file of these records, the first of which tell entries that led there
holds_by : (secret : ℕ) (whose : Entry) (all : List Step) (file : List ℕ) (h : Holds secret whose all file) (new : List ℕ) (more : List Record) → recovered secret 0 0 new ≡ recovered secret 0 0 file ++ more → Holds secret whose all new
holds_by secret whose all file h new more is = record {
  entries = h.entries;
  steps = h.steps;
  kept = h.kept;
  tell = h.tell;
  more = h.more ++ more;
  records = is ∙ ap (λ (rs : List Record). rs ++ more) h.records ∙ append_assoc h.kept h.more more;
}

some_is : {X : Type 0} {a b : X} → Some a ≡ Some b → a ≡ b
some_is h = cc

err_ok : {T E : Type 0} {x : T} {e : E} → Err e ≡ Ok x → ⊥
err_ok h = cc

pub not_true : (b : Bool) → (b ≡ true → ⊥) → b ≡ false
not_true true h = absurd (h refl)
not_true false h = refl

true_false : {b : Bool} → b ≡ true → b ≡ false → ⊥
true_false p q = cc

-- of fewer steps, of more
fewer : (secret : ℕ) (whose : Entry) (done all : List Step) (c : List ℕ) → IsBeginning done all → HoldsOnly secret whose done c → HoldsOnly secret whose all c
fewer secret whose done all c begins h = record {
  done = h.done;
  begins = (h.begins.0 ++ begins.0, begins.1 ∙ ap (λ (l : List Step). l ++ begins.0) h.begins.1 ∙ append_assoc h.done h.begins.0 begins.0);
  entries = h.entries;
  steps = h.steps;
  written = h.written;
  tell = h.tell;
  found = h.found;
}

-- what a commit may leave holds nothing that wasn't noted
pub survives_only : (secret : ℕ) (whose : Entry) (all : List Step) (kept noted : List Record) (es : List Entry) → Tell es (kept ++ noted) → TellSteps whose all es → (c : List ℕ) → Survives secret kept noted c → HoldsOnly secret whose all c
survives_only secret whose all kept noted es t led c v =
    record {
      done = all;
      begins = ([], sym (append-nil all));
      entries = es;
      steps = led;
      written = kept ++ noted;
      tell = t;
      found = λ honest.
          let some = v.some honest in (
            (some.0, ap (λ (l : List Record). kept ++ l) some.1 ∙ sym (append_assoc kept v.more some.0) ∙ ap (λ (l : List Record). l ++ some.0) (sym v.all)),
            v.undamaged honest,
          );
    }

module _ {D : Type 0} (seen : D → Option (List ℕ)) (may_leave : D → List ℕ → Type 0) (failed : D → Bool) where
  -- records that are kept for good, and tell entries that led there
  pub settled_at : (secret end : ℕ) (disk : D) (whose : Entry) (all : List Step) (kept : List Record) (es : List Entry) → IsKept seen may_leave disk secret end kept → Tell es kept → TellSteps whose all es
      → IsSettled seen may_leave failed secret disk whose all
  settled_at secret end disk whose all kept es k t led =
      let h : Holds secret whose all (spelled secret 0 kept) = record { entries = es; steps = led; kept = kept; tell = t; more = []; records = recovered_of secret kept k.fit ∙ sym (append-nil kept) } in
      record {
        crash = λ c left. subst (λ (f : List ℕ). Holds secret whose all f) (sym (k.durable c left)) h;
        shown = λ works. (spelled secret 0 kept, k.file, k.durable, h);
      }

  module _ (moment : D → ℕ) (left_since : D → ℕ → List ℕ → Type 0) (only_now : (d : D) (c : List ℕ) → left_since d (moment d) c → may_leave d c) where
    -- where nothing is written, a crash leaves what was settled
    pub lasts_unwritten : (k : ℕ × D) → Lasts seen may_leave failed moment left_since k k
    lasts_unwritten k = (refl, λ whose all s. (started moment left_since k.1 (Holds k.0 whose all) (λ c left. s.crash c (only_now k.1 c left)), s))

    -- and nothing else than what was noted
    only_unwritten : (log : Log D) (whose : Entry) (done all : List Step) → IsBeginning done all → Told seen may_leave log whose done → LeavesOnly moment left_since log.disk log.disk (HoldsOnly log.secret whose all)
    only_unwritten log whose done all begins t =
        let n = t.1 in
        let s = n.stands in
        started moment left_since log.disk (HoldsOnly log.secret whose all)
        (λ c left. fewer log.secret whose done all c begins
        (survives_only log.secret whose done n.kept n.noted t.0 n.tell t.2 c
        (survives log.secret n.kept n.noted c s.is_kept.fit s.fit s.front (itself (spelled log.secret 0 n.kept) c (s.is_kept.durable c (only_now log.disk c left))))))

    -- it is refused for memory before the disk is asked
    pub settles_unwritten : (log : Log D) (whose : Entry) (all : List Step) → (failed log.disk ≡ false → (done : List Step) × IsBeginning done all × Told seen may_leave log whose done)
        → Settles seen may_leave failed moment left_since whose all (log.secret, log.disk) (Err Memory) (log.secret, log.disk)
    settles_unwritten log whose all t = record {
      lasts = lasts_unwritten (log.secret, log.disk);
      only = λ works. let h = t works in only_unwritten log whose h.0 all h.1 h.2;
      settled = λ ok. absurd (err_ok ok);
      works = λ ok. absurd (err_ok ok);
      dead = λ dead. (refl, refl);
      refused = inr refl;
    }

    module _ (counts_now : (d : D) (t : ℕ) (c : List ℕ) → t ≤ moment d → may_leave d c → left_since d t c) (old new : Log D) (secret : new.secret ≡ old.secret) where
      unwritten : new ≡ old → Lasts seen may_leave failed moment left_since (old.secret, old.disk) (new.secret, new.disk)
      unwritten same = subst (λ (n : Log D). Lasts seen may_leave failed moment left_since (old.secret, old.disk) (n.secret, n.disk)) (sym same) (lasts_unwritten (old.secret, old.disk))

      module _ (whose : Entry) (all : List Step) (kept noted : List Record) (s : Stands seen may_leave old kept noted) (works : failed old.disk ≡ false) (h : IsSettled seen may_leave failed old.secret old.disk whose all)
          (any_moment : LeavesOnly moment left_since old.disk new.disk (Survives old.secret kept noted)) where
        -- what was settled before is held by what the disk shows
        shown_holds : Holds old.secret whose all (spelled old.secret 0 kept)
        shown_holds = let f = h.shown works in subst (λ (z : List ℕ). Holds old.secret whose all z) (some_is (sym f.1 ∙ s.is_kept.file)) f.3

        leaves : LeavesOnly moment left_since old.disk new.disk (Holds old.secret whose all)
        leaves =
            weaker moment left_since old.disk new.disk (Survives old.secret kept noted) (Holds old.secret whose all) any_moment
            (λ c v. holds_by old.secret whose all (spelled old.secret 0 kept) shown_holds c v.more (v.all ∙ ap (λ (rs : List Record). rs ++ v.more) (sym (recovered_of old.secret kept s.is_kept.fit))))

        crashes : (c : List ℕ) → may_leave new.disk c → Holds new.secret whose all c
        crashes c left = subst (λ (x : ℕ). Holds x whose all c) (sym secret) (leaves.each c (counts_now new.disk (moment old.disk) c leaves.later left))

        committed_holds : Stands seen may_leave new (kept ++ noted) [] → Holds new.secret whose all (spelled new.secret 0 (kept ++ noted))
        committed_holds n =
            subst (λ (x : ℕ). Holds x whose all (spelled new.secret 0 (kept ++ noted))) (sym secret)
            (holds_by old.secret whose all (spelled old.secret 0 kept) shown_holds (spelled new.secret 0 (kept ++ noted)) noted
            (subst (λ (x : ℕ). recovered x 0 0 (spelled new.secret 0 (kept ++ noted)) ≡ kept ++ noted) secret (recovered_of new.secret (kept ++ noted) n.is_kept.fit) ∙ ap (λ (rs : List Record). rs ++ noted) (sym (recovered_of old.secret kept s.is_kept.fit))))

        committed : Stands seen may_leave new (kept ++ noted) [] → LeavesOnly moment left_since old.disk new.disk (Holds old.secret whose all) × IsSettled seen may_leave failed new.secret new.disk whose all
        committed n = (leaves, record { crash = crashes; shown = λ w. (spelled new.secret 0 (kept ++ noted), n.is_kept.file, n.is_kept.durable, committed_holds n) })

        lost : failed new.disk ≡ true → LeavesOnly moment left_since old.disk new.disk (Holds old.secret whose all) × IsSettled seen may_leave failed new.secret new.disk whose all
        lost fails = (leaves, record { crash = crashes; shown = λ w. absurd (true_false fails w) })

      module _ (own : Entry) (done : List Step) (logged : failed old.disk ≡ false → Told seen may_leave old own done)
          (any_moment : (kept : List Record) (noted : List Record) → Stands seen may_leave old kept noted → LeavesOnly moment left_since old.disk new.disk (Survives old.secret kept noted)) where
        only_noted : failed old.disk ≡ false → LeavesOnly moment left_since old.disk new.disk (HoldsOnly old.secret own done)
        only_noted works =
            let t = logged works in
            let n = t.1 in
            weaker moment left_since old.disk new.disk (Survives old.secret n.kept n.noted) (HoldsOnly old.secret own done) (any_moment n.kept n.noted n.stands) (survives_only old.secret own done n.kept n.noted t.0 n.tell t.2)

        -- a commit that went well
        module _ (works : failed old.disk ≡ false) (settled : (kept : List Record) (noted : List Record) → Stands seen may_leave old kept noted → Stands seen may_leave new (kept ++ noted) []) where
          lasts_committed : Lasts seen may_leave failed moment left_since (old.secret, old.disk) (new.secret, new.disk)
          lasts_committed = (
            secret,
            λ whose all h.
                let n = (logged works).1 in
                committed whose all n.kept n.noted n.stands works h (any_moment n.kept n.noted n.stands) (settled n.kept n.noted n.stands),
          )

          settled_committed : IsSettled seen may_leave failed new.secret new.disk own done
          settled_committed =
              let t = logged works in
              let n = t.1 in
              settled_at new.secret new.end new.disk own done (n.kept ++ n.noted) t.0 (settled n.kept n.noted n.stands).is_kept n.tell t.2

          pub settles_committed : failed new.disk ≡ false → Settles seen may_leave failed moment left_since own done (old.secret, old.disk) (Ok tt) (new.secret, new.disk)
          settles_committed still = record {
            lasts = lasts_committed;
            only = only_noted;
            settled = λ ok. settled_committed;
            works = λ ok. still;
            dead = λ dead. absurd (true_false dead works);
            refused = tt;
          }

        -- and one that was refused
        lasts_refused : (failed old.disk ≡ true → new ≡ old) → (failed new.disk ≡ true) ⊎ (new ≡ old) → Lasts seen may_leave failed moment left_since (old.secret, old.disk) (new.secret, new.disk)
        lasts_refused dead (inr same) = unwritten same
        lasts_refused dead (inl fails) = either (failed old.disk) refl
          where
            either : (b : Bool) → failed old.disk ≡ b → Lasts seen may_leave failed moment left_since (old.secret, old.disk) (new.secret, new.disk)
            either true is = unwritten (dead is)
            either false is = (secret, λ whose all h. let n = (logged is).1 in lost whose all n.kept n.noted n.stands is h (any_moment n.kept n.noted n.stands) fails)

        pub settles_refused : (e : Fault) → ((e ≡ WriteFailed) × (failed new.disk ≡ true)) ⊎ (e ≡ Memory) → (failed old.disk ≡ true → new ≡ old) → (failed new.disk ≡ true) ⊎ (new ≡ old)
            → Settles seen may_leave failed moment left_since own done (old.secret, old.disk) (Err e) (new.secret, new.disk)
        settles_refused e why dead after = record {
          lasts = lasts_refused dead after;
          only = only_noted;
          settled = λ ok. absurd (err_ok ok);
          works = λ ok. absurd (err_ok ok);
          dead = λ is. (refl, ap (λ (n : Log D). n.disk) (dead is));
          refused = why;
        }
