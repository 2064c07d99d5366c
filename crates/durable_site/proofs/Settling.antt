-- A log of steps settles: what was noted of its turns, and then a commit.
use Rattle.std.proofs.Common.{◌≡◌, ℕ, ◌≤◌, Bool, true, false, List, [], ◌++◌, Option, Result, Ok, Err, ◌⊎◌, sym, subst}
use Rattle.std.specs.Prelude.{replicate}
use Rattle.logical_time.specs.declared.fault.Fault.{Fault}
use Rattle.logical_time.specs.declared.fault.Fault.TheVariants.{Memory, WriteFailed}
use Rattle.disk.specs.Disk.{LeavesOnly}
use Rattle.records.specs.Records.{Entry as Record}
use Rattle.keeper.specs.declared.log.Log.{Log}
use Rattle.keeper.specs.Log.{Stands, Survives}
use Rattle.site.specs.Steps.{Step, Turned}
use Rattle.site_ledger.specs.declared.entry.Entry.{Entry}
use Rattle.durable_site.specs.declared.step_log.StepLog.{StepLog}
use Rattle.durable_site.specs.Logged.{IsLogged}
use Rattle.durable_site.specs.Settled.{Settles, kept_by}
use Rattle.durable_site.proofs.Logs.{Told, all_noted}
use Rattle.durable_site.proofs.Settled.{settles_unwritten, settles_committed, settles_refused}

module _ {D : Type 0} (seen : D → Option (List ℕ)) (may_leave : D → List ℕ → Type 0) (failed : D → Bool) (moment : D → ℕ) (left_since : D → ℕ → List ℕ → Type 0)
    (only_now : (d : D) (c : List ℕ) → left_since d (moment d) c → may_leave d c) (counts_now : (d : D) (t : ℕ) (c : List ℕ) → t ≤ moment d → may_leave d c → left_since d t c) (whose : Entry) (all : List Step) where
  same_kept : (old new : StepLog D) → new.log.disk ≡ old.log.disk → new.log.secret ≡ old.log.secret → kept_by new ≡ kept_by old
  same_kept old new disk secret = pair new.log.secret old.log.secret new.log.disk old.log.disk secret disk
    where
      pair : (s t : ℕ) (d e : D) → s ≡ t → d ≡ e → ◌≡◌ {A = ℕ × D} (s, d) (t, e)
      pair s t d e p q = cc

  -- there was no memory for the turns
  pub unnoted : (old new : StepLog D) (went : Result (Unit {0}) Fault) (e : Fault) → went ≡ Err e → e ≡ Memory → new.log.disk ≡ old.log.disk → new.log.secret ≡ old.log.secret → (failed old.log.disk ≡ false → IsLogged seen may_leave whose old all)
      → Settles seen may_leave failed moment left_since whose all (kept_by old) went (kept_by new)
  unnoted old new went e is memory disk secret logged =
      subst (λ (w : Result (Unit {0}) Fault). Settles seen may_leave failed moment left_since whose all (kept_by old) w (kept_by new)) (sym is)
      (subst (λ (k : ℕ × D). Settles seen may_leave failed moment left_since whose all (kept_by old) (Err e) k) (sym (same_kept old new disk secret))
      (subst (λ (x : Fault). Settles seen may_leave failed moment left_since whose all (kept_by old) (Err x) (kept_by old)) (sym memory)
      (settles_unwritten seen may_leave failed moment left_since only_now old.log whose all (λ works. let l = logged works in (l.done, (replicate old.turned Turned, l.turns), (l.entries, l.notes, l.steps))))))

  -- there was, and the log was committed
  module _ (old mid : StepLog D) (new : Log D) (none : mid.turned ≡ 0) (disk : mid.log.disk ≡ old.log.disk) (secret : mid.log.secret ≡ old.log.secret) (kept : new.secret ≡ mid.log.secret)
      (noted : IsLogged seen may_leave whose old all → IsLogged seen may_leave whose mid all) (logged : failed old.log.disk ≡ false → IsLogged seen may_leave whose old all)
      (any_moment : (kept : List Record) (noted : List Record) → Stands seen may_leave mid.log kept noted → LeavesOnly moment left_since mid.log.disk new.disk (Survives mid.log.secret kept noted)) where
    told : failed mid.log.disk ≡ false → Told seen may_leave mid.log whose all
    told works = all_noted seen may_leave whose mid all none (noted (logged (subst (λ (d : D). failed d ≡ false) disk works)))

    module _ (works : failed mid.log.disk ≡ false) (settled : (kept : List Record) (noted : List Record) → Stands seen may_leave mid.log kept noted → Stands seen may_leave new (kept ++ noted) []) where
      pub settles_well : failed new.disk ≡ false → Settles seen may_leave failed moment left_since whose all (kept_by old) (Ok tt) (new.secret, new.disk)
      settles_well still =
          subst (λ (k : ℕ × D). Settles seen may_leave failed moment left_since whose all k (Ok tt) (new.secret, new.disk)) (same_kept old mid disk secret)
          (settles_committed seen may_leave failed moment left_since only_now counts_now mid.log new kept whose all told any_moment works settled still)

    pub settles_badly : (e : Fault) → ((e ≡ WriteFailed) × (failed new.disk ≡ true)) ⊎ (e ≡ Memory) → (failed mid.log.disk ≡ true → new ≡ mid.log) → (failed new.disk ≡ true) ⊎ (new ≡ mid.log)
        → Settles seen may_leave failed moment left_since whose all (kept_by old) (Err e) (new.secret, new.disk)
    settles_badly e why dead after =
        subst (λ (k : ℕ × D). Settles seen may_leave failed moment left_since whose all k (Err e) (new.secret, new.disk)) (same_kept old mid disk secret)
        (settles_refused seen may_leave failed moment left_since only_now counts_now mid.log new kept whose all told any_moment e why dead after)
