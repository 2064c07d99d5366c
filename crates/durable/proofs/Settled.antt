-- What is on the disk for good, and what a crash leaves of it.
use Rattle.std.proofs.Common.{◌≡◌, ◌∙◌, ℕ, ◌≤◌, Bool, true, false, List, [], ◌++◌, Option, Some, ◌⊎◌, inl, inr, refl, ap, sym, subst, append-nil, append_assoc}
use Rattle.messages.specs.Topology.{TopologyValue}
use Rattle.world.specs.declared.run_event.RunEvent.{RunEvent}
use Rattle.disk.specs.Disk.{LeavesOnly}
use Rattle.records.specs.Records.{Entry as Record, spelled, recovered, AllFit}
use Rattle.records.proofs.Recovered.{recovered_spelled}
use Rattle.keeper.specs.declared.log.Log.{Log}
use Rattle.keeper.specs.Log.{IsKept, Stands, Survives, IsAsBefore}
use Rattle.keeper.proofs.Moments.{weaker}
use Rattle.ledger.specs.declared.entry.Entry.{Entry}
use Rattle.durable.specs.Playing.{IsLed, Outlives}
use Rattle.durable.specs.Logged.{Tell, IsLogged}
use Rattle.durable.specs.Settled.{Holds, HoldsOnly, IsSettled, Lasts, lasts_unwritten}

pub recovered_of : (secret : ℕ) (kept : List Record) → AllFit kept → recovered secret 0 0 (spelled secret 0 kept) ≡ kept
unfolding recovered
recovered_of secret kept fit =
    subst (λ (b : List ℕ). recovered secret 0 0 b ≡ kept) (append-nil (spelled secret 0 kept)) (recovered_spelled secret 0 kept [] fit ∙ append-nil kept)

-- a file of these records, the first of which tell entries that led there
holds_by : (top : TopologyValue) (secret : ℕ) (events : List RunEvent) (file : List ℕ) (h : Holds top secret events file) (new : List ℕ) (more : List Record) → recovered secret 0 0 new ≡ recovered secret 0 0 file ++ more → Holds top secret events new
holds_by top secret events file h new more is = record {
  entries = h.entries;
  led = h.led;
  kept = h.kept;
  tell = h.tell;
  more = h.more ++ more;
  records = is ∙ ap (λ (rs : List Record). rs ++ more) h.records ∙ append_assoc h.kept h.more more;
}

pub holds_still : (top : TopologyValue) (secret : ℕ) (events : List RunEvent) (file : List ℕ) → Holds top secret events file → (new : List ℕ) → recovered secret 0 0 new ≡ recovered secret 0 0 file → Holds top secret events new
holds_still top secret events file h new is = holds_by top secret events file h new [] (is ∙ sym (append-nil (recovered secret 0 0 file)))

some_is : {X : Type 0} {a b : X} → Some a ≡ Some b → a ≡ b
some_is h = cc

pub not_true : (b : Bool) → (b ≡ true → ⊥) → b ≡ false
not_true true h = absurd (h refl)
not_true false h = refl

true_false : {b : Bool} → b ≡ true → b ≡ false → ⊥
true_false p q = cc

-- what a commit may leave holds nothing that wasn't noted
pub survives_only : (top : TopologyValue) (secret : ℕ) (events : List RunEvent) (kept noted : List Record) (es : List Entry) → Tell es (kept ++ noted) → IsLed top events es → (c : List ℕ) → Survives secret kept noted c → HoldsOnly top secret events c
survives_only top secret events kept noted es t led c v =
    record {
      entries = es;
      led = led;
      written = kept ++ noted;
      tell = t;
      found = λ honest.
          let some = v.some honest in (
            (some.0, ap (λ (l : List Record). kept ++ l) some.1 ∙ sym (append_assoc kept v.more some.0) ∙ ap (λ (l : List Record). l ++ some.0) (sym v.all)),
            v.undamaged honest,
          );
    }

module _ {D : Type 0} (seen : D → Option (List ℕ)) (may_leave : D → List ℕ → Type 0) (failed : D → Bool) where
  -- records that are kept for good, and tell entries that led there
  pub settled_at : (top : TopologyValue) (secret end : ℕ) (disk : D) (events : List RunEvent) (kept : List Record) (es : List Entry) → IsKept seen may_leave disk secret end kept → Tell es kept → IsLed top events es
      → IsSettled seen may_leave failed top secret disk events
  settled_at top secret end disk events kept es k t led =
      let h : Holds top secret events (spelled secret 0 kept) = record { entries = es; led = led; kept = kept; tell = t; more = []; records = recovered_of secret kept k.fit ∙ sym (append-nil kept) } in
      record {
        crash = λ c left. subst (λ (f : List ℕ). Holds top secret events f) (sym (k.durable c left)) h;
        shown = λ works. (spelled secret 0 kept, k.file, k.durable, h);
      }

  pub logged_at : (top : TopologyValue) (log : Log D) (events : List RunEvent) (kept : List Record) (es : List Entry) → Stands seen may_leave log kept [] → Tell es kept → IsLed top events es → IsLogged seen may_leave top log events
  logged_at top log events kept es s t led =
      record {
        entries = es;
        notes = record { kept = kept; noted = []; stands = s; tell = subst (λ (rs : List Record). Tell es rs) (sym (append-nil kept)) t };
        led = led;
      }

  module _ (moment : D → ℕ) (left_since : D → ℕ → List ℕ → Type 0) (only_now : (d : D) (c : List ℕ) → left_since d (moment d) c → may_leave d c)
      (counts_now : (d : D) (t : ℕ) (c : List ℕ) → t ≤ moment d → may_leave d c → left_since d t c) (old new : Log D) (secret : new.secret ≡ old.secret) where
    unwritten : new ≡ old → Lasts seen may_leave failed moment left_since (old.secret, old.disk) (new.secret, new.disk)
    unwritten same = subst (λ (n : Log D). Lasts seen may_leave failed moment left_since (old.secret, old.disk) (n.secret, n.disk)) (sym same) (lasts_unwritten seen may_leave failed moment left_since only_now (old.secret, old.disk))

    module _ (top : TopologyValue) (events : List RunEvent) (kept noted : List Record) (s : Stands seen may_leave old kept noted) (works : failed old.disk ≡ false) (h : IsSettled seen may_leave failed top old.secret old.disk events)
        (any_moment : LeavesOnly moment left_since old.disk new.disk (Survives old.secret kept noted)) where
      -- what was settled before is held by what the disk shows
      shown_holds : Holds top old.secret events (spelled old.secret 0 kept)
      shown_holds = let f = h.shown works in subst (λ (z : List ℕ). Holds top old.secret events z) (some_is (sym f.1 ∙ s.is_kept.file)) f.3

      leaves : LeavesOnly moment left_since old.disk new.disk (Holds top old.secret events)
      leaves =
          weaker moment left_since old.disk new.disk (Survives old.secret kept noted) (Holds top old.secret events) any_moment
          (λ c v. holds_by top old.secret events (spelled old.secret 0 kept) shown_holds c v.more (v.all ∙ ap (λ (rs : List Record). rs ++ v.more) (sym (recovered_of old.secret kept s.is_kept.fit))))

      crashes : (c : List ℕ) → may_leave new.disk c → Holds top new.secret events c
      crashes c left = subst (λ (x : ℕ). Holds top x events c) (sym secret) (leaves.each c (counts_now new.disk (moment old.disk) c leaves.later left))

      committed_holds : Stands seen may_leave new (kept ++ noted) [] → Holds top new.secret events (spelled new.secret 0 (kept ++ noted))
      committed_holds n =
          subst (λ (x : ℕ). Holds top x events (spelled new.secret 0 (kept ++ noted))) (sym secret)
          (holds_by top old.secret events (spelled old.secret 0 kept) shown_holds (spelled new.secret 0 (kept ++ noted)) noted
          (subst (λ (x : ℕ). recovered x 0 0 (spelled new.secret 0 (kept ++ noted)) ≡ kept ++ noted) secret (recovered_of new.secret (kept ++ noted) n.is_kept.fit) ∙ ap (λ (rs : List Record). rs ++ noted) (sym (recovered_of old.secret kept s.is_kept.fit))))

      committed : Stands seen may_leave new (kept ++ noted) [] → LeavesOnly moment left_since old.disk new.disk (Holds top old.secret events) × IsSettled seen may_leave failed top new.secret new.disk events
      committed n = (leaves, record { crash = crashes; shown = λ w. (spelled new.secret 0 (kept ++ noted), n.is_kept.file, n.is_kept.durable, committed_holds n) })

      lost : failed new.disk ≡ true → LeavesOnly moment left_since old.disk new.disk (Holds top old.secret events) × IsSettled seen may_leave failed top new.secret new.disk events
      lost fails = (leaves, record { crash = crashes; shown = λ w. absurd (true_false fails w) })

    module _ (now : TopologyValue) (happened : List RunEvent) (logged : failed old.disk ≡ false → IsLogged seen may_leave now old happened)
        (any_moment : (kept : List Record) (noted : List Record) → Stands seen may_leave old kept noted → LeavesOnly moment left_since old.disk new.disk (Survives old.secret kept noted)) where
      pub only_noted : failed old.disk ≡ false → LeavesOnly moment left_since old.disk new.disk (HoldsOnly now old.secret happened)
      only_noted works =
          let l = logged works in
          let n = l.notes in
          weaker moment left_since old.disk new.disk (Survives old.secret n.kept n.noted) (HoldsOnly now old.secret happened) (any_moment n.kept n.noted n.stands) (survives_only now old.secret happened n.kept n.noted l.entries n.tell l.led)

      -- a commit that went well
      module _ (works : failed old.disk ≡ false) (settled : (kept : List Record) (noted : List Record) → Stands seen may_leave old kept noted → Stands seen may_leave new (kept ++ noted) []) where
        pub lasts_committed : Lasts seen may_leave failed moment left_since (old.secret, old.disk) (new.secret, new.disk)
        lasts_committed = (
          secret,
          λ top events h.
              let n = (logged works).notes in
              committed top events n.kept n.noted n.stands works h (any_moment n.kept n.noted n.stands) (settled n.kept n.noted n.stands),
        )

        pub settled_committed : IsSettled seen may_leave failed now new.secret new.disk happened
        settled_committed =
            let l = logged works in
            let n = l.notes in
            settled_at now new.secret new.end new.disk happened (n.kept ++ n.noted) l.entries (settled n.kept n.noted n.stands).is_kept n.tell l.led

        pub logged_committed : IsLogged seen may_leave now new happened
        logged_committed =
            let l = logged works in
            let n = l.notes in
            logged_at now new happened (n.kept ++ n.noted) l.entries (settled n.kept n.noted n.stands) n.tell l.led

      -- and one that was refused
      pub lasts_refused : (failed old.disk ≡ true → new ≡ old) → (failed new.disk ≡ true) ⊎ (new ≡ old) → Lasts seen may_leave failed moment left_since (old.secret, old.disk) (new.secret, new.disk)
      lasts_refused dead (inr same) = unwritten same
      lasts_refused dead (inl fails) = either (failed old.disk) refl
        where
          either : (b : Bool) → failed old.disk ≡ b → Lasts seen may_leave failed moment left_since (old.secret, old.disk) (new.secret, new.disk)
          either true is = unwritten (dead is)
          either false is = (secret, λ top events h. let n = (logged is).notes in lost top events n.kept n.noted n.stands is h (any_moment n.kept n.noted n.stands) fails)

      pub logged_refused : (failed new.disk ≡ true) ⊎ (new ≡ old) → failed new.disk ≡ false → IsLogged seen may_leave now new happened
      logged_refused (inl fails) w = absurd (true_false fails w)
      logged_refused (inr same) w =
          let was : failed old.disk ≡ false = subst (λ (n : Log D). failed n.disk ≡ false) same w in
          subst (λ (n : Log D). IsLogged seen may_leave now n happened) (sym same) (logged was)

-- ## What comes back

-- what a file held came back
pub came_back : ((kept : List Record) (more : List Record) (es : List Entry) (found : List Entry) → Tell es kept → Tell found (kept ++ more) → (rest : List Entry) × (found ≡ es ++ rest))
    → (top : TopologyValue) (secret : ℕ) (before after : List RunEvent) (file : List ℕ) (es : List Entry) → Holds top secret before file → Tell es (recovered secret 0 0 file)
    → ((before : List RunEvent) (first more : List Entry) → es ≡ first ++ more → IsLed top before first → Outlives top before after) → Outlives top before after
came_back law top secret before after file es h t outlive =
    let rest = law h.kept h.more h.entries es h.tell (subst (λ (rs : List Record). Tell es rs) h.records t) in
    outlive before h.entries rest.0 rest.1 h.led

pub leaves_as_before : {D : Type 0} (moment : D → ℕ) (left_since : D → ℕ → List ℕ → Type 0) (old new : D) (top : TopologyValue) (secret : ℕ) (before : List RunEvent) (file : List ℕ) → LeavesOnly moment left_since old new (IsAsBefore secret file)
    → Holds top secret before file → LeavesOnly moment left_since old new (Holds top secret before)
leaves_as_before moment left_since old new top secret before file l h =
    weaker moment left_since old new (IsAsBefore secret file) (Holds top secret before) l (λ c same. holds_still top secret before file h c same.records)
