-- What a log tells, as records are noted, taken back and kept.
use Rattle.std.proofs.Common.{ℕ, zero, suc, List, [], ◌∷◌, ◌++◌, ◌+◌, Option, subst, append_assoc, append-nil, ◌≡◌, ◌∙◌, refl, ap, sym}
use Rattle.std.specs.Prelude.{replicate}
use Rattle.records.specs.Records.{Entry as Record}
use Rattle.keeper.specs.declared.log.Log.{Log}
use Rattle.keeper.specs.Log.{Stands, IsMark, next}
use Rattle.site.specs.Steps.{Step, Turned}
use Rattle.site_ledger.specs.declared.entry.Entry.{Entry}
use Rattle.site_ledger.specs.declared.entry.Entry.TheVariants as entry
use Rattle.site_ledger.specs.Entries.{IsTextOf, IsNumbered}
use Rattle.site_ledger.specs.Steps.{steps_of}
use Rattle.durable_site.specs.declared.step_log.StepLog.{StepLog}
use Rattle.durable_site.specs.Logged.{Tell, Notes, NotesLast, TellSteps, IsLogged, turns_noted}
use Rattle.durable_site.proofs.Steps.{tells_more, turned_more}

-- one more entry, told by one more record
pub tell_more : (es : List Entry) (rs : List Record) (e : Entry) (r : Record) → Tell es rs → IsNumbered e → IsTextOf e r.body → Tell (es ++ e ∷ []) (rs ++ r ∷ [])
tell_more [] [] e r t n is = (n, is, tt)
tell_more [] (s ∷ rs) e r t n is = absurd t
tell_more (d ∷ es) [] e r t n is = absurd t
tell_more (d ∷ es) (s ∷ rs) e r t n is = (t.0, t.1, tell_more es rs e r t.2 n is)

-- what the kept records tell comes first in what they and more tell, as a text is of one entry
module _ (one_entry : (a b : Entry) (text : List ℕ) → IsNumbered a → IsNumbered b → IsTextOf a text → IsTextOf b text → a ≡ b) where
  pub kept_first : (kept : List Record) (more : List Record) (es : List Entry) (found : List Entry) → Tell es kept → Tell found (kept ++ more) → (rest : List Entry) × (found ≡ es ++ rest)
  kept_first [] more [] found t u = (found, refl)
  kept_first [] more (e ∷ es) found t u = absurd t
  kept_first (r ∷ kept) more [] found t u = absurd t
  kept_first (r ∷ kept) more (e ∷ es) [] t u = absurd u
  kept_first (r ∷ kept) more (e ∷ es) (d ∷ found) t u =
      let same : d ≡ e = one_entry d e r.body u.0 t.0 u.1 t.1 in
      let after = kept_first kept more es found t.2 u.2 in
      (after.0, ap (λ (z : Entry). z ∷ found) same ∙ ap (λ (l : List Entry). e ∷ l) after.1)

-- the log says whose it is and tells these steps
abbrev pub Told : {D : Type 0} → (D → Option (List ℕ)) → (D → List ℕ → Type 0) → Log D → Entry → List Step → Type 0
Told seen may_leave log whose all = (entries : List Entry) × Notes seen may_leave log entries × TellSteps whose all entries

module _ {D : Type 0} (seen : D → Option (List ℕ)) (may_leave : D → List ℕ → Type 0) where
  -- after a note
  pub noted_last : (old new : Log D) (mark : ℕ) (text : List ℕ) → ((kept : List Record) (noted : List Record) → Stands seen may_leave old kept noted → Stands seen may_leave new kept (noted ++ next noted text ∷ []))
      → ((kept : List Record) (noted : List Record) → Stands seen may_leave old kept noted → IsMark new mark noted)
      → (es : List Entry) (e : Entry) → Notes seen may_leave old es → IsNumbered e → IsTextOf e text → NotesLast seen may_leave new mark es e
  noted_last old new mark text stands marks es e n numbered is = record {
    kept = n.kept;
    noted = n.noted;
    last = next n.noted text;
    stands = stands n.kept n.noted n.stands;
    mark_is = marks n.kept n.noted n.stands;
    tell = n.tell;
    numbered = numbered;
    told = is;
  }

  pub noted_still : (old new : Log D) → ((kept : List Record) (noted : List Record) → Stands seen may_leave old kept noted → Stands seen may_leave new kept noted)
      → (es : List Entry) → Notes seen may_leave old es → Notes seen may_leave new es
  noted_still old new stands es n = record { kept = n.kept; noted = n.noted; stands = stands n.kept n.noted n.stands; tell = n.tell }

  -- it is noted too
  pub notes_too : (log : Log D) (mark : ℕ) (es : List Entry) (e : Entry) → NotesLast seen may_leave log mark es e → Notes seen may_leave log (es ++ e ∷ [])
  notes_too log mark es e n = record {
    kept = n.kept;
    noted = n.noted ++ n.last ∷ [];
    stands = n.stands;
    tell = subst (λ (rs : List Record). Tell (es ++ e ∷ []) rs) (append_assoc n.kept n.noted (n.last ∷ [])) (tell_more es (n.kept ++ n.noted) e n.last n.tell n.numbered n.told);
  }

  -- so are some turns
  pub turns_told : (log : Log D) (mark : ℕ) (es : List Entry) (n : ℕ) → (n ≡ 0 → ⊥) → NotesLast seen may_leave log mark es (entry.Turned n) → Notes seen may_leave log (es ++ turns_noted n)
  turns_told log mark es zero some n = absurd (some refl)
  turns_told log mark es (suc n) some last = notes_too log mark es (entry.Turned (suc n)) last

  -- behind them
  pub notes_behind : (log : Log D) (mark : ℕ) (es turns : List Entry) (e : Entry) → NotesLast seen may_leave log mark (es ++ turns) e → Notes seen may_leave log (es ++ (turns ++ e ∷ []))
  notes_behind log mark es turns e n = subst (λ (l : List Entry). Notes seen may_leave log l) (append_assoc es turns (e ∷ [])) (notes_too log mark (es ++ turns) e n)

  -- or it is taken back
  pub taken_back : (old new : Log D) (mark : ℕ) → ((kept : List Record) (noted : List Record) (back : List Record) → IsMark old mark noted → Stands seen may_leave old kept (noted ++ back) → Stands seen may_leave new kept noted)
      → (es : List Entry) (e : Entry) → NotesLast seen may_leave old mark es e → Notes seen may_leave new es
  taken_back old new mark back es e n = record { kept = n.kept; noted = n.noted; stands = back n.kept n.noted (n.last ∷ []) n.mark_is n.stands; tell = n.tell }

  -- ## Steps

  -- a log whose turns are all noted tells its steps
  pub all_noted : (whose : Entry) (l : StepLog D) (all : List Step) → l.turned ≡ 0 → IsLogged seen may_leave whose l all → Told seen may_leave l.log whose all
  all_noted whose l all none is =
      let same : all ≡ is.done = is.turns ∙ ap (λ (n : ℕ). is.done ++ replicate n Turned) none ∙ append-nil is.done in
      (is.entries, is.notes, subst (λ (s : List Step). TellSteps whose s is.entries) (sym same) is.steps)

  pub logged_by : (whose : Entry) (l : StepLog D) (all : List Step) → l.turned ≡ 0 → Told seen may_leave l.log whose all → IsLogged seen may_leave whose l all
  logged_by whose l all none t =
      record { entries = t.0; notes = t.1; done = all; steps = t.2; turns = sym (ap (λ (n : ℕ). all ++ replicate n Turned) none ∙ append-nil all) }

  -- one step more, which was noted
  pub logged_more : (whose : Entry) (old new : StepLog D) (mark : ℕ) (all more : List Step) (e : Entry) → old.turned ≡ 0 → new.turned ≡ 0 → more ≡ all ++ steps_of e
      → ((es : List Entry) → Notes seen may_leave old.log es → NotesLast seen may_leave new.log mark es e) → IsLogged seen may_leave whose old all → IsLogged seen may_leave whose new more
  logged_more whose old new mark all more e none still is noted l =
      let n = all_noted whose old all none l in
      logged_by whose new more still (n.0 ++ e ∷ [], notes_too new.log mark n.0 e (noted n.0 n.1), subst (λ (s : List Step). TellSteps whose s (n.0 ++ e ∷ [])) (sym is) (tells_more whose all n.0 e n.2))

  -- none, and the note was taken back
  pub logged_back : (whose : Entry) (old mid new : StepLog D) (mark : ℕ) (all : List Step) (e : Entry) → old.turned ≡ 0 → new.turned ≡ 0 → ((es : List Entry) → Notes seen may_leave old.log es → NotesLast seen may_leave mid.log mark es e)
      → ((es : List Entry) (d : Entry) → NotesLast seen may_leave mid.log mark es d → Notes seen may_leave new.log es) → IsLogged seen may_leave whose old all → IsLogged seen may_leave whose new all
  logged_back whose old mid new mark all e none still noted back l = let n = all_noted whose old all none l in logged_by whose new all still (n.0, back n.0 e (noted n.0 n.1), n.2)

  -- nothing was noted
  pub logged_still : (whose : Entry) (old new : StepLog D) (all : List Step) → new.turned ≡ old.turned → ((es : List Entry) → Notes seen may_leave old.log es → Notes seen may_leave new.log es) → IsLogged seen may_leave whose old all
      → IsLogged seen may_leave whose new all
  logged_still whose old new all same still l =
      record { entries = l.entries; notes = still l.entries l.notes; done = l.done; steps = l.steps; turns = l.turns ∙ ap (λ (n : ℕ). l.done ++ replicate n Turned) (sym same) }

  -- the turns were noted
  pub logged_turns : (whose : Entry) (old new : StepLog D) (mark : ℕ) (all : List Step) → new.turned ≡ 0 → ((es : List Entry) → Notes seen may_leave old.log es → NotesLast seen may_leave new.log mark es (entry.Turned old.turned))
      → IsLogged seen may_leave whose old all → IsLogged seen may_leave whose new all
  logged_turns whose old new mark all none noted l =
      let e = entry.Turned old.turned in
      logged_by whose new all none (l.entries ++ e ∷ [], notes_too new.log mark l.entries e (noted l.entries l.notes), subst (λ (s : List Step). TellSteps whose s (l.entries ++ e ∷ [])) (sym l.turns) (tells_more whose l.done l.entries e l.steps))

  -- some turns more
  pub logged_turned : (whose : Entry) (old new : StepLog D) (k : ℕ) (all more : List Step) → new.log ≡ old.log → new.turned ≡ old.turned + k → more ≡ all ++ replicate k Turned → IsLogged seen may_leave whose old all → IsLogged seen may_leave whose new more
  logged_turned whose old new k all more same some is l =
      record {
        entries = l.entries;
        notes = subst (λ (g : Log D). Notes seen may_leave g l.entries) (sym same) l.notes;
        done = l.done;
        steps = l.steps;
        turns = is ∙ ap (λ (s : List Step). s ++ replicate k Turned) l.turns ∙ turned_more l.done old.turned k ∙ ap (λ (n : ℕ). l.done ++ replicate n Turned) (sym some);
      }
