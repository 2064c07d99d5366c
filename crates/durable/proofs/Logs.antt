-- What a log tells, as records are noted, taken back and kept.
use Rattle.std.proofs.Common.{ℕ, List, [], ◌∷◌, ◌++◌, Option, subst, append_assoc, ◌≡◌, ◌∙◌, refl, ap}
use Rattle.messages.specs.Topology.{TopologyValue}
use Rattle.world.specs.declared.run_event.RunEvent.{RunEvent}
use Rattle.records.specs.Records.{Entry as Record}
use Rattle.keeper.specs.declared.log.Log.{Log}
use Rattle.keeper.specs.Log.{Stands, IsMark, next}
use Rattle.ledger.specs.declared.entry.Entry.{Entry}
use Rattle.ledger.specs.Entries.{IsTextOf, IsNumbered}
use Rattle.durable.specs.Playing.{IsLed}
use Rattle.durable.specs.Logged.{Tell, Notes, NotesLast, IsLogged}

-- one more entry, told by one more record
pub tell_more : (es : List Entry) (rs : List Record) (e : Entry) (r : Record) → Tell es rs → IsNumbered e → IsTextOf e r.body → Tell (es ++ e ∷ []) (rs ++ r ∷ [])
tell_more [] [] e r t n is = (n, is, tt)
tell_more [] (s ∷ rs) e r t n is = absurd t
tell_more (d ∷ es) [] e r t n is = absurd t
tell_more (d ∷ es) (s ∷ rs) e r t n is = (t.0, t.1, tell_more es rs e r t.2 n is)

-- what the kept records tell comes first in what they and more tell, as a text is of one entry
module _ (one_entry : (a b : Entry) (text : List ℕ) → IsNumbered a → IsNumbered b → IsTextOf a text → IsTextOf b text → a ≡ b) where
  pub kept_first : (kept : List Record) (more : List Record) (es : List Entry) (found : List Entry) → Tell es kept → Tell found (kept ++ more) → (rest : List Entry) × (found ≡ es ++ rest)
  kept_first [] more [] found t u = (found, refl)
  kept_first [] more (e ∷ es) found t u = absurd t
  kept_first (r ∷ kept) more [] found t u = absurd t
  kept_first (r ∷ kept) more (e ∷ es) [] t u = absurd u
  kept_first (r ∷ kept) more (e ∷ es) (d ∷ found) t u =
      let same : d ≡ e = one_entry d e r.body u.0 t.0 u.1 t.1 in
      let after = kept_first kept more es found t.2 u.2 in
      (after.0, ap (λ (z : Entry). z ∷ found) same ∙ ap (λ (l : List Entry). e ∷ l) after.1)

module _ {D : Type 0} (seen : D → Option (List ℕ)) (may_leave : D → List ℕ → Type 0) where
  -- after a note
  pub noted_last : (old new : Log D) (mark : ℕ) (text : List ℕ) → ((kept : List Record) (noted : List Record) → Stands seen may_leave old kept noted → Stands seen may_leave new kept (noted ++ next noted text ∷ []))
      → ((kept : List Record) (noted : List Record) → Stands seen may_leave old kept noted → IsMark new mark noted)
      → (es : List Entry) (e : Entry) → Notes seen may_leave old es → IsNumbered e → IsTextOf e text → NotesLast seen may_leave new mark es e
  noted_last old new mark text stands marks es e n numbered is = record {
    kept = n.kept;
    noted = n.noted;
    last = next n.noted text;
    stands = stands n.kept n.noted n.stands;
    mark_is = marks n.kept n.noted n.stands;
    tell = n.tell;
    numbered = numbered;
    told = is;
  }

  pub noted_still : (old new : Log D) → ((kept : List Record) (noted : List Record) → Stands seen may_leave old kept noted → Stands seen may_leave new kept noted)
      → (es : List Entry) → Notes seen may_leave old es → Notes seen may_leave new es
  noted_still old new stands es n = record { kept = n.kept; noted = n.noted; stands = stands n.kept n.noted n.stands; tell = n.tell }

  -- it is noted too
  pub notes_too : (log : Log D) (mark : ℕ) (es : List Entry) (e : Entry) → NotesLast seen may_leave log mark es e → Notes seen may_leave log (es ++ e ∷ [])
  notes_too log mark es e n = record {
    kept = n.kept;
    noted = n.noted ++ n.last ∷ [];
    stands = n.stands;
    tell = subst (λ (rs : List Record). Tell (es ++ e ∷ []) rs) (append_assoc n.kept n.noted (n.last ∷ [])) (tell_more es (n.kept ++ n.noted) e n.last n.tell n.numbered n.told);
  }

  -- or it is taken back
  pub taken_back : (old new : Log D) (mark : ℕ) → ((kept : List Record) (noted : List Record) (back : List Record) → IsMark old mark noted → Stands seen may_leave old kept (noted ++ back) → Stands seen may_leave new kept noted)
      → (es : List Entry) (e : Entry) → NotesLast seen may_leave old mark es e → Notes seen may_leave new es
  taken_back old new mark back es e n = record { kept = n.kept; noted = n.noted; stands = back n.kept n.noted (n.last ∷ []) n.mark_is n.stands; tell = n.tell }

  -- entries were told, and led there
  pub logged_by : (top : TopologyValue) (log : Log D) (events : List RunEvent) (es : List Entry) → Notes seen may_leave log es → IsLed top events es → IsLogged seen may_leave top log events
  logged_by top log events es n led = record { entries = es; notes = n; led = led }
