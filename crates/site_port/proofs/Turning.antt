-- Turns, one after the other.
use Rattle.std.proofs.Common.{◌≡◌, ◌∙◌, ℕ, ◌+◌, Bool, true, false, List, [], ◌∷◌, ◌++◌, Option, Some, None, inl, inr, refl, sym, ap, subst, append_assoc, append-nil, length-append}
use Rattle.std.specs.Prelude.{All, length}
use Rattle.std.proofs.lemmas.List.Elements.{All-nil, All-cons, All-append, filter_map-append}
use Rattle.logical_time.specs.declared.fault.Fault.{Fault}
use Rattle.messages.specs.declared.outcome.Outcome.{Outcome}
use Rattle.actors.specs.Machines.{Refuses}
use Rattle.site.specs.Story.{Happening, arrivals, handled}
use Rattle.site.specs.Sites.{SiteValue}
use Rattle.site.specs.Turns.{IsTurnRefused}
use Rattle.site_port.specs.declared.waiting.Late.{Late}
use Rattle.site_port.specs.Ends.{end_in, ends_in, IsHandling, GoesOnWith, is_awaited, AreTold, HasStopped, HasTurns}

pub goes_same : (s : SiteValue) → GoesOnWith s [] s
goes_same s = record { topology = refl; dc = refl; story = sym (append-nil s.story); sound = λ q. q }

pub goes_then : (a b c : SiteValue) (xs ys : List Happening) → GoesOnWith a xs b → GoesOnWith b ys c → GoesOnWith a (xs ++ ys) c
goes_then a b c xs ys f g =
    record {
      topology = g.topology ∙ f.topology;
      dc = g.dc ∙ f.dc;
      story = g.story ∙ (ap (λ l. l ++ ys) f.story ∙ append_assoc a.story xs ys);
      sound = λ q. f.sound (g.sound q);
    }

pub ends_then : (xs ys : List Happening) → ends_in (xs ++ ys) ≡ ends_in xs ++ ends_in ys
ends_then xs ys = filter_map-append end_in xs ys

-- what was told of the one and then of the other is told of both
pub told_then : (awaited : Option (ℕ × ℕ)) (xs ys a b c : List Late) (told : Option Outcome) → AreTold awaited xs a None b → AreTold awaited ys b told c → AreTold awaited (xs ++ ys) a told c
told_then awaited xs ys a b c (Some outcome) first (before, last, ends, is, same, kept) = (
  xs ++ before,
  last,
  ap (λ l. xs ++ l) ends ∙ sym (append_assoc xs before (last ∷ [])),
  is,
  same,
  kept ∙ (ap (λ l. l ++ before) first.0 ∙ append_assoc a xs before),
)
told_then awaited xs ys a b c None first second = (
  second.0 ∙ (ap (λ l. l ++ ys) first.0 ∙ append_assoc a xs ys),
  All-append (λ (z : Late). is_awaited awaited z ≡ false) xs ys first.1 second.1,
)

-- Turns that were taken so far, none of which ended what is awaited.
pub record AreTaken (awaited : Option (ℕ × ℕ)) (count : ℕ) (start now : SiteValue) (late kept : List Late) : Type 0 where
  pub happened : List Happening
  pub counted : length happened ≡ count
  pub handled : All IsHandling happened
  pub went : GoesOnWith start happened now
  pub told : AreTold awaited (ends_in happened) late None kept

pub none_taken : (awaited : Option (ℕ × ℕ)) (s : SiteValue) (late : List Late) → AreTaken awaited 0 s s late late
none_taken awaited s late = record { happened = []; counted = refl; handled = All-nil IsHandling; went = goes_same s; told = (sym (append-nil late), All-nil (λ (z : Late). is_awaited awaited z ≡ false)) }

module _ (awaited : Option (ℕ × ℕ)) (count : ℕ) (a b : SiteValue) (l m : List Late) (t : AreTaken awaited count a b l m) where
  -- one more
  pub one_more : (c : SiteValue) (n : List Late) (h : Happening) → IsHandling h → GoesOnWith b (h ∷ []) c → AreTold awaited (ends_in (h ∷ [])) m None n → AreTaken awaited (count + 1) a c l n
  one_more c n h handling went told =
      record {
        happened = t.happened ++ h ∷ [];
        counted = length-append t.happened (h ∷ []) ∙ ap (λ k. k + 1) t.counted;
        handled = All-append IsHandling t.happened (h ∷ []) t.handled (All-cons IsHandling h [] handling (All-nil IsHandling));
        went = goes_then a b c t.happened (h ∷ []) t.went went;
        told = subst (λ z. AreTold awaited z l None n) (sym (ends_then t.happened (h ∷ []))) (told_then awaited (ends_in t.happened) (ends_in (h ∷ [])) l m n None t.told told);
      }

  -- the last one ended what is awaited
  pub ended_by : (most : ℕ) (c : SiteValue) (n : List Late) (h : Happening) (outcome : Outcome) → IsHandling h → GoesOnWith b (h ∷ []) c → AreTold awaited (ends_in (h ∷ [])) m (Some outcome) n
      → HasTurns awaited most a l (Some outcome) c n
  ended_by most c n h outcome handling went told =
      record {
        happened = t.happened ++ h ∷ [];
        handled = All-append IsHandling t.happened (h ∷ []) t.handled (All-cons IsHandling h [] handling (All-nil IsHandling));
        went = goes_then a b c t.happened (h ∷ []) t.went went;
        is_told = subst (λ z. AreTold awaited z l (Some outcome) n) (sym (ends_then t.happened (h ∷ [])))
            (told_then awaited (ends_in t.happened) (ends_in (h ∷ [])) l m n (Some outcome) t.told told);
        rests = λ q. absurd (none_some q);
      }
    where
      none_some : Some outcome ≡ None → ⊥
      none_some q = cc

  -- nothing waits any more
  pub rests_now : (most : ℕ) (c : SiteValue) (n : List Late) → c ≡ b → n ≡ m → handled b.story ≡ arrivals b.top b.dc b.story → HasTurns awaited most a l None c n
  rests_now most c n same kept all =
      subst (λ z. HasTurns awaited most a l None z n) (sym same)
      (subst (λ z. HasTurns awaited most a l None b z) (sym kept)
      (record { happened = t.happened; handled = t.handled; went = t.went; is_told = t.told; rests = λ q. inl all }))

  -- so many were taken
  pub spent : HasTurns awaited count a l None b m
  spent = record { happened = t.happened; handled = t.handled; went = t.went; is_told = t.told; rests = λ q. inr t.counted }

  -- the next one is refused
  pub stopped : (refuses : Refuses) (fault : Fault) (c : SiteValue) (n : List Late) → n ≡ m → IsTurnRefused refuses b fault c → HasStopped refuses awaited a l fault c n
  stopped refuses fault c n kept refused =
      subst (λ z. HasStopped refuses awaited a l fault c z) (sym kept)
      (record { happened = t.happened; between = b; handled = t.handled; went = t.went; told = t.told; refused = refused })

some_none : (outcome : Outcome) → Some outcome ≡ None → ⊥
some_none outcome z = cc

-- ## By what one turn answered

module _ (awaited : Option (ℕ × ℕ)) (count most : ℕ) (a b c : SiteValue) (l m n : List Late) (t : AreTaken awaited count a b l m) (went : Bool) (ended : Option Outcome)
    (does : went ≡ true → (h : Happening) × IsHandling h × GoesOnWith b (h ∷ []) c × AreTold awaited (ends_in (h ∷ [])) m ended n)
    (rests : went ≡ false → (c ≡ b) × (n ≡ m) × (ended ≡ None) × (handled b.story ≡ arrivals b.top b.dc b.story)) where
  pub it_ended : (outcome : Outcome) → ended ≡ Some outcome → HasTurns awaited most a l (Some outcome) c n
  it_ended outcome is = by went refl
    where
      by : (w : Bool) → went ≡ w → HasTurns awaited most a l (Some outcome) c n
      by true q = let d = does q in ended_by awaited count a b l m t most c n d.0 outcome d.1 d.2 (subst (λ o. AreTold awaited (ends_in (d.0 ∷ [])) m o n) is d.3)
      by false q = absurd (some_none outcome (sym is ∙ (rests q).2))

  pub nothing_waits : went ≡ false → HasTurns awaited most a l None c n
  nothing_waits q = let r = rests q in rests_now awaited count a b l m t most c n r.0 r.1 r.3

  pub it_goes_on : went ≡ true → ended ≡ None → AreTaken awaited (count + 1) a c l n
  it_goes_on q is = let d = does q in one_more awaited count a b l m t c n d.0 d.1 d.2 (subst (λ o. AreTold awaited (ends_in (d.0 ∷ [])) m o n) is d.3)
