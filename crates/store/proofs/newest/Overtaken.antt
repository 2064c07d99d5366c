-- A mutation that commits no earlier than something newer at its location changes the table at no time.
use Rattle.std.proofs.Common.{◌≡◌, ◌∙◌, ap, refl, ℕ, true, false, Bool, nat_le, cond, List, [], ◌∷◌, ◌++◌, Option, Some, None, option_map, arith}
use Rattle.std.proofs.lemmas.Bool.Decides.{nat_tests}
use Rattle.std.proofs.lemmas.List.Elements.{filter-append}
use Rattle.logical_time.specs.Stamps.{StampValue, is_older}
use Rattle.column_family.specs.declared.batch.Change.{Change}
use Rattle.column_family.specs.declared.batch.Committed.{Committed}
use Rattle.column_family.specs.declared.batch.Mutation.{Mutation}
use Rattle.column_family.specs.Location.{Location, touches}
use Rattle.column_family.specs.History.{History, up_to, Stamped, newer_of, newest_of, newest_at, last_of, stamped}
use Rattle.column_family.proofs.Joins.{newer_of_none, newest_of_append}
use Rattle.store.specs.declared.part.Applied.{Applied}
use Rattle.store.specs.Part.{committed_of, history_of}
use Rattle.store.specs.Keeps.{IsOvertaken}
use Rattle.store.proofs.newest.Newer.{IsNoOlder, more_no_older}

-- what was applied, and one part more
history_more : (all : List Applied) (a : Applied) → history_of (all ++ a ∷ []) ≡ history_of all ++ committed_of a ∷ []
history_more [] a = refl
history_more (x ∷ all) a = ap (λ (h : History). committed_of x ∷ h) (history_more all a)

-- the newest by a time of what was applied and one part more
pub newest_more : (q : Change → Bool) (t : ℕ) (all : List Applied) (a : Applied)
    → newest_of q (up_to t (history_of (all ++ a ∷ []))) ≡ newer_of (newest_of q (up_to t (history_of all))) (cond (nat_le a.commit t) (option_map (stamped (committed_of a)) (last_of q a.part.batch)) None)
newest_more q t all a =
    ap (λ (h : History). newest_of q (up_to t h)) (history_more all a)
    ∙ ap (newest_of q) (filter-append (λ (c : Committed). nat_le c.commit t) (history_of all) (committed_of a ∷ []))
    ∙ newest_of_append q (up_to t (history_of all)) (up_to t (committed_of a ∷ []))
    ∙ ap (newer_of (newest_of q (up_to t (history_of all)))) (go (nat_le a.commit t))
  where
    go : (b : Bool) → newest_of q (cond b (committed_of a ∷ []) []) ≡ cond b (option_map (stamped (committed_of a)) (last_of q a.part.batch)) None
    go true = newer_of_none (option_map (stamped (committed_of a)) (last_of q a.part.batch))
    go false = refl

-- what is older than the one is no newer than what isn't older than that
still_newer : (s n m : StampValue) → is_older s n ≡ true → is_older m n ≡ false → is_older m s ≡ false
still_newer s n m h k = grind (arith, nat_tests)

later_too : (c t d : ℕ) → nat_le c t ≡ true → nat_le d c ≡ true → nat_le d t ≡ true
later_too c t d h k = grind (arith, nat_tests)

stays_newer : (a : Applied) (o : Option Mutation) (found : Option Stamped) (n : Stamped) → IsNoOlder found (Some n) → is_older a.stamp n.stamp ≡ true → newer_of found (option_map (stamped (committed_of a)) o) ≡ found
stays_newer a None found n above older = newer_of_none found
stays_newer a (Some m) None n above older = absurd above
stays_newer a (Some m) (Some x) n above older = rw (still_newer a.stamp n.stamp x.stamp older above) refl

pub overtaken : (all : List Applied) (a : Applied) (l : Location) → IsOvertaken all l a.stamp a.commit → (t : ℕ) → newest_at (history_of (all ++ a ∷ [])) t l ≡ newest_at (history_of all) t l
overtaken all a l (n, is, older) t = newest_more (touches l) t all a ∙ go (nat_le a.commit t) refl
  where
    go : (b : Bool) → nat_le a.commit t ≡ b
        → newer_of (newest_of (touches l) (up_to t (history_of all))) (cond b (option_map (stamped (committed_of a)) (last_of (touches l) a.part.batch)) None) ≡ newest_of (touches l) (up_to t (history_of all))
    go true le =
        let above : IsNoOlder (newest_of (touches l) (up_to t (history_of all))) (newest_of (touches l) (up_to a.commit (history_of all))) =
        more_no_older (touches l) (λ (c : Committed). nat_le c.commit a.commit) (λ (c : Committed). nat_le c.commit t) (λ c h. later_too a.commit t c.commit le h) (history_of all) in
        stays_newer a (last_of (touches l) a.part.batch) (newest_of (touches l) (up_to t (history_of all))) n (rw is at above) older
    go false gt = newer_of_none (newest_of (touches l) (up_to t (history_of all)))
