-- What holds of a link at every moment, and what follows.
use Rattle.std.proofs.Common.{◌≡◌, ◌∙◌, ◌⊎◌, inl, inr, ℕ, zero, suc, ◌+◌, ◌-◌, ◌≤◌, max, ltb, eqb, Bool, true, false, List, [], ◌∷◌, ◌++◌, length, drop, slice_get, Some, None, refl, sym, ap, subst, eqb-true, eq-eqb, append_assoc, arith}
use Rattle.std.specs.Prelude.{Contains}
use Rattle.std.proofs.lemmas.Bool.{le-ltb, ltb-false}
use Rattle.std.proofs.lemmas.List.{length-append, length-drop, drop-drop, drop_at, drop-append-le, append-nil, nil_from_length}
use Rattle.peers.specs.Ends.{next_of, parcel_at}
use Rattle.peers.specs.Links.{Link, LinkEvent, puts, sends, comes, tells, hears, started, MayHappen, comes_to, step, run, Happens, IsBeginning, carried, kept_from}

-- ## Places of a list

get-append : {X : Type 0} (xs ys : List X) (n : ℕ) (x : X) → slice_get xs n ≡ Some x → slice_get (xs ++ ys) n ≡ Some x
get-append [] ys n x at = absurd (cc)
get-append (y ∷ xs) ys zero x at = at
get-append (y ∷ xs) ys (suc n) x at = get-append xs ys n x at

get-drop : {X : Type 0} (m : ℕ) (xs : List X) (n : ℕ) → slice_get (drop m xs) n ≡ slice_get xs (m + n)
get-drop zero xs n = let e : n ≡ 0 + n = omega arith in ap (slice_get xs) e
get-drop (suc m) [] n = refl
get-drop (suc m) (x ∷ xs) n = let e : suc (m + n) ≡ suc m + n = omega arith in get-drop m xs n ∙ ap (slice_get (x ∷ xs)) e

-- what stands behind a beginning
at_end : {X : Type 0} (xs more : List X) (x : X) → slice_get (xs ++ more) (length xs) ≡ Some x → (rest : List X) × (more ≡ x ∷ rest)
at_end [] [] x at = absurd (cc)
at_end [] (y ∷ more) x at = (more, let same : y ≡ x = cc in ap (λ z. z ∷ more) same)
at_end (y ∷ xs) more x at = at_end xs more x at

first_or_later : {X : Type 0} (y : X) (ys : List X) (x : X) → Contains (y ∷ ys) x → (y ≡ x) ⊎ Contains ys x
first_or_later y ys x (zero, lt, is) = inl is
first_or_later y ys x (suc k, lt, is) = inr (k, omega (arith, lt), is)

-- ## What holds at every moment

pub record IsSound (l : Link) : Type 0 where
  pub beginning : IsBeginning l.taken l.given
  pub wanted : l.inbound ≡ length l.taken
  pub first : l.outbound.first ≤ length l.taken
  pub kept : drop l.outbound.first l.given ≡ l.outbound.kept
  pub sent : (number : ℕ) (parcel : List ℕ) → Contains l.sent (number, parcel) → slice_get l.given number ≡ Some parcel
  pub told : (number : ℕ) → Contains l.told number → number ≤ length l.taken

taken_within : (l : Link) → IsSound l → length l.taken ≤ length l.given
taken_within l s = let b = s.beginning in let e = ap length b.1 ∙ length-append l.taken b.0 in omega (arith, e)

-- what is kept under a number is what was given there
pub kept_was_given : (l : Link) → IsSound l → (number : ℕ) (parcel : List ℕ) → parcel_at l.outbound number ≡ Some parcel → slice_get l.given number ≡ Some parcel
kept_was_given l s number parcel at = by (ltb number l.outbound.first) refl
  where
    by : (b : Bool) → ltb number l.outbound.first ≡ b → slice_get l.given number ≡ Some parcel
    by true lt = absurd (let none : parcel_at l.outbound number ≡ None = rw lt refl in cc)
    by false le =
        let here : slice_get l.outbound.kept (number - l.outbound.first) ≡ Some parcel = rw le at at in
        let there : slice_get (drop l.outbound.first l.given) (number - l.outbound.first) ≡ Some parcel = rw s.kept here in
        let sum : l.outbound.first + (number - l.outbound.first) ≡ number = omega (arith, ltb-false number l.outbound.first le) in
        subst (λ (n : ℕ). slice_get l.given n ≡ Some parcel) sum (sym (get-drop l.outbound.first l.given (number - l.outbound.first)) ∙ there)

-- what was given and not taken is kept under its number
pub given_is_kept : (l : Link) → IsSound l → (number : ℕ) (parcel : List ℕ) → length l.taken ≤ number → slice_get l.given number ≡ Some parcel → parcel_at l.outbound number ≡ Some parcel
given_is_kept l s number parcel le at =
    let first : l.outbound.first ≤ number = omega (arith, s.first, le) in
    let sum : number ≡ l.outbound.first + (number - l.outbound.first) = omega (arith, first) in
    let there : slice_get l.given (l.outbound.first + (number - l.outbound.first)) ≡ Some parcel = subst (λ (n : ℕ). slice_get l.given n ≡ Some parcel) sum at in
    let here : slice_get l.outbound.kept (number - l.outbound.first) ≡ Some parcel =
    subst (λ (ps : List (List ℕ)). slice_get ps (number - l.outbound.first) ≡ Some parcel) s.kept (get-drop l.outbound.first l.given (number - l.outbound.first) ∙ there) in
    rw (le-ltb number l.outbound.first first) here

sound_put : (l : Link) (parcel : List ℕ) → IsSound l → IsSound (step (puts parcel) l)
sound_put l parcel s =
    let b = s.beginning in
    let within : l.outbound.first ≤ length l.given = omega (arith, s.first, taken_within l s) in
    record {
      beginning = (b.0 ++ parcel ∷ [], ap (λ (ps : List (List ℕ)). ps ++ parcel ∷ []) b.1 ∙ append_assoc l.taken b.0 (parcel ∷ []));
      wanted = s.wanted;
      first = s.first;
      kept = drop-append-le l.outbound.first l.given (parcel ∷ []) within ∙ ap (λ (ps : List (List ℕ)). ps ++ parcel ∷ []) s.kept;
      sent = λ number p has. get-append l.given (parcel ∷ []) number p (s.sent number p has);
      told = s.told;
    }

sound_sent : (l : Link) (number : ℕ) (parcel : List ℕ) → parcel_at l.outbound number ≡ Some parcel → IsSound l → IsSound (step (sends number parcel) l)
sound_sent l number parcel at s = record {
  beginning = s.beginning;
  wanted = s.wanted;
  first = s.first;
  kept = s.kept;
  sent = λ n p has. elim (first_or_later (number, parcel) l.sent (n, p) has) [
    | inl same ↦ (let one : number ≡ n = ap (λ (z : ℕ × List ℕ). z.0) same in let other : parcel ≡ p = ap (λ (z : ℕ × List ℕ). z.1) same in rw (← one, ← other) (kept_was_given l s number parcel at))
    | inr old ↦ s.sent n p old
  ];
  told = s.told;
}

sound_came : (l : Link) (number : ℕ) (parcel : List ℕ) → Contains l.sent (number, parcel) → IsSound l → IsSound (step (comes number parcel) l)
sound_came l number parcel has s = by (eqb number l.inbound) refl
  where
    by : (b : Bool) → eqb number l.inbound ≡ b → IsSound (step (comes number parcel) l)
    by false other = rw other s
    by true same =
        let b = s.beginning in
        let here : number ≡ length l.taken = eqb-true number l.inbound same ∙ s.wanted in
        let at : slice_get (l.taken ++ b.0) (length l.taken) ≡ Some parcel = subst (λ (n : ℕ). slice_get (l.taken ++ b.0) n ≡ Some parcel) here (subst (λ (ps : List (List ℕ)). slice_get ps number ≡ Some parcel) b.1 (s.sent number parcel has)) in
        let rest = at_end l.taken b.0 parcel at in
        let long : length (l.taken ++ parcel ∷ []) ≡ length l.taken + 1 = length-append l.taken (parcel ∷ []) in
        rw same (record {
          beginning = (rest.0, b.1 ∙ ap (λ (ps : List (List ℕ)). l.taken ++ ps) rest.1 ∙ sym (append_assoc l.taken (parcel ∷ []) rest.0));
          wanted = ap (λ n. n + 1) s.wanted ∙ sym long;
          first = omega (arith, s.first, long);
          kept = s.kept;
          sent = s.sent;
          told = λ n old. let t = s.told n old in omega (arith, t, long);
        })

sound_told : (l : Link) → IsSound l → IsSound (step tells l)
sound_told l s = record {
  beginning = s.beginning;
  wanted = s.wanted;
  first = s.first;
  kept = s.kept;
  sent = s.sent;
  told = λ n has. elim (first_or_later l.inbound l.told n has) [
    | inl same ↦ omega (arith, same, s.wanted)
    | inr old ↦ s.told n old
  ];
}

sound_heard : (l : Link) (below : ℕ) → Contains l.told below → IsSound l → IsSound (step (hears below) l)
sound_heard l below has s =
    let le = s.told below has in
    let sum : l.outbound.first + (below - l.outbound.first) ≡ max l.outbound.first below = omega arith in
    record {
      beginning = s.beginning;
      wanted = s.wanted;
      first = omega (arith, le, s.first);
      kept = ap (λ n. drop n l.given) (sym sum) ∙ sym (drop-drop (below - l.outbound.first) l.outbound.first l.given) ∙ ap (drop (below - l.outbound.first)) s.kept;
      sent = s.sent;
      told = s.told;
    }

sound_after : (e : LinkEvent) (l : Link) → MayHappen e l → IsSound l → IsSound (step e l)
sound_after (puts parcel) l may s = sound_put l parcel s
sound_after (sends number parcel) l may s = sound_sent l number parcel may s
sound_after (comes number parcel) l may s = sound_came l number parcel may s
sound_after tells l may s = sound_told l s
sound_after (hears below) l may s = sound_heard l below may s

sound_run : (es : List LinkEvent) (l : Link) → Happens es l → IsSound l → IsSound (run es l)
sound_run [] l may s = s
sound_run (e ∷ es) l may s = sound_run es (step e l) may.1 (sound_after e l may.0 s)

sound_started : IsSound started
sound_started = record {
  beginning = ([], refl);
  wanted = refl;
  first = omega arith;
  kept = refl;
  sent = λ number parcel has. absurd (omega (arith, has.1));
  told = λ number has. absurd (omega (arith, has.1));
}

pub sound : (es : List LinkEvent) → Happens es started → IsSound (run es started)
sound es may = sound_run es started may sound_started

-- ## All is taken

-- the link once the parcel that is wanted came
abbrev one_more : Link → List ℕ → Link
one_more l parcel = record { given = l.given; taken = l.taken ++ parcel ∷ []; outbound = l.outbound; inbound = l.inbound + 1; sent = l.sent; told = l.told }

wanted_comes : (l : Link) (parcel : List ℕ) → comes_to l.inbound parcel l ≡ one_more l parcel
wanted_comes l parcel = rw (eq-eqb l.inbound l.inbound refl) refl

carry : (parcels : List (List ℕ)) (l : Link) → (run (carried l.inbound parcels) l).taken ≡ l.taken ++ parcels
carry [] l = sym (append-nil l.taken)
carry (parcel ∷ parcels) l =
    ap (λ (m : Link). (run (carried (l.inbound + 1) parcels) m).taken) (wanted_comes l parcel)
    ∙ carry parcels (one_more l parcel) ∙ append_assoc l.taken (parcel ∷ []) parcels

pub carried_all : (l : Link) → IsSound l → (run (carried l.inbound (kept_from l.inbound l.outbound)) l).taken ≡ l.given
carried_all l s =
    let b = s.beginning in
    let sum : l.outbound.first + (l.inbound - l.outbound.first) ≡ length l.taken = omega (arith, s.first, s.wanted) in
    let rest : kept_from l.inbound l.outbound ≡ b.0 =
    ap (drop (l.inbound - l.outbound.first)) (sym s.kept) ∙ drop-drop (l.inbound - l.outbound.first) l.outbound.first l.given
    ∙ ap (λ n. drop n l.given) sum ∙ ap (drop (length l.taken)) b.1 ∙ drop_at l.taken b.0 (length l.taken) refl in
    carry (kept_from l.inbound l.outbound) l ∙ ap (λ (ps : List (List ℕ)). l.taken ++ ps) rest ∙ sym b.1

pub even_is_all : (l : Link) → IsSound l → l.inbound ≡ next_of l.outbound → l.taken ≡ l.given
even_is_all l s even =
    let b = s.beginning in
    let long = ap length (sym s.kept) ∙ length-drop l.outbound.first l.given in
    let parts = ap length b.1 ∙ length-append l.taken b.0 in
    let none : b.0 ≡ [] = nil_from_length b.0 (omega (arith, long, parts, even, s.wanted, s.first)) in
    sym (b.1 ∙ ap (λ (ps : List (List ℕ)). l.taken ++ ps) none ∙ append-nil l.taken)

-- ## Going on

-- all that was given has a number below the next
numbered : (l : Link) → IsSound l → next_of l.outbound ≡ length l.given
numbered l s =
    let long = ap length (sym s.kept) ∙ length-drop l.outbound.first l.given in
    omega (arith, long, s.first, taken_within l s)

pub goes_on : (l : Link) → IsSound l → (l.outbound.first ≤ l.inbound) × (l.inbound ≤ next_of l.outbound)
goes_on l s = (omega (arith, s.first, s.wanted), omega (arith, s.wanted, taken_within l s, numbered l s))

pub told_fits : (l : Link) → IsSound l → (number : ℕ) → Contains l.told number → number ≤ next_of l.outbound
told_fits l s number has = let t = s.told number has in omega (arith, t, taken_within l s, numbered l s)
