-- Operations by their places in a journal, and by their numbers among the submissions.
use Rattle.std.proofs.Common.{◌≡◌, ◌∙◌, ℕ, zero, suc, ◌+◌, sym, ap, refl, arith, Bool, true, false, cond, List, [], ◌∷◌, ◌++◌, length, Option, Some, None, slice_get}
use Rattle.std.specs.Prelude.{find, option_map}
use Rattle.std.proofs.lemmas.Bool.{false≢true}
use Rattle.std.proofs.lemmas.List.Elements.{filter_map-append}
use Rattle.logical_time.specs.Stamps.{TxnValue}
use Rattle.messages.specs.declared.op.Op.{Op}
use Rattle.messages.specs.Words.{is_same_txn}
use Rattle.messages.specs.declared.event.ActorEvent.{ActorEvent}
use Rattle.messages.specs.declared.event.ActorEvent.TheVariants.{Submit as SubmitHere}
use Rattle.world.specs.Run.{Submission, submission_of}
use Rattle.world.specs.Threads.{op_in, op_numbered}
use Rattle.world.proofs.lists.Members.{same_txn, same_txn_self}
use Rattle.world.proofs.growing.Prefixes.{get_first}
use Rattle.world.proofs.steps.Counted.{ops_of}

pub find_onto : {X : Type 0} (p : X → Bool) (xs ys : List X) (x : X) → find p xs ≡ Some x → find p (xs ++ ys) ≡ Some x
find_onto p [] ys x e = absurd (cc)
find_onto {X} p (z ∷ xs) ys x e = go (p z) (λ h. find_onto p xs ys x h) e
  where
    go : (b : Bool) → (find p xs ≡ Some x → find p (xs ++ ys) ≡ Some x) → cond b (Some z) (find p xs) ≡ Some x → cond b (Some z) (find p (xs ++ ys)) ≡ Some x
    go true ih h = h
    go false ih h = ih h

pub find_past : {X : Type 0} (p : X → Bool) (xs ys : List X) → find p xs ≡ None → find p (xs ++ ys) ≡ find p ys
find_past p [] ys e = refl
find_past {X} p (z ∷ xs) ys e = go (p z) (λ h. find_past p xs ys h) e
  where
    go : (b : Bool) → (find p xs ≡ None → find p (xs ++ ys) ≡ find p ys) → cond b (Some z) (find p xs) ≡ None → cond b (Some z) (find p (xs ++ ys)) ≡ find p ys
    go true ih h = absurd (cc)
    go false ih h = ih h

get_end : {X : Type 0} (xs : List X) (x : X) → slice_get (xs ++ x ∷ []) (length xs) ≡ Some x
get_end [] x = refl
get_end (y ∷ xs) x = get_end xs x

none_past : {X : Type 0} (xs : List X) (x : X) (k : ℕ) → slice_get xs k ≡ None → (k ≡ length xs → ⊥) → slice_get (xs ++ x ∷ []) k ≡ None
none_past [] x zero e away = absurd (away refl)
none_past [] x (suc k) e away = refl
none_past (y ∷ xs) x zero e away = absurd (cc)
none_past (y ∷ xs) x (suc k) e away = none_past xs x k e (λ q. away (ap suc q))

pub one_none : {X : Type 0} (p : X → Bool) (x : X) → p x ≡ false → find p (x ∷ []) ≡ None
one_none p x e = ap (λ b. cond b (Some x) None) e

-- an operation keeps its number
pub numbered_onto : (j ys : List ActorEvent) (k : ℕ) (o : Op) → op_numbered j k ≡ Some o → op_numbered (j ++ ys) k ≡ Some o
numbered_onto j ys zero o e = absurd (cc)
numbered_onto j ys (suc k) o e =
    ap (λ l. slice_get l k) (filter_map-append op_in j ys) ∙ get_first (ops_of j) (ops_of ys) k o e

pub numbered_end : (j : List ActorEvent) (o : Op) (k : ℕ) → k ≡ suc (length (ops_of j)) → op_numbered (j ++ SubmitHere o ∷ []) k ≡ Some o
numbered_end j o k e =
    ap (op_numbered (j ++ SubmitHere o ∷ [])) e ∙ ap (λ l. slice_get l (length (ops_of j))) (filter_map-append op_in j (SubmitHere o ∷ []))
    ∙ get_end (ops_of j) o

abbrev pub tests : TxnValue → Submission → Bool
tests t b = is_same_txn (record { session = b.session; number = b.number }) t

-- the number of an operation that is added
pub numbered_more : (xs : List Op) (o : Op) (t : TxnValue) (subs : List Submission) (b : Submission) (j : List ActorEvent) → b.session ≡ t.session → b.number ≡ length xs + 1 → b.op ≡ o
    → ops_of j ≡ xs
    → option_map (λ (c : Submission). c.op) (submission_of subs t) ≡ op_numbered j t.number
    → option_map (λ (c : Submission). c.op) (submission_of (subs ++ b ∷ []) t) ≡ op_numbered (j ++ SubmitHere o ∷ []) t.number
numbered_more xs o t subs b j session number is js ih = go (submission_of subs t) refl ih t.number refl
  where
    more : ops_of (j ++ SubmitHere o ∷ []) ≡ xs ++ o ∷ []
    more = filter_map-append op_in j (SubmitHere o ∷ []) ∙ ap (λ l. l ++ o ∷ []) js

    new : (k : ℕ) → t.number ≡ k → (h : Bool) → tests t b ≡ h → op_numbered j k ≡ None → option_map (λ (c : Submission). c.op) (find (tests t) (b ∷ [])) ≡ op_numbered (j ++ SubmitHere o ∷ []) k
    new zero q true h none =
        let same = ap (λ (u : TxnValue). u.number) (same_txn (record { session = b.session; number = b.number }) t h) in absurd (omega arith)
    new (suc k) q true h none =
        let same = ap (λ (u : TxnValue). u.number) (same_txn (record { session = b.session; number = b.number }) t h) in
        let at : k ≡ length xs = omega arith in
        ap (λ g. option_map (λ (c : Submission). c.op) (cond g (Some b) None)) h ∙ ap Some is
        ∙ sym (ap (λ l. slice_get l k) more ∙ ap (slice_get (xs ++ o ∷ [])) at ∙ get_end xs o)
    new zero q false h none = ap (option_map (λ (c : Submission). c.op)) (one_none (tests t) b h)
    new (suc k) q false h none =
        ap (option_map (λ (c : Submission). c.op)) (one_none (tests t) b h)
        ∙ sym (ap (λ l. slice_get l k) more ∙ none_past xs o k (sym (ap (λ l. slice_get l k) js) ∙ none) away)
      where
        away : k ≡ length xs → ⊥
        away e =
            let n : b.number ≡ t.number = number ∙ (omega arith) ∙ sym q in
            let same : record { session = b.session; number = b.number } ≡ t = λ i. record { session = session i; number = n i } in
            false≢true (sym h ∙ ap (λ (u : TxnValue). is_same_txn u t) same ∙ same_txn_self t)

    old : (c : Submission) (k : ℕ) → Some c.op ≡ op_numbered j k → Some c.op ≡ op_numbered (j ++ SubmitHere o ∷ []) k
    old c zero e = absurd (cc)
    old c (suc k) e = sym (ap (λ l. slice_get l k) more ∙ get_first xs (o ∷ []) k c.op (sym (ap (λ l. slice_get l k) js) ∙ sym e))

    go : (f : Option Submission) → submission_of subs t ≡ f → option_map (λ (c : Submission). c.op) f ≡ op_numbered j t.number → (k : ℕ) → t.number ≡ k
        → option_map (λ (c : Submission). c.op) (submission_of (subs ++ b ∷ []) t) ≡ op_numbered (j ++ SubmitHere o ∷ []) t.number
    go (Some c) e h k q = ap (option_map (λ (d : Submission). d.op)) (find_onto (tests t) subs (b ∷ []) c e) ∙ old c t.number h
    go None e h k q =
        ap (option_map (λ (d : Submission). d.op)) (find_past (tests t) subs (b ∷ []) e)
        ∙ new t.number refl (tests t b) refl (sym h)
