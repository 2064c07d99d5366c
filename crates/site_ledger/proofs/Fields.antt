-- What stands behind a kind, and what is read of it.
use Rattle.std.proofs.Common.{◌≡◌, ◌∙◌, ℕ, ◌+◌, ◌^◌, ◌<◌, ◌≤◌, List, ◌∷◌, ◌++◌, length, take, drop, get_or, Option, Some, None, sym, ap, subst, arith, inl, inr}
use Rattle.std.specs.Prelude.{◌==◌, ◌&&◌, nat_lt, option_map, IfSome, IfNone}
use Rattle.std.specs.Int.{w16, w64, from_be_bytes}
use Rattle.std.proofs.lemmas.Bool.{cases_lt, cond-true, and_from, eq-eqb, lt-ltb}
use Rattle.std.proofs.lemmas.List.{length-append, length-drop, length-take-le, take-append-drop, drop_at, get_or-take, get_or-drop, get_or_past}
use Rattle.std.proofs.lemmas.Nat.{be_bytes_2, be_bytes_8}
use Rattle.byteorder.specs.Endian.{big_bytes}
use Rattle.byteorder.specs.Numbers.{length-bytes_high_first}
use Rattle.messages.specs.declared.op.Op.{Op}
use Rattle.messages.specs.declared.envelope.Envelope.{Envelope}
use Rattle.wire.specs.Requests as requests
use Rattle.parcels.specs.Spelling as parcels
use Rattle.site_ledger.specs.Entries.{IsTextOf, IsRead}
use Rattle.site_ledger.specs.declared.entry.Entry.{Entry}
use Rattle.site_ledger.specs.declared.entry.Entry.TheVariants.{Whose, Asked, Came, Collected, Met}
use Rattle.site_ledger.proofs.Texts.{asked_parts, came_parts, kind_told}

-- ## A number in front

abbrev pub AreBytes : List ℕ → Type 0
AreBytes bytes = (i : ℕ) → get_or bytes i 0 < 256

-- the first two bytes, the number that they are, and the others
pub record Begins (fields two rest : List ℕ) (n : ℕ) : Type 0 where
  pub bytes : AreBytes fields
  pub long : 2 ≤ length fields
  pub first : two ≡ take 2 fields
  pub others : rest ≡ drop 2 fields
  pub number : n ≡ from_be_bytes w16 two

begins_so : (fields two rest : List ℕ) (n : ℕ) → Begins fields two rest n → big_bytes 2 n ++ rest ≡ fields
begins_so fields two rest n b =
    let long : length two ≡ 2 = ap length b.first ∙ length-take-le 2 fields b.long in
    let fits : AreBytes two = λ i. elim (cases_lt i 2) [
      | inl lt ↦ rw (b.first, get_or-take 2 fields i 0 lt) (b.bytes i)
      | inr le ↦ rw (get_or_past two i 0 (omega (arith, long))) (omega arith)
    ] in
    ap (λ (xs : List ℕ). xs ++ rest) (be_bytes_2 two n long fits b.number ∙ b.first) ∙ ap (λ (xs : List ℕ). take 2 fields ++ xs) b.others ∙ take-append-drop 2 fields

-- how a text begins whose number is known
begun : (n : ℕ) (fields rest : List ℕ) → fields ≡ big_bytes 2 n ++ rest → (2 ≤ length fields) × (rest ≡ drop 2 fields)
begun n fields rest e = (
  omega (arith, ap length e, length-append (big_bytes 2 n) rest, length-bytes_high_first 2 n),
  sym (ap (drop 2) e ∙ drop_at (big_bytes 2 n) rest 2 (length-bytes_high_first 2 n)),
)

-- ## Whose it is, collections, and meetings

pub whose_read : (fields two rest i last d : List ℕ) (n : ℕ) → Begins fields two rest n → length fields ≡ 50 → i ≡ take 16 rest → last ≡ drop 16 rest → d ≡ last → IsTextOf (Whose n i d) (3 ∷ fields)
whose_read fields two rest i last d n b long front back same =
    let len : length rest ≡ 48 = omega (arith, ap length b.others, length-drop 2 fields) in
    let li : length i ≡ 16 = ap length front ∙ length-take-le 16 rest (omega (arith, len)) in
    let ld : length d ≡ 32 = omega (arith, len, ap length (same ∙ back), length-drop 16 rest) in
    let parts : i ++ d ≡ rest = ap (λ (xs : List ℕ). xs ++ d) front ∙ ap (λ (xs : List ℕ). take 16 rest ++ xs) (same ∙ back) ∙ take-append-drop 16 rest in
    cond-true (length i == 16 && length d == 32) (Some (3 ∷ (big_bytes 2 n ++ (i ++ d)))) None (and_from (length i == 16) (length d == 32) (eq-eqb (length i) 16 li) (eq-eqb (length d) 32 ld))
    ∙ ap (λ (xs : List ℕ). Some (3 ∷ (big_bytes 2 n ++ xs))) parts
    ∙ ap (λ (xs : List ℕ). Some (3 ∷ xs)) (begins_so fields two rest n b)

pub collected_read : (fields two rest eight : List ℕ) (n time value : ℕ) → Begins fields two rest n → length fields ≡ 10 → eight ≡ rest → value ≡ from_be_bytes w64 eight → value < 2 ^ 48 → time ≡ value
    → IsTextOf (Collected n time) (7 ∷ fields)
collected_read fields two rest eight n time value b long same number lt is =
    let len : length eight ≡ 8 = omega (arith, ap length (same ∙ b.others), length-drop 2 fields) in
    let fits : AreBytes eight = λ i. rw (same, b.others, get_or-drop 2 fields i 0) (b.bytes (2 + i)) in
    let again : big_bytes 8 time ≡ rest = be_bytes_8 eight time len fits (is ∙ number) ∙ same in
    cond-true (nat_lt time (2 ^ 48)) (Some (7 ∷ (big_bytes 2 n ++ big_bytes 8 time))) None (lt-ltb time (2 ^ 48) (subst (λ t. t < 2 ^ 48) (sym is) lt))
    ∙ ap (λ (xs : List ℕ). Some (7 ∷ (big_bytes 2 n ++ xs))) again
    ∙ ap (λ (xs : List ℕ). Some (7 ∷ xs)) (begins_so fields two rest n b)

pub met_read : (fields two rest i : List ℕ) (n : ℕ) → Begins fields two rest n → length fields ≡ 18 → i ≡ rest → IsTextOf (Met n i) (8 ∷ fields)
met_read fields two rest i n b long same =
    let len : length i ≡ 16 = omega (arith, ap length (same ∙ b.others), length-drop 2 fields) in
    cond-true (length i == 16) (Some (8 ∷ (big_bytes 2 n ++ i))) None (eq-eqb (length i) 16 len)
    ∙ ap (λ (xs : List ℕ). Some (8 ∷ (big_bytes 2 n ++ xs))) same
    ∙ ap (λ (xs : List ℕ). Some (8 ∷ xs)) (begins_so fields two rest n b)

-- ## Requests

-- the frame of no request stands behind two bytes
pub asked_none : (fields : List ℕ) → ((op : Op) → 2 ≤ length fields → requests.spelling op ≡ Some (drop 2 fields) → ⊥) → (e : Entry) → IsTextOf e (4 ∷ fields) → ⊥
asked_none fields none (Asked session op) is =
    let p = asked_parts session op (4 ∷ fields) is in
    let b = begun session fields p.frame (ap (drop 1) p.parts) in
    none op b.0 (p.spelled ∙ ap (λ (xs : List ℕ). Some xs) b.1)
asked_none fields none e is =
    let differ = kind_told e (4 ∷ fields) is in
    absurd cc

pub asked_read : (fields two frame : List ℕ) (n : ℕ) (op : Option Op) (result : Option Entry) → Begins fields two frame n → n < 256 ^ 2 → IfSome op (λ o. requests.spelling o ≡ Some frame)
    → IfNone op ((o : Op) → requests.spelling o ≡ Some frame → ⊥) → result ≡ option_map (λ o. Asked n o) op → IsRead (4 ∷ fields) result
asked_read fields two frame n op result b lt some none is = subst (λ (r : Option Entry). IsRead (4 ∷ fields) r) (sym is) (by op some none)
  where
    by : (op : Option Op) → IfSome op (λ o. requests.spelling o ≡ Some frame) → IfNone op ((o : Op) → requests.spelling o ≡ Some frame → ⊥) → IsRead (4 ∷ fields) (option_map (λ o. Asked n o) op)
    by (Some o) some none = (
      ap (option_map (λ (xs : List ℕ). 4 ∷ (big_bytes 2 n ++ xs))) some ∙ ap (λ (xs : List ℕ). Some (4 ∷ xs)) (begins_so fields two frame n b),
      lt,
    )
    by None some none = asked_none fields (λ o long spelled. none o (spelled ∙ ap (λ (xs : List ℕ). Some xs) (sym b.others)))

-- ## Envelopes

-- the parcel of no envelope stands behind two bytes
pub came_none : (fields : List ℕ) → ((e : Envelope) → 2 ≤ length fields → parcels.spelling e ≡ Some (drop 2 fields) → ⊥) → (e : Entry) → IsTextOf e (5 ∷ fields) → ⊥
came_none fields none (Came dc envelope) is =
    let p = came_parts dc envelope (5 ∷ fields) is in
    let b = begun dc fields p.parcel (ap (drop 1) p.parts) in
    none envelope b.0 (p.spelled ∙ ap (λ (xs : List ℕ). Some xs) b.1)
came_none fields none e is =
    let differ = kind_told e (5 ∷ fields) is in
    absurd cc

pub came_read : (fields two parcel : List ℕ) (n : ℕ) (envelope : Option Envelope) (result : Option Entry) → Begins fields two parcel n → n < 256 ^ 2 → IfSome envelope (λ e. parcels.spelling e ≡ Some parcel)
    → IfNone envelope ((e : Envelope) → parcels.spelling e ≡ Some parcel → ⊥) → result ≡ option_map (λ e. Came n e) envelope → IsRead (5 ∷ fields) result
came_read fields two parcel n envelope result b lt some none is = subst (λ (r : Option Entry). IsRead (5 ∷ fields) r) (sym is) (by envelope some none)
  where
    by : (envelope : Option Envelope) → IfSome envelope (λ e. parcels.spelling e ≡ Some parcel) → IfNone envelope ((e : Envelope) → parcels.spelling e ≡ Some parcel → ⊥) → IsRead (5 ∷ fields) (option_map (λ e. Came n e) envelope)
    by (Some e) some none = (
      ap (option_map (λ (xs : List ℕ). 5 ∷ (big_bytes 2 n ++ xs))) some ∙ ap (λ (xs : List ℕ). Some (5 ∷ xs)) (begins_so fields two parcel n b),
      lt,
    )
    by None some none = came_none fields (λ e long spelled. none e (spelled ∙ ap (λ (xs : List ℕ). Some xs) (sym b.others)))
