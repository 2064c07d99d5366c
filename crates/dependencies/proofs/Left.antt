-- Answers that are missing, and the transactions among which they are looked up.
use Rattle.std.proofs.Common.{◌≡◌, ◌∙◌, ap, sym, refl, Bool, true, false, ◌||◌, List, [], ◌∷◌, filter, length, cond}
use Rattle.std.specs.Prelude.{◌&&◌, not, if◌then◌else◌}
use Rattle.std.specs.List.{list_any}
use Rattle.std.specs.Ordering.{is_eq}
use Rattle.std.specs.BTreeSet.{BTreeSet, contains}
use Rattle.logical_time.specs.Stamps.{TxnValue, WriterValue, txn_cmp}
use Rattle.messages.specs.Words.{is_same_txn}
use Rattle.messages.specs.SessionEvents.{is_left, left_after}
use Rattle.dependencies.specs.Moving.{still_missing, AreAsked, none_left}
use Rattle.dependencies.proofs.Txns.{same_txn, same_itself}

-- what is left where each answer is looked up by this test
abbrev by : (TxnValue → Bool) → List WriterValue → List WriterValue
by has ws = filter (λ w. has w.txn) ws

all_kept : (has : TxnValue → Bool) (ws vs : List WriterValue) → ((t : TxnValue) → is_left t vs ≡ true → has t ≡ true)
    → ((t : TxnValue) → is_left t ws ≡ true → is_left t vs ≡ true) → by has ws ≡ ws
all_kept has [] vs h among = refl
all_kept has (w ∷ ws) vs h among =
    ap (λ b. if b then w ∷ by has ws else by has ws) (h w.txn (among w.txn (ap (λ b. b || is_left w.txn ws) (same_itself w.txn))))
    ∙ ap (λ l. w ∷ l) (all_kept has ws vs h (λ t e. among t (later (is_same_txn w.txn t) e)))
  where
    later : (b : Bool) {c : Bool} → c ≡ true → (b || c) ≡ true
    later true e = refl
    later false e = e

-- at first all are missing
pub all_missing : (txns : BTreeSet TxnValue) (ws : List WriterValue) → ((t : TxnValue) → contains txn_cmp txns t ≡ is_left t ws)
    → still_missing txns ws ≡ ws
all_missing txns ws same = all_kept (contains txn_cmp txns) ws ws (λ t e. same t ∙ e) (λ t e. e)

-- those whose answer is missing are those that are looked up
counted_by : (has has' : TxnValue → Bool) (d : TxnValue) (ws : List WriterValue) → ((t : TxnValue) → has' t ≡ cond (is_same_txn d t) false (has t))
    → ((t : TxnValue) → is_same_txn d t ≡ is_same_txn t d) → by has' ws ≡ left_after d (by has ws)
counted_by has has' d [] step flip = refl
counted_by has has' d (w ∷ ws) step flip =
    ap (λ b. if b then w ∷ by has' ws else by has' ws) (step w.txn ∙ ap (λ b. cond b false (has w.txn)) (flip w.txn))
    ∙ ap (λ l. if cond (is_same_txn w.txn d) false (has w.txn) then w ∷ l else l) (counted_by has has' d ws step flip)
    ∙ go (has w.txn)
  where
    own : (s : Bool) → is_same_txn w.txn d ≡ s → (if cond s false true then w ∷ left_after d (by has ws) else left_after d (by has ws)) ≡ left_after d (w ∷ by has ws)
    own true e = ap (λ b. if not b then w ∷ left_after d (by has ws) else left_after d (by has ws)) (sym e)
    own false e = ap (λ b. if not b then w ∷ left_after d (by has ws) else left_after d (by has ws)) (sym e)

    out : (s : Bool) → (if cond s false false then w ∷ left_after d (by has ws) else left_after d (by has ws)) ≡ left_after d (by has ws)
    out true = refl
    out false = refl

    go : (b : Bool) → (if cond (is_same_txn w.txn d) false b then w ∷ left_after d (by has ws) else left_after d (by has ws))
        ≡ left_after d (if b then w ∷ by has ws else by has ws)
    go true = own (is_same_txn w.txn d) refl
    go false = out (is_same_txn w.txn d)

left_by : (has : TxnValue → Bool) (d : TxnValue) (ws : List WriterValue) → is_left d (by has ws) ≡ (has d && is_left d ws)
left_by has d [] = go (has d)
  where
    go : (b : Bool) → false ≡ (b && false)
    go true = refl
    go false = refl
left_by has d (w ∷ ws) = go (has w.txn) (is_same_txn w.txn d) refl refl (left_by has d ws)
  where
    go : (b s : Bool) → has w.txn ≡ b → is_same_txn w.txn d ≡ s → is_left d (by has ws) ≡ (has d && is_left d ws)
        → is_left d (if b then w ∷ by has ws else by has ws) ≡ (has d && (s || is_left d ws))
    go true true e same h = ap (λ s. s || is_left d (by has ws)) same ∙ sym (ap (λ b. b && true) (sym (ap has (same_txn w.txn d same)) ∙ e))
    go false true e same h = h ∙ ap (λ b. b && is_left d ws) (sym (ap has (same_txn w.txn d same)) ∙ e) ∙ sym (ap (λ b. b && true) (sym (ap has (same_txn w.txn d same)) ∙ e))
    go true false e same h = ap (λ s. s || is_left d (by has ws)) same ∙ h
    go false false e same h = h

-- what is looked up is missing
pub missing_known : (txns : BTreeSet TxnValue) (ws : List WriterValue) (d : TxnValue) → AreAsked txns ws → contains txn_cmp txns d ≡ is_left d (still_missing txns ws)
missing_known txns ws d asked = sym (left_by (contains txn_cmp txns) d ws ∙ go (contains txn_cmp txns d) refl)
  where
    go : (b : Bool) → contains txn_cmp txns d ≡ b → (b && is_left d ws) ≡ b
    go true e = asked d e
    go false e = refl

flipped : (d t : TxnValue) → is_same_txn d t ≡ is_same_txn t d
flipped d t = go (is_same_txn d t) (is_same_txn t d) refl refl
  where
    go : (a b : Bool) → is_same_txn d t ≡ a → is_same_txn t d ≡ b → a ≡ b
    go true true e f = refl
    go false false e f = refl
    go true false e f = sym (ap (λ u. is_same_txn t u) (same_txn d t e) ∙ same_itself t) ∙ f
    go false true e f = sym e ∙ ap (λ u. is_same_txn d u) (same_txn t d f) ∙ same_itself d

-- once an answer is counted
pub counted_out : (before after : BTreeSet TxnValue) (ws : List WriterValue) (d : TxnValue)
    → ((t : TxnValue) → contains txn_cmp after t ≡ cond (is_same_txn d t) false (contains txn_cmp before t)) → still_missing after ws ≡ left_after d (still_missing before ws)
counted_out before after ws d step = counted_by (contains txn_cmp before) (contains txn_cmp after) d ws step (flipped d)

pub counted_asked : (before after : BTreeSet TxnValue) (ws : List WriterValue) (d : TxnValue)
    → ((t : TxnValue) → contains txn_cmp after t ≡ cond (is_same_txn d t) false (contains txn_cmp before t)) → AreAsked before ws → AreAsked after ws
counted_asked before after ws d step asked t e = asked t (go (is_same_txn d t) (contains txn_cmp before t) (sym (step t) ∙ e))
  where
    go : (s b : Bool) → cond s false b ≡ true → b ≡ true
    go true b h = absurd (cc)
    go false b h = h

none_kept : (has : TxnValue → Bool) (ws : List WriterValue) → ((t : TxnValue) → has t ≡ false) → by has ws ≡ []
none_kept has [] none = refl
none_kept has (w ∷ ws) none = ap (λ b. if b then w ∷ by has ws else by has ws) (none w.txn) ∙ none_kept has ws none

some_left : (d : TxnValue) (ws : List WriterValue) → is_left d ws ≡ true → none_left ws ≡ false
some_left d [] e = absurd (cc)
some_left d (w ∷ ws) e = refl

-- an empty set means that no answer is missing
pub none_missing : (txns : BTreeSet TxnValue) (ws : List WriterValue) → AreAsked txns ws → txns.keys ≡ [] → none_left (still_missing txns ws) ≡ true
none_missing txns ws asked e = ap none_left (none_kept (contains txn_cmp txns) ws (λ t. ap (list_any (λ k. is_eq (txn_cmp t k))) e))

pub some_missing : (txns : BTreeSet TxnValue) (ws : List WriterValue) (t : TxnValue) (ts : List TxnValue) → AreAsked txns ws → txns.keys ≡ t ∷ ts
    → none_left (still_missing txns ws) ≡ false
some_missing txns ws t ts asked e =
    let known : contains txn_cmp txns t ≡ true =
    ap (list_any (λ k. is_eq (txn_cmp t k))) e ∙ ap (λ b. b || list_any (λ k. is_eq (txn_cmp t k)) ts) (same_itself t) in
    some_left t (still_missing txns ws) (sym (missing_known txns ws t asked) ∙ known)

pub is_none_missing : (b : Bool) (txns : BTreeSet TxnValue) (ws : List WriterValue) → AreAsked txns ws → (b ≡ true → length txns.keys ≡ 0) → (length txns.keys ≡ 0 → b ≡ true)
    → b ≡ none_left (still_missing txns ws)
is_none_missing b txns ws asked there back = go txns.keys refl
  where
    go : (ts : List TxnValue) → txns.keys ≡ ts → b ≡ none_left (still_missing txns ws)
    go [] e = back (ap length e) ∙ sym (none_missing txns ws asked e)
    go (t ∷ ts) e = not_true b (λ h. absurd (let z = sym (ap length e) ∙ there h in cc)) ∙ sym (some_missing txns ws t ts asked e)
      where
        not_true : (c : Bool) → (c ≡ true → c ≡ false) → c ≡ false
        not_true true h = h refl
        not_true false h = refl

-- an answer that isn't missing leaves what is left
pub others_stay : (d : TxnValue) (ws : List WriterValue) → is_left d ws ≡ false → left_after d ws ≡ ws
others_stay d [] e = refl
others_stay d (w ∷ ws) e = go (is_same_txn w.txn d) e (others_stay d ws)
  where
    go : (s : Bool) → (s || is_left d ws) ≡ false → (is_left d ws ≡ false → left_after d ws ≡ ws)
        → (if not s then w ∷ left_after d ws else left_after d ws) ≡ w ∷ ws
    go true h rest = absurd (cc)
    go false h rest = ap (λ l. w ∷ l) (rest h)
