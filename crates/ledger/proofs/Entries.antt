-- Texts and their entries.
use Rattle.std.proofs.Common.{◌≡◌, ℕ, ◌<◌, ◌^◌, List, [], ◌∷◌, ◌++◌, drop, Option, Some, None, refl, sym, ap, ◌∙◌}
use Rattle.std.specs.Prelude.{option_map}
use Rattle.std.proofs.lemmas.List.{append-nil, drop_at}
use Rattle.byteorder.specs.Endian.{big_bytes, big_number}
use Rattle.byteorder.specs.Numbers.{length-bytes_high_first, big_number-reads_back}
use Rattle.messages.specs.declared.op.Op.{Op}
use Rattle.wire.specs.Requests.{spelling}
use Rattle.wire.proofs.Streams.{request_apart}
use Rattle.ledger.specs.Entries.{IsTextOf, IsNumbered}
use Rattle.ledger.specs.declared.entry.Entry.{Entry}
use Rattle.ledger.specs.declared.entry.Entry.TheVariants.{Request, Rested}

-- the frame of a text
record IsRequest (session : ℕ) (op : Op) (text : List ℕ) : Type 0 where
  pub frame : List ℕ
  pub spelled : spelling op ≡ Some frame
  pub parts : text ≡ 1 ∷ (big_bytes 2 session ++ frame)

mapped : {A B : Type 0} (f : A → B) (o : Option A) (y : B) → option_map f o ≡ Some y → (x : A) × (o ≡ Some x) × (y ≡ f x)
mapped f (Some x) y e = (x, refl, cc)
mapped f None y e = absurd cc

request_parts : (session : ℕ) (op : Op) (text : List ℕ) → IsTextOf (Request session op) text → IsRequest session op text
request_parts session op text e =
    let m = mapped (λ (frame : List ℕ). 1 ∷ (big_bytes 2 session ++ frame)) (spelling op) text e in
    record { frame = m.0; spelled = m.1; parts = m.2 }

-- numbers of so many bytes, told from what follows
pub front_told : (w a b : ℕ) (f g : List ℕ) → a < 256 ^ w → b < 256 ^ w → big_bytes w a ++ f ≡ big_bytes w b ++ g → (a ≡ b) × (f ≡ g)
front_told w a b f g la lb e =
    let one = sym (big_number-reads_back w a f la) ∙ ap (big_number w) e ∙ big_number-reads_back w b g lb in
    let other = sym (drop_at (big_bytes w a) f w (length-bytes_high_first w a)) ∙ ap (drop w) e ∙ drop_at (big_bytes w b) g w (length-bytes_high_first w b) in
    (one, other)

kinds_apart : (x y : List ℕ) → 1 ∷ x ≡ 2 ∷ y → ⊥
kinds_apart x y e = absurd cc

requests_told : (s t : ℕ) (a b : Op) (text : List ℕ) → s < 256 ^ 2 → t < 256 ^ 2 → IsRequest s a text → IsRequest t b text → Request s a ≡ Request t b
requests_told s t a b text ls lt p q =
    let told = front_told 2 s t p.frame q.frame ls lt (ap (drop 1) (sym p.parts ∙ q.parts)) in
    let same = request_apart a b p.frame q.frame [] p.spelled q.spelled (append-nil p.frame ∙ told.1) in
    ap (λ (n : ℕ). Request n a) told.0 ∙ ap (λ (o : Op). Request t o) same.1

some_is : (x y : List ℕ) → Some x ≡ Some y → x ≡ y
some_is x y e = cc

pub one_entry : (a b : Entry) (text : List ℕ) → IsNumbered a → IsNumbered b → IsTextOf a text → IsTextOf b text → a ≡ b
one_entry (Request s a) (Request t b) text ls lt p q = requests_told s t a b text ls lt (request_parts s a text p) (request_parts t b text q)
one_entry (Request s a) (Rested t) text ls lt p q =
    let r = request_parts s a text p in
    absurd (kinds_apart (big_bytes 2 s ++ r.frame) (big_bytes 2 t) (sym r.parts ∙ sym (some_is (2 ∷ big_bytes 2 t) text q)))
one_entry (Rested s) (Request t b) text ls lt p q =
    let r = request_parts t b text q in
    absurd (kinds_apart (big_bytes 2 t ++ r.frame) (big_bytes 2 s) (sym r.parts ∙ sym (some_is (2 ∷ big_bytes 2 s) text p)))
one_entry (Rested s) (Rested t) text ls lt p q =
    let same = some_is (2 ∷ big_bytes 2 s) text p ∙ sym (some_is (2 ∷ big_bytes 2 t) text q) in
    ap (λ (n : ℕ). Rested n) (front_told 2 s t [] [] ls lt (append-nil (big_bytes 2 s) ∙ ap (drop 1) same ∙ sym (append-nil (big_bytes 2 t)))).0
