-- Texts and their entries.
use Rattle.std.proofs.Common.{◌≡◌, ◌∙◌, ℕ, ◌^◌, ◌<◌, Bool, true, false, cond, List, [], ◌∷◌, ◌++◌, length, take, drop, slice_index, Option, Some, None, refl, sym, ap, arith}
use Rattle.std.specs.Prelude.{option_map, nat_lt, ◌==◌, ◌&&◌}
use Rattle.std.proofs.lemmas.Bool.{and_parts, eqb-true, ltb-true}
use Rattle.std.proofs.lemmas.List.{append-nil, take_at, drop_at}
use Rattle.byteorder.specs.Endian.{big_bytes, big_number}
use Rattle.byteorder.specs.Numbers.{length-bytes_high_first, big_number-reads_back}
use Rattle.messages.specs.declared.op.Op.{Op}
use Rattle.messages.specs.declared.envelope.Envelope.{Envelope}
use Rattle.wire.specs.Requests as requests
use Rattle.wire.proofs.Streams.{request_apart}
use Rattle.parcels.specs.Spelling as parcels
use Rattle.site_ledger.specs.Entries.{IsTextOf, IsNumbered}
use Rattle.site_ledger.specs.declared.entry.Entry.{Entry}
use Rattle.site_ledger.specs.declared.entry.Entry.TheVariants.{Whose, Asked, Came, Turned, Collected, Met}
use Rattle.site_ledger.proofs.Parcels.{one_envelope}

-- ## The parts of a text

given : (b : Bool) (x y : List ℕ) → cond b (Some x) None ≡ Some y → (b ≡ true) × (y ≡ x)
given true x y e = (refl, cc)
given false x y e = absurd cc

mapped : {A : Type 0} (f : A → List ℕ) (o : Option A) (y : List ℕ) → option_map f o ≡ Some y → (x : A) × (o ≡ Some x) × (y ≡ f x)
mapped f (Some x) y e = (x, refl, cc)
mapped f None y e = absurd cc

some_is : (x y : List ℕ) → Some x ≡ Some y → y ≡ x
some_is x y e = cc

pub record IsWhose (dc : ℕ) (i d text : List ℕ) : Type 0 where
  pub incarnation : length i ≡ 16
  pub digest : length d ≡ 32
  pub parts : text ≡ 3 ∷ (big_bytes 2 dc ++ (i ++ d))

pub record IsAsked (session : ℕ) (op : Op) (text : List ℕ) : Type 0 where
  pub frame : List ℕ
  pub spelled : requests.spelling op ≡ Some frame
  pub parts : text ≡ 4 ∷ (big_bytes 2 session ++ frame)

pub record IsCame (dc : ℕ) (envelope : Envelope) (text : List ℕ) : Type 0 where
  pub parcel : List ℕ
  pub spelled : parcels.spelling envelope ≡ Some parcel
  pub parts : text ≡ 5 ∷ (big_bytes 2 dc ++ parcel)

pub record IsCollected (shard time : ℕ) (text : List ℕ) : Type 0 where
  pub time_fits : time < 2 ^ 48
  pub parts : text ≡ 7 ∷ (big_bytes 2 shard ++ big_bytes 8 time)

pub record IsMet (dc : ℕ) (i text : List ℕ) : Type 0 where
  pub incarnation : length i ≡ 16
  pub parts : text ≡ 8 ∷ (big_bytes 2 dc ++ i)

pub whose_parts : (dc : ℕ) (i d text : List ℕ) → IsTextOf (Whose dc i d) text → IsWhose dc i d text
whose_parts dc i d text e =
    let g = given (length i == 16 && length d == 32) (3 ∷ (big_bytes 2 dc ++ (i ++ d))) text e in
    let p = and_parts (length i == 16) (length d == 32) g.0 in
    record { incarnation = eqb-true (length i) 16 p.0; digest = eqb-true (length d) 32 p.1; parts = g.1 }

pub asked_parts : (session : ℕ) (op : Op) (text : List ℕ) → IsTextOf (Asked session op) text → IsAsked session op text
asked_parts session op text e =
    let m = mapped (λ (frame : List ℕ). 4 ∷ (big_bytes 2 session ++ frame)) (requests.spelling op) text e in
    record { frame = m.0; spelled = m.1; parts = m.2 }

pub came_parts : (dc : ℕ) (envelope : Envelope) (text : List ℕ) → IsTextOf (Came dc envelope) text → IsCame dc envelope text
came_parts dc envelope text e =
    let m = mapped (λ (parcel : List ℕ). 5 ∷ (big_bytes 2 dc ++ parcel)) (parcels.spelling envelope) text e in
    record { parcel = m.0; spelled = m.1; parts = m.2 }

pub turned_parts : (count : ℕ) (text : List ℕ) → IsTextOf (Turned count) text → text ≡ 6 ∷ big_bytes 4 count
turned_parts count text e = some_is (6 ∷ big_bytes 4 count) text e

pub collected_parts : (shard time : ℕ) (text : List ℕ) → IsTextOf (Collected shard time) text → IsCollected shard time text
collected_parts shard time text e =
    let g = given (nat_lt time (2 ^ 48)) (7 ∷ (big_bytes 2 shard ++ big_bytes 8 time)) text e in
    record { time_fits = ltb-true time (2 ^ 48) g.0; parts = g.1 }

pub met_parts : (dc : ℕ) (i text : List ℕ) → IsTextOf (Met dc i) text → IsMet dc i text
met_parts dc i text e =
    let g = given (length i == 16) (8 ∷ (big_bytes 2 dc ++ i)) text e in
    record { incarnation = eqb-true (length i) 16 g.0; parts = g.1 }

-- ## Kinds

abbrev pub kind_of : Entry → ℕ
kind_of (Whose dc incarnation digest) = 3
kind_of (Asked session op) = 4
kind_of (Came dc envelope) = 5
kind_of (Turned count) = 6
kind_of (Collected shard time) = 7
kind_of (Met dc incarnation) = 8

pub kind_told : (e : Entry) (text : List ℕ) → IsTextOf e text → slice_index text 0 ≡ kind_of e
kind_told (Whose dc i d) text e = ap (λ (t : List ℕ). slice_index t 0) (whose_parts dc i d text e).parts
kind_told (Asked session op) text e = ap (λ (t : List ℕ). slice_index t 0) (asked_parts session op text e).parts
kind_told (Came dc envelope) text e = ap (λ (t : List ℕ). slice_index t 0) (came_parts dc envelope text e).parts
kind_told (Turned count) text e = ap (λ (t : List ℕ). slice_index t 0) (turned_parts count text e)
kind_told (Collected shard time) text e = ap (λ (t : List ℕ). slice_index t 0) (collected_parts shard time text e).parts
kind_told (Met dc i) text e = ap (λ (t : List ℕ). slice_index t 0) (met_parts dc i text e).parts

-- ## One entry

-- numbers of so many bytes, told from what follows
front_told : (w a b : ℕ) (f g : List ℕ) → a < 256 ^ w → b < 256 ^ w → big_bytes w a ++ f ≡ big_bytes w b ++ g → (a ≡ b) × (f ≡ g)
front_told w a b f g la lb e =
    let one = sym (big_number-reads_back w a f la) ∙ ap (big_number w) e ∙ big_number-reads_back w b g lb in
    let other = sym (drop_at (big_bytes w a) f w (length-bytes_high_first w a)) ∙ ap (drop w) e ∙ drop_at (big_bytes w b) g w (length-bytes_high_first w b) in
    (one, other)

-- a number that takes all bytes
whole_told : (w a b : ℕ) → a < 256 ^ w → b < 256 ^ w → big_bytes w a ≡ big_bytes w b → a ≡ b
whole_told w a b la lb e = (front_told w a b [] [] la lb (append-nil (big_bytes w a) ∙ e ∙ sym (append-nil (big_bytes w b)))).0

-- what stands behind the kind
behind : (k : ℕ) (x y text : List ℕ) → text ≡ k ∷ x → text ≡ k ∷ y → x ≡ y
behind k x y text p q = ap (drop 1) (sym p ∙ q)

whose_told : (a b : ℕ) (i j d g text : List ℕ) → a < 256 ^ 2 → b < 256 ^ 2 → IsWhose a i d text → IsWhose b j g text → Whose a i d ≡ Whose b j g
whose_told a b i j d g text la lb p q =
    let told = front_told 2 a b (i ++ d) (j ++ g) la lb (behind 3 (big_bytes 2 a ++ (i ++ d)) (big_bytes 2 b ++ (j ++ g)) text p.parts q.parts) in
    let one : i ≡ j = sym (take_at i d 16 p.incarnation) ∙ ap (take 16) told.1 ∙ take_at j g 16 q.incarnation in
    let other : d ≡ g = sym (drop_at i d 16 p.incarnation) ∙ ap (drop 16) told.1 ∙ drop_at j g 16 q.incarnation in
    ap (λ (n : ℕ). Whose n i d) told.0 ∙ ap (λ (x : List ℕ). Whose b x d) one ∙ ap (λ (x : List ℕ). Whose b j x) other

asked_told : (s t : ℕ) (a b : Op) (text : List ℕ) → s < 256 ^ 2 → t < 256 ^ 2 → IsAsked s a text → IsAsked t b text → Asked s a ≡ Asked t b
asked_told s t a b text ls lt p q =
    let told = front_told 2 s t p.frame q.frame ls lt (behind 4 (big_bytes 2 s ++ p.frame) (big_bytes 2 t ++ q.frame) text p.parts q.parts) in
    let same = request_apart a b p.frame q.frame [] p.spelled q.spelled (append-nil p.frame ∙ told.1) in
    ap (λ (n : ℕ). Asked n a) told.0 ∙ ap (λ (o : Op). Asked t o) same.1

came_told : (s t : ℕ) (a b : Envelope) (text : List ℕ) → s < 256 ^ 2 → t < 256 ^ 2 → IsCame s a text → IsCame t b text → Came s a ≡ Came t b
came_told s t a b text ls lt p q =
    let told = front_told 2 s t p.parcel q.parcel ls lt (behind 5 (big_bytes 2 s ++ p.parcel) (big_bytes 2 t ++ q.parcel) text p.parts q.parts) in
    let same = one_envelope a b q.parcel (p.spelled ∙ ap (λ (xs : List ℕ). Some xs) told.1) q.spelled in
    ap (λ (n : ℕ). Came n a) told.0 ∙ ap (λ (x : Envelope). Came t x) same

collected_told : (s t a b : ℕ) (text : List ℕ) → s < 256 ^ 2 → t < 256 ^ 2 → IsCollected s a text → IsCollected t b text → Collected s a ≡ Collected t b
collected_told s t a b text ls lt p q =
    let told = front_told 2 s t (big_bytes 8 a) (big_bytes 8 b) ls lt (behind 7 (big_bytes 2 s ++ big_bytes 8 a) (big_bytes 2 t ++ big_bytes 8 b) text p.parts q.parts) in
    let fits = p.time_fits in
    let fits' = q.time_fits in
    let same = whole_told 8 a b (omega arith) (omega arith) told.1 in
    ap (λ (n : ℕ). Collected n a) told.0 ∙ ap (λ (n : ℕ). Collected t n) same

met_told : (a b : ℕ) (i j text : List ℕ) → a < 256 ^ 2 → b < 256 ^ 2 → IsMet a i text → IsMet b j text → Met a i ≡ Met b j
met_told a b i j text la lb p q =
    let told = front_told 2 a b i j la lb (behind 8 (big_bytes 2 a ++ i) (big_bytes 2 b ++ j) text p.parts q.parts) in
    ap (λ (n : ℕ). Met n i) told.0 ∙ ap (λ (x : List ℕ). Met b x) told.1

pub one_entry : (a b : Entry) (text : List ℕ) → IsNumbered a → IsNumbered b → IsTextOf a text → IsTextOf b text → a ≡ b
one_entry (Whose m i d) (Whose n j g) text la lb p q = whose_told m n i j d g text la lb (whose_parts m i d text p) (whose_parts n j g text q)
one_entry (Asked s a) (Asked t b) text la lb p q = asked_told s t a b text la lb (asked_parts s a text p) (asked_parts t b text q)
one_entry (Came s a) (Came t b) text la lb p q = came_told s t a b text la lb (came_parts s a text p) (came_parts t b text q)
one_entry (Turned m) (Turned n) text la lb p q =
    ap (λ (x : ℕ). Turned x) (whole_told 4 m n la lb (behind 6 (big_bytes 4 m) (big_bytes 4 n) text (turned_parts m text p) (turned_parts n text q)))
one_entry (Collected s a) (Collected t b) text la lb p q = collected_told s t a b text la lb (collected_parts s a text p) (collected_parts t b text q)
one_entry (Met m i) (Met n j) text la lb p q = met_told m n i j text la lb (met_parts m i text p) (met_parts n j text q)
one_entry a b text la lb p q =
    let differ = sym (kind_told a text p) ∙ kind_told b text q in
    absurd cc
