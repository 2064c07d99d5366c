-- A store's numbers fit into the bytes of its head.
use Rattle.std.proofs.Common.{◌≡◌, ℕ, ◌+◌, ◌*◌, ◌-◌, ◌<◌, ◌≤◌, ◌^◌, Bool, true, Some, None, List, [], ◌∷◌, ◌++◌, All, length, take, drop, slice_index, min, refl, sym, ap, subst, ◌∙◌, arith, leb-true, ltb-true, length-append}
use Rattle.std.specs.Prelude.{◌&&◌, nat_le, nat_lt}
use Rattle.std.specs.List.{list_all}
use Rattle.std.proofs.lemmas.Bool.{and_parts}
use Rattle.std.proofs.lemmas.List.{take_all}
use Rattle.std.proofs.lemmas.List.Elements.{All-nil, All-cons, All-head, All-tail}
use Rattle.std.proofs.Math.Nat.{min-eq_left}
use Rattle.std.proofs.Math.Seq.{take-append_seam, drop-append_seam}
use Rattle.byteorder.specs.Endian.{big_bytes}
use Rattle.column_family.specs.Schema.{is_family_name, is_family_byte, are_distinct}
use Rattle.messages.specs.Topology.{TopologyValue}
use Rattle.records.specs.Records.{Entry as Record, spelling, front_at}
use Rattle.records.proofs.Recovered.{front_again}
use Rattle.ledger.specs.Heads.{homes_text, families_text, topology_text, IsStore}

pub record Fits (top : TopologyValue) : Type 0 where
  pub dcs : top.dcs < 65536
  pub shards : top.shards < 65536
  pub sessions : length top.homes ≤ 10000
  pub homes : All (λ home. home < 65536) top.homes
  pub few : length top.schema ≤ 16
  pub names : All (λ name. length name ≤ 64) top.schema

homes_fit : (n : ℕ) (homes : List ℕ) → n ≤ 4 → list_all (λ d. nat_lt d n) homes ≡ true → All (λ home. home < 65536) homes
homes_fit n [] le e = All-nil (λ home. home < 65536)
homes_fit n (h ∷ hs) le e =
    let p = and_parts (nat_lt h n) (list_all (λ d. nat_lt d n) hs) e in
    let lt = ltb-true h n p.0 in
    let small : h < 65536 = omega arith in
    All-cons (λ home. home < 65536) h hs small (homes_fit n hs le p.1)

names_fit : (names : List (List ℕ)) → list_all is_family_name names ≡ true → All (λ name. length name ≤ 64) names
names_fit [] e = All-nil (λ name. length name ≤ 64)
names_fit (f ∷ fs) e =
    let p = and_parts (is_family_name f) (list_all is_family_name fs) e in
    let q = and_parts (nat_le 1 (length f) && nat_le (length f) 64) (list_all is_family_byte f) p.0 in
    All-cons (λ name. length name ≤ 64) f fs (leb-true (length f) 64 (and_parts (nat_le 1 (length f)) (nat_le (length f) 64) q.0).1) (names_fit fs p.1)

pub fits : (top : TopologyValue) → IsStore top → Fits top
fits top is =
    let p = and_parts (nat_le 1 top.dcs && nat_le top.dcs 4 && nat_le 1 top.shards && nat_le top.shards 8 && nat_le 1 (length top.homes) && nat_le
    (length top.homes) 10000) (list_all (λ d. nat_lt d top.dcs) top.homes) is.0 in
    let a = and_parts (nat_le 1 top.dcs && nat_le top.dcs 4 && nat_le 1 top.shards && nat_le top.shards 8 && nat_le 1 (length top.homes))
    (nat_le (length top.homes) 10000) p.0 in
    let b = and_parts (nat_le 1 top.dcs && nat_le top.dcs 4 && nat_le 1 top.shards && nat_le top.shards 8) (nat_le 1 (length top.homes)) a.0 in
    let c = and_parts (nat_le 1 top.dcs && nat_le top.dcs 4 && nat_le 1 top.shards) (nat_le top.shards 8) b.0 in
    let d = and_parts (nat_le 1 top.dcs && nat_le top.dcs 4) (nat_le 1 top.shards) c.0 in
    let dcs = leb-true top.dcs 4 (and_parts (nat_le 1 top.dcs) (nat_le top.dcs 4) d.0).1 in
    let shards = leb-true top.shards 8 c.1 in
    let s = and_parts (nat_le 1 (length top.schema) && nat_le (length top.schema) 16 && list_all is_family_name top.schema) (are_distinct top.schema) is.1 in
    let t = and_parts (nat_le 1 (length top.schema) && nat_le (length top.schema) 16) (list_all is_family_name top.schema) s.0 in
    record {
      dcs = omega arith;
      shards = omega arith;
      sessions = leb-true (length top.homes) 10000 a.1;
      homes = homes_fit top.dcs top.homes dcs p.1;
      few = leb-true (length top.schema) 16 (and_parts (nat_le 1 (length top.schema)) (nat_le (length top.schema) 16) t.0).1;
      names = names_fit top.schema t.1;
    }

-- ## How long a text is

pub length_homes : (homes : List ℕ) → length (homes_text homes) ≡ length homes * 2
length_homes [] = refl
length_homes (h ∷ hs) = let rest = length_homes hs in omega arith

-- ## What a text tells

-- the number that two bytes of a text spell is the one that they were spelled of
abbrev pub SpellsAt : List ℕ → ℕ → ℕ → Type 0
SpellsAt text i value = (n : ℕ) → n < 65536 → slice_index text i ∷ slice_index text (i + 1) ∷ [] ≡ big_bytes 2 n → value ≡ n

abbrev pub behind_six : List ℕ → List ℕ
behind_six text = take (length text - 6) (drop 6 text)

module _ (top : TopologyValue) (is : IsStore top) (text : List ℕ) (spelled : text ≡ topology_text top) where
  f : Fits top
  f = fits top is

  pub dcs_told : (value : ℕ) → SpellsAt text 0 value → value ≡ top.dcs
  dcs_told value back = back top.dcs f.dcs (subst (λ (t : List ℕ). slice_index t 0 ∷ slice_index t 1 ∷ [] ≡ big_bytes 2 top.dcs) (sym spelled) refl)

  pub shards_told : (value : ℕ) → SpellsAt text 2 value → value ≡ top.shards
  shards_told value back = back top.shards f.shards (subst (λ (t : List ℕ). slice_index t 2 ∷ slice_index t 3 ∷ [] ≡ big_bytes 2 top.shards) (sym spelled) refl)

  sessions_told : (value : ℕ) → SpellsAt text 4 value → value ≡ length top.homes
  sessions_told value back =
      let few = f.sessions in
      let lt : length top.homes < 65536 = omega arith in
      back (length top.homes) lt (subst (λ (t : List ℕ). slice_index t 4 ∷ slice_index t 5 ∷ [] ≡ big_bytes 2 (length top.homes)) (sym spelled) refl)

  rest_told : behind_six text ≡ homes_text top.homes ++ families_text top.schema
  rest_told = subst (λ (t : List ℕ). behind_six t ≡ homes_text top.homes ++ families_text top.schema) (sym spelled)
      (take_all (length (topology_text top) - 6) (homes_text top.homes ++ families_text top.schema) (omega arith))

  module _ (front back : List ℕ) (sessions n : ℕ) (spells : SpellsAt text 4 sessions) (least : n ≡ min (sessions * 2) (length (behind_six text))) (front_is : front ≡ take n (behind_six text))
      (back_is : back ≡ drop n (behind_six text)) where
    at : n ≡ length (homes_text top.homes)
    at =
        let hs = homes_text top.homes in
        let both = hs ++ families_text top.schema in
        let fewer : length hs ≤ length both = omega (arith, length-append hs (families_text top.schema)) in
        least ∙ ap (λ v. min (v * 2) (length (behind_six text))) (sessions_told sessions spells) ∙ ap (λ v. min v (length (behind_six text))) (sym (length_homes top.homes)) ∙ ap (λ (l : List ℕ). min (length hs) (length l)) rest_told
        ∙ min-eq_left fewer

    pub homes_told : (homes : List ℕ) → ((hs : List ℕ) → All (λ home. home < 65536) hs → front ≡ homes_text hs → homes ≡ hs) → homes ≡ top.homes
    homes_told homes read =
        read top.homes f.homes
        (front_is ∙ ap (λ m. take m (behind_six text)) at ∙ ap (λ (l : List ℕ). take (length (homes_text top.homes)) l) rest_told ∙ take-append_seam (homes_text top.homes) (families_text top.schema))

    pub names_told : (names : List (List ℕ)) → ((ns : List (List ℕ)) → All (λ name. length name < 65536) ns → back ≡ families_text ns → names ≡ ns) → names ≡ top.schema
    names_told names read =
        read top.schema (λ k d lt. let short = f.names k d lt in omega arith)
        (back_is ∙ ap (λ m. drop m (behind_six text)) at ∙ ap (λ (l : List ℕ). drop (length (homes_text top.homes)) l) rest_told ∙ drop-append_seam (homes_text top.homes) (families_text top.schema))

-- ## The record of a head

length_families : (names : List (List ℕ)) → All (λ name. length name ≤ 64) names → length (families_text names) ≤ length names * 66
length_families [] short = omega arith
length_families (f ∷ fs) short =
    let one = All-head (λ name. length name ≤ 64) f fs short in
    let rest = length_families fs (All-tail (λ name. length name ≤ 64) f fs short) in
    omega (arith, length-append f (families_text fs))

text_fits : (top : TopologyValue) → IsStore top → length (topology_text top) < 256 ^ 4
text_fits top is =
    let f = fits top is in
    let sessions = f.sessions in
    let few = f.few in
    let homes = length_homes top.homes in
    let names = length_families top.schema f.names in
    let all : length (topology_text top) ≤ 30000 = omega (arith, length-append (homes_text top.homes) (families_text top.schema)) in
    omega arith

-- the record that a head has, as it is read
abbrev pub Told : ℕ → List ℕ → TopologyValue → List ℕ → Type 0
Told secret rest top more = rest ≡ spelling secret 0 (record { first = true; body = topology_text top }) ++ more

front_told : (secret : ℕ) (rest more : List ℕ) (top : TopologyValue) → IsStore top → Told secret rest top more → front_at secret 0 rest ≡ Some (record { first = true; body = topology_text top })
front_told secret rest more top is told = ap (front_at secret 0) told ∙ front_again secret 0 (record { first = true; body = topology_text top }) more (text_fits top is)

pub text_told : (secret : ℕ) (rest more text : List ℕ) (first : Bool) (top : TopologyValue) → IsStore top → Told secret rest top more → Some (record { first = first; body = text }) ≡ front_at secret 0 rest → text ≡ topology_text top
text_told secret rest more text first top is told found = body (found ∙ front_told secret rest more top is told)
  where
    body : {a b : Record} → Some a ≡ Some b → a.body ≡ b.body
    body {a = a} {b = b} h = let same : a ≡ b = cc in ap (λ (r : Record). r.body) same

pub some_told : (secret : ℕ) (rest more : List ℕ) (top : TopologyValue) → IsStore top → Told secret rest top more → None ≡ front_at secret 0 rest → ⊥
some_told secret rest more top is told none = differ (none ∙ front_told secret rest more top is told)
  where
    differ : {r : Record} → None ≡ Some r → ⊥
    differ h = cc
