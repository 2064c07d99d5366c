-- How records stand in a file, and which records any bytes stand for.
use Rattle.std.specs.Prelude.{◌≡◌, ◌⊎◌, ◌==◌, ◌&&◌, ◌||◌, ◌<◌, ◌^◌, ℕ, zero, suc, ◌+◌, nat_lt, nat_le, Bool, true, false, if◌then◌else◌, List, [], ◌∷◌, ◌++◌, length, take, drop, slice_index, bytes_eq, map, Option, Some, None}
use Rattle.std.specs.List.{AllByRecursion}
use Rattle.std.specs.Hash.DefaultHasher as sip
use Rattle.std.specs.Int.{w64, to_be_bytes}
use Rattle.byteorder.specs.Endian.{big_bytes, big_number}
use Rattle.records.specs.declared.record.Record.{Record}

-- a text, and whether it is the first of those that were synced together
pub record Entry : Type 0 where
  pub first : Bool
  pub body : List ℕ

abbrev pub view : Record → Entry
view r = record { first = r.first; body = r.body.items }

abbrev pub views : List Record → List Entry
views rs = map view rs

abbrev pub flag : Bool → ℕ
flag false = 0
flag true = 1

-- the sum of a text as a number: by the secret of its file, its place there, and its mark
unfoldable pub hash_of : ℕ → ℕ → ℕ → List ℕ → ℕ
hash_of secret place mark body =
    sip.finish (sip.write (sip.write (sip.write (sip.write sip.initial (to_be_bytes w64 secret)) (to_be_bytes w64 place)) (mark ∷ [])) body)

-- in eight bytes
unfoldable pub sum_of : ℕ → ℕ → ℕ → List ℕ → List ℕ
sum_of secret place mark body = to_be_bytes w64 (hash_of secret place mark body)

-- the stamp of a place, by which it is seen that a record begins there, whatever became of its text: the sum of no text
-- under a mark that no record has
unfoldable pub stamp_of : ℕ → ℕ → Bool → List ℕ
stamp_of secret place first = sum_of secret place (2 + flag first) []

-- what stands behind a stamp: the sum of the text, the mark, the length and the text
abbrev pub sealed : ℕ → ℕ → Entry → List ℕ
sealed secret place e = sum_of secret place (flag e.first) e.body ++ (flag e.first ∷ (big_bytes 4 (length e.body) ++ e.body))

-- a record at a place
abbrev pub spelling : ℕ → ℕ → Entry → List ℕ
spelling secret place e = stamp_of secret place e.first ++ sealed secret place e

abbrev pub size : Entry → ℕ
size e = 21 + length e.body

-- records one after the other, from a place on
abbrev pub spelled : ℕ → ℕ → List Entry → List ℕ
spelled secret place [] = []
spelled secret place (e ∷ es) = spelling secret place e ++ spelled secret (place + size e) es

-- its length fits into four bytes
abbrev pub Fits : Entry → Type 0
Fits e = length e.body < 256 ^ 4

abbrev pub AllFit : List Entry → Type 0
AllFit es = AllByRecursion Fits es

-- ## Which records any bytes stand for

-- the record with this mark, this text and this sum, if the sum is right
unfoldable pub tested : ℕ → ℕ → ℕ → List ℕ → List ℕ → Option Entry
tested secret place mark sum body =
    if bytes_eq sum (sum_of secret place mark body) && nat_le mark 1 then Some (record { first = mark == 1; body = body }) else None

-- the record whose sealed text stands first in bytes, if one does
unfoldable pub unsealed : ℕ → ℕ → List ℕ → Option Entry
unsealed secret place bytes =
    if nat_lt (length bytes) 13 then None
    else (if nat_lt (length bytes) (13 + big_number 4 (drop 9 bytes)) then None
    else tested secret place (slice_index bytes 8) (take 8 bytes) (take (big_number 4 (drop 9 bytes)) (drop 13 bytes)))

-- the record that stands first in bytes from this place on, if one does
unfoldable pub front_at : ℕ → ℕ → List ℕ → Option Entry
front_at secret place bytes =
    if nat_lt (length bytes) 21 then None
    else (if bytes_eq (take 8 bytes) (stamp_of secret place (slice_index bytes 16 == 1)) then unsealed secret place (drop 8 bytes) else None)

unfoldable pub with_front : Option Entry → (Entry → List Entry) → List Entry
with_front None others = []
with_front (Some e) others = e ∷ others e

-- the records that stand one after the other in bytes from this place on, so many bytes passed over
unfoldable pub recovered : ℕ → ℕ → ℕ → List ℕ → List Entry
recovered secret place skip [] = []
recovered secret place zero (b ∷ bytes) = with_front (front_at secret place (b ∷ bytes)) (λ e. recovered secret (suc place) (20 + length e.body) bytes)
recovered secret place (suc skip) (b ∷ bytes) = recovered secret (suc place) skip bytes

-- whether a first record begins there
unfoldable pub is_first : ℕ → ℕ → List ℕ → Bool
is_first secret place bytes = if nat_lt (length bytes) 8 then false else bytes_eq (take 8 bytes) (stamp_of secret place true)

-- whether a first one begins anywhere in bytes from this place on
unfoldable pub has_first : ℕ → ℕ → List ℕ → Bool
has_first secret place [] = false
has_first secret place (b ∷ bytes) = is_first secret place (b ∷ bytes) || has_first secret (suc place) bytes

-- ## What a crash leaves

-- no first record begins behind those that stand in a file, so nothing in it was synced and is damaged
abbrev pub IsUndamaged : ℕ → List ℕ → Type 0
IsUndamaged secret file =
    let end = length (spelled secret 0 (recovered secret 0 0 file)) in
    has_first secret (end + 1) (drop (end + 1) file) ≡ false

-- one of these records, which stand from a place on, is a first one and begins at that place
abbrev pub IsFirstAt : ℕ → List Entry → ℕ → Type 0
IsFirstAt place [] at = ⊥
IsFirstAt place (e ∷ es) at = ((e.first ≡ true) × (at ≡ place)) ⊎ IsFirstAt (place + size e) es at

-- none of these is a first one
abbrev pub NoneFirst : List Entry → Type 0
NoneFirst es = AllByRecursion (λ e. e.first ≡ false) es

-- none but the one in front is a first one
abbrev pub OnlyFrontIsFirst : List Entry → Type 0
OnlyFrontIsFirst [] = Unit {0}
OnlyFrontIsFirst (e ∷ es) = NoneFirst es

-- Nothing in what is left passes by chance: each record that passes its test there stood at that place in what was
-- written, and each stamp of a first one is that of one that was written there. What a crash leaves of bytes that
-- were under way may be anything; that it passes by chance has a probability of one in 2^64 for each place.
pub record IsHonest (secret : ℕ) (written : List Entry) (left : List ℕ) : Type 0 where
  pub records : (place : ℕ) (e : Entry) → front_at secret place (drop place left) ≡ Some e → front_at secret place (drop place (spelled secret 0 written)) ≡ Some e
  pub stamps : (place : ℕ) → is_first secret place (drop place left) ≡ true → IsFirstAt 0 written place
