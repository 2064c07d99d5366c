-- What is asked, its lists being of any length; and when it fits a request.
use Rattle.std.proofs.Common.{◌≡◌, ℕ, ◌^◌, ◌≤◌, Bool, true, false, ◌&&◌, List, ◌++◌, length, arith}
use Rattle.std.specs.Prelude.{nat_lt}
use Rattle.std.specs.List.{flat_map, list_all}
use Rattle.std.proofs.lemmas.Bool.{le-leb, and_parts, and_from}
use Rattle.std.proofs.lemmas.List.{length-append}
use Rattle.byteorder.specs.Endian.{big_bytes}
use Rattle.slice.specs.declared.predicate.Predicate.{Predicate}
use Rattle.slice.specs.declared.predicate.Predicate.TheVariants.{Names, Range}
use Rattle.slice.specs.declared.read.Read.{Read}
use Rattle.messages.specs.declared.body.Body.{Body}
use Rattle.messages.specs.declared.body.Body.TheVariants as body
use Rattle.wire.specs.Fields.{sized, is_sized, counted, is_counted, longest}
use Rattle.wire.specs.Requests.{predicate, fits_predicate}
use Rattle.parcels.specs.Spelling.{is_listed, fits_number, fits_time, number, time, asked, fits_asked, first_round, fits_first_round, second_round, fits_second_round, said, fits}
use Rattle.parcels.specs.Kinds.{asks}

abbrev pub lists_names : Predicate → Bool
lists_names (Names names) = is_listed (is_sized 2) names
lists_names (Range start finish reversed count) = is_sized 2 start && (is_sized 2 finish && nat_lt count (256 ^ 4))

unfoldable pub lists_asked : Read → Bool
lists_asked r = is_sized 1 r.family && (is_listed (is_sized 2) r.keys && lists_names r.predicate)

-- a message, where what it asks may have lists of any length
abbrev pub lists : Body → Bool
lists (body.Read n r) = fits_number n && lists_asked r
lists (body.ReadAt n t r) = fits_number n && (fits_time t && lists_asked r)
lists b = fits b

texts_fit : (xs : List (List ℕ)) → is_listed (is_sized 2) xs ≡ true → length (counted (sized 2) xs) ≤ longest → is_counted (is_sized 2) (sized 2) xs ≡ true
texts_fit xs h short =
    let p = and_parts (nat_lt (length xs) (256 ^ 4)) (list_all (is_sized 2) xs) h in
    let size : length (flat_map (sized 2) xs) ≤ longest = omega (arith, short, length-append (big_bytes 4 (length xs)) (flat_map (sized 2) xs)) in
    and_from _ _ p.0 (and_from _ _ p.1 (le-leb _ _ size))

names_fit : (p : Predicate) → lists_names p ≡ true → length (predicate p) ≤ longest → fits_predicate p ≡ true
names_fit (Names names) h short = texts_fit names h (omega (arith, short))
names_fit (Range start finish reversed count) h short = h

asked_fits : (r : Read) → lists_asked r ≡ true → length (asked r) ≤ longest → fits_asked r ≡ true
unfolding lists_asked asked fits_asked
asked_fits r h short =
    let p = and_parts (is_sized 1 r.family) (is_listed (is_sized 2) r.keys && lists_names r.predicate) h in
    let q = and_parts (is_listed (is_sized 2) r.keys) (lists_names r.predicate) p.1 in
    let whole = length-append (sized 1 r.family) (counted (sized 2) r.keys ++ predicate r.predicate) in
    let tail = length-append (counted (sized 2) r.keys) (predicate r.predicate) in
    and_from _ _ p.0 (and_from _ _ (texts_fit r.keys q.0 (omega (arith, short, whole, tail))) (names_fit r.predicate q.1 (omega (arith, short, whole, tail))))

read_fits : (n : ℕ) (r : Read) → (fits_number n && lists_asked r) ≡ true → length (first_round n r) ≤ longest → fits_first_round n r ≡ true
unfolding first_round fits_first_round
read_fits n r h short =
    let p = and_parts (fits_number n) (lists_asked r) h in
    and_from _ _ p.0 (asked_fits r p.1 (omega (arith, short, length-append (number n) (asked r))))

read_at_fits : (n t : ℕ) (r : Read) → (fits_number n && (fits_time t && lists_asked r)) ≡ true → length (second_round n t r) ≤ longest → fits_second_round n t r ≡ true
unfolding second_round fits_second_round
read_at_fits n t r h short =
    let p = and_parts (fits_number n) (fits_time t && lists_asked r) h in
    let q = and_parts (fits_time t) (lists_asked r) p.1 in
    let size = asked_fits r q.1 (omega (arith, short, length-append (number n) (time t ++ asked r), length-append (time t) (asked r))) in
    and_from _ _ p.0 (and_from _ _ q.0 size)

-- what is no longer than a request may be fits
pub short_fits : (b : Body) → lists b ≡ true → length (said b) ≤ longest → fits b ≡ true
short_fits (body.Begin t cs hs ds) h short = h
short_fits (body.Prepare t cs s) h short = h
short_fits (body.Yes t) h short = h
short_fits (body.Commit t c s) h short = h
short_fits (body.At t c s) h short = h
short_fits (body.NotBy t n) h short = h
short_fits (body.Check t n) h short = h
short_fits (body.Read n r) h short = read_fits n r h (omega (arith, short))
short_fits (body.ReadAt n t r) h short = read_at_fits n t r h (omega (arith, short))
short_fits (body.ReplBegin hs t cs s ds) h short = h
short_fits (body.ReplPart t cs s c) h short = h
short_fits (body.Notify t) h short = h
short_fits (body.PrepareRemote t) h short = h
short_fits (body.DepCheck d w) h short = h
short_fits (body.DepOk d w t) h short = h
short_fits (body.Done t c s) h short = h
short_fits (body.PartNow n rs) h short = h
short_fits (body.PartAt n t a) h short = h

-- and so does what asks nothing
pub other_fits : (b : Body) → lists b ≡ true → asks b ≡ false → fits b ≡ true
other_fits (body.Begin t cs hs ds) h none = h
other_fits (body.Prepare t cs s) h none = h
other_fits (body.Yes t) h none = h
other_fits (body.Commit t c s) h none = h
other_fits (body.At t c s) h none = h
other_fits (body.NotBy t n) h none = h
other_fits (body.Check t n) h none = h
other_fits (body.Read n r) h none = absurd cc
other_fits (body.ReadAt n t r) h none = absurd cc
other_fits (body.ReplBegin hs t cs s ds) h none = h
other_fits (body.ReplPart t cs s c) h none = h
other_fits (body.Notify t) h none = h
other_fits (body.PrepareRemote t) h none = h
other_fits (body.DepCheck d w) h none = h
other_fits (body.DepOk d w t) h none = h
other_fits (body.Done t c s) h none = h
other_fits (body.PartNow n rs) h none = h
other_fits (body.PartAt n t a) h none = h
