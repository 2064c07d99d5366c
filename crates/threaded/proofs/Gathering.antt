-- Operations are found in a journal by their numbers, and the entries of sessions follow one another.
use Rattle.std.proofs.Common.{append-nil, ◌≡◌, ◌∙◌, ℕ, zero, suc, ◌+◌, ◌-◌, ◌<◌, ◌≤◌, List, [], ◌∷◌, ◌++◌, length, take, Option, Some, None, refl, sym, ap, arith, slice_get}
use Rattle.std.specs.Prelude.{filter_map, flat_map, option_to_list, slice_index_or}
use Rattle.std.specs.List.{range_with_len, cons_option}
use Rattle.std.specs.Option.{unwrap_or}
use Rattle.std.proofs.lemmas.List.{take_more, length-append}
use Rattle.std.proofs.lemmas.List.Elements.{filter_map-append}
use Rattle.std.proofs.lemmas.Option.{slice_get_within}
use Rattle.messages.specs.declared.op.Op.{Op}
use Rattle.messages.specs.declared.event.ActorEvent.{ActorEvent}
use Rattle.messages.specs.Topology.{TopologyValue, session_node}
use Rattle.actors.specs.Seats.{SeatValue}
use Rattle.world.specs.declared.completed.Completed.{Completed}
use Rattle.world.specs.Threads.{op_in, op_numbered}
use Rattle.world.proofs.lists.Replacing.{item_at}
use Rattle.threaded.specs.OneRun.{seat_of}
use Rattle.threaded.specs.Submitted.{count_of}
use Rattle.threaded.specs.Entries.{entries_at, entries_after, entries_of}

-- ## Lists

-- what a function gives of a list with one more element
given_more : {X Y : Type 0} (f : X → Option Y) (xs : List X) (k : ℕ) (x : X) → k < length xs → x ≡ slice_index_or xs k x
    → filter_map f (take (k + 1) xs) ≡ filter_map f (take k xs) ++ option_to_list (f x)
given_more {X} {Y} f xs k x lt at =
    ap (filter_map f) (take_more xs k x lt ∙ ap (λ z. take k xs ++ z ∷ []) (sym at)) ∙ filter_map-append f (take k xs) (x ∷ [])
    ∙ ap (λ l. filter_map f (take k xs) ++ l) (single (f x))
  where
    single : (o : Option Y) → cons_option o [] ≡ option_to_list o
    single None = refl
    single (Some y) = refl

-- what a function gives of an element stands after what it gives of those before
given_at : {X Y : Type 0} (f : X → Option Y) (xs : List X) (k : ℕ) (x : X) (y : Y) → slice_get xs k ≡ Some x → f x ≡ Some y
    → slice_get (filter_map f xs) (length (filter_map f (take k xs))) ≡ Some y
given_at f [] k x y at is = absurd (cc)
given_at f (z ∷ xs) zero x y at is =
    let same : z ≡ x = cc in
    ap (λ o. slice_get (cons_option o (filter_map f xs)) 0) (ap f same ∙ is)
given_at {X} {Y} f (z ∷ xs) (suc k) x y at is = by (given_at f xs k x y at is) (f z)
  where
    by : slice_get (filter_map f xs) (length (filter_map f (take k xs))) ≡ Some y → (o : Option Y)
        → slice_get (cons_option o (filter_map f xs)) (length (cons_option o (filter_map f (take k xs)))) ≡ Some y
    by later None = later
    by later (Some w) = later

all_taken : {X : Type 0} (xs : List X) (n : ℕ) → length xs ≤ n → take n xs ≡ xs
all_taken [] zero le = refl
all_taken [] (suc n) le = refl
all_taken (x ∷ xs) zero le = absurd (omega arith)
all_taken (x ∷ xs) (suc n) le = ap (λ l. x ∷ l) (all_taken xs n (omega arith))

none_past : {X : Type 0} (xs : List X) (n : ℕ) → length xs ≤ n → slice_get xs n ≡ None
none_past {X} xs n le = by (slice_get xs n) refl
  where
    by : (o : Option X) → slice_get xs n ≡ o → o ≡ None
    by None at = refl
    by (Some x) at = let lt = slice_get_within xs n x at in absurd (omega arith)

-- ## Numbers

module _ (journal : List ActorEvent) (place : ℕ) (x : ActorEvent) (lt : place < length journal) (at : x ≡ slice_index_or journal place x) where
  -- one operation more was passed
  pub one_more_passed : (o : Op) (passed : ℕ) → Some o ≡ op_in x → passed ≡ count_of (take place journal) → passed + 1 ≡ count_of (take (place + 1) journal)
  one_more_passed o passed is so_far =
      let given = filter_map op_in (take place journal) in
      let all : count_of (take (place + 1) journal) ≡ length given + 1 =
      ap length (given_more op_in journal place x lt at ∙ ap (λ p. given ++ option_to_list p) (sym is)) ∙ length-append given (o ∷ []) in
      ap (λ n. n + 1) so_far ∙ sym all

  -- none was
  pub none_passed : (passed : ℕ) → None ≡ op_in x → passed ≡ count_of (take place journal) → passed ≡ count_of (take (place + 1) journal)
  none_passed passed is so_far =
      let given = filter_map op_in (take place journal) in
      so_far ∙ sym (ap length (given_more op_in journal place x lt at ∙ ap (λ p. given ++ option_to_list p) (sym is) ∙ append-nil given))

  -- the operation after those that were passed has the next number
  pub next_found : (o : Op) (passed number : ℕ) → Some o ≡ op_in x → passed ≡ count_of (take place journal) → passed + 1 ≡ number → op_numbered journal number ≡ Some o
  next_found o passed number is so_far next =
      let one : passed + 1 ≡ suc passed = omega arith in
      ap (op_numbered journal) (sym next ∙ one) ∙ ap (slice_get (filter_map op_in journal)) so_far ∙ given_at op_in journal place x o (item_at journal place x lt at) (sym is)

-- past the end no number is an operation's
pub not_found : (journal : List ActorEvent) (place passed number : ℕ) → length journal ≤ place → passed ≡ count_of (take place journal) → passed < number
    → op_numbered journal number ≡ None
not_found journal place passed zero le all lt = absurd (omega (arith, lt))
not_found journal place passed (suc n) le all lt =
    let whole : passed ≡ length (filter_map op_in journal) = all ∙ ap count_of (all_taken journal place le) in
    none_past (filter_map op_in journal) n (omega (arith, whole, lt))

-- ## Sessions

module _ (top : TopologyValue) (seats : List SeatValue) where
  abbrev entries_by : ℕ → List Completed
  entries_by i = entries_at top (session_node top i) (seat_of seats (session_node top i))

  -- the entries of a session, and of those after it
  pub session_after : (n node : ℕ) → n < length top.homes → node ≡ session_node top n
      → entries_after top seats n ≡ entries_at top node (seat_of seats node) ++ entries_after top seats (n + 1)
  session_after n node lt is =
      let more : length top.homes - n ≡ suc (length top.homes - (n + 1)) = omega (arith, lt) in
      ap (λ k. flat_map entries_by (range_with_len n k)) more
      ∙ ap (λ k. entries_at top k (seat_of seats k) ++ entries_after top seats (n + 1)) (sym is)

  pub none_after : (n : ℕ) → length top.homes ≤ n → entries_after top seats n ≡ []
  none_after n le =
      let none : length top.homes - n ≡ 0 = omega (arith, le) in
      ap (λ k. flat_map entries_by (range_with_len n k)) none

  pub all_after : entries_after top seats 0 ≡ entries_of top seats
  all_after =
      let all : length top.homes - 0 ≡ length top.homes = omega arith in
      ap (λ k. flat_map entries_by (range_with_len 0 k)) all

  -- ## As code asks for it

  module _ (n : ℕ) (left : Option (List Completed)) where
    pub lent_first : (more : Option (List Completed)) (c : Completed) → unwrap_or left [] ≡ c ∷ unwrap_or more []
        → unwrap_or left [] ++ entries_after top seats n ≡ c ∷ (unwrap_or more [] ++ entries_after top seats n)
    lent_first more c is = ap (λ l. l ++ entries_after top seats n) is

    pub begun_next : (next : Option (List Completed)) (node : ℕ) → unwrap_or left [] ≡ [] → n < length top.homes → node ≡ session_node top n
        → unwrap_or next [] ≡ entries_at top node (seat_of seats node)
        → unwrap_or next [] ++ entries_after top seats (n + 1) ≡ unwrap_or left [] ++ entries_after top seats n
    begun_next next node none lt is begun =
        ap (λ l. l ++ entries_after top seats (n + 1)) begun ∙ sym (session_after n node lt is) ∙ ap (λ l. l ++ entries_after top seats n) (sym none)

    pub all_lent : unwrap_or left [] ≡ [] → length top.homes ≤ n → unwrap_or left [] ++ entries_after top seats n ≡ []
    all_lent none le = ap (λ l. l ++ entries_after top seats n) none ∙ none_after n le
