-- Collections, one after the other.
use Rattle.std.proofs.Common.{◌≡◌, ◌∙◌, ℕ, ◌+◌, ◌-◌, ◌^◌, ◌<◌, ◌⊎◌, true, false, List, [], ◌∷◌, ◌++◌, length, length-append, append-nil, append_assoc, map, slice_get, Option, Some, inl, inr, refl, sym, ap, subst, arith}
use Rattle.std.specs.Prelude.{All, filter_map, get_or, min, option_to_list, Result, Ok, Err, OnOk, OnErr}
use Rattle.std.specs.List.{range_with_len}
use Rattle.std.specs.List.Sorted.{IsStrictlyIncreasing}
use Rattle.std.proofs.lemmas.List.Elements.{All-nil, All-cons, All-append}
use Rattle.std.proofs.lemmas.Option.{get_or_from_slice_get}
use Rattle.std.proofs.lemmas.List.FromFn.{map-range_with_len_more}
use Rattle.std.proofs.Math.ListN.{get_or-append}
use Rattle.logical_time.specs.declared.fault.Fault.{Fault}
use Rattle.messages.specs.declared.event.ActorEvent.TheVariants.{Collect}
use Rattle.messages.specs.Topology.{shard_node}
use Rattle.actors.specs.Machines.{Refuses}
use Rattle.site.specs.Story.{Happening, Did}
use Rattle.site.specs.Sites.{SiteValue}
use Rattle.site.specs.Turns.{clock_in, HasBroken, IsRefused}
use Rattle.site.proofs.Lists.{same_or_not, mapped_more}
use Rattle.site_port.specs.declared.waiting.Late.{Late}
use Rattle.site_port.specs.declared.waiting.Waiting.{Waiting}
use Rattle.site_port.specs.Ends.{end_in, ends_in, GoesOnWith}
use Rattle.site_port.specs.Port.{AreEnds, Holds}
use Rattle.site_port.specs.Collecting.{clock_of, IsCollection, actor_in, MayHaveCollected, IsBroken, HasCollected, HasBrokenOff}
use Rattle.site_port.proofs.Lists.{get_mid}
use Rattle.site_port.proofs.Turning.{goes_same, goes_then}
use Rattle.site_port.proofs.Growing.{ends_both, holds_on}
use Rattle.site_port.proofs.Going.{WentOn, went_same, broken_went, ends_went, holds_went}

-- numbers that rise, and a greater one, rise
rises_on : (xs : List ℕ) (n : ℕ) → IsStrictlyIncreasing xs → All (λ m. m < n) xs → IsStrictlyIncreasing (xs ++ n ∷ [])
rises_on xs n rises below = λ k lt. at k (omega (arith, length-append xs (n ∷ []), lt)) (same_or_not (k + 1) (length xs))
  where
    at : (k : ℕ) → k < length xs → (k + 1 ≡ length xs) ⊎ (k + 1 ≡ length xs → ⊥) → get_or (xs ++ n ∷ []) k 0 < get_or (xs ++ n ∷ []) (k + 1) 0
    at k lt (inl last) =
        let first = get_or-append xs (n ∷ []) 0 k lt in
        let second : get_or (xs ++ n ∷ []) (k + 1) 0 ≡ n = ap (λ m. get_or (xs ++ n ∷ []) m 0) last ∙ get_or_from_slice_get (xs ++ n ∷ []) (length xs) n 0 (get_mid xs n []) in
        rw (first, second) (below k 0 lt)
    at k lt (inr more) =
        let next : k + 1 < length xs = omega arith in
        rw (get_or-append xs (n ∷ []) 0 k lt, get_or-append xs (n ∷ []) 0 (k + 1) next) (rises k next)

-- Collections so far: those of shards below this one.
pub record AreCollected (times : List ℕ) (count : ℕ) (start now : SiteValue) (late kept : List Late) : Type 0 where
  pub so_far : HasCollected times start late now kept
  pub below : All (λ n. n < shard_node start.top start.dc count) (filter_map actor_in so_far.happened)

pub none_collected : (times : List ℕ) (s : SiteValue) (late : List Late) → HasCollected times s late s late
none_collected times s late = record { happened = []; collected = All-nil (IsCollection s.top s.dc times); in_order = λ k lt. absurd (omega arith); went = goes_same s; ended = sym (append-nil late) }

pub none_yet : (times : List ℕ) (s : SiteValue) (late : List Late) → AreCollected times 0 s s late late
unfolding none_collected
none_yet times s late = record { so_far = none_collected times s late; below = All-nil (λ n. n < shard_node s.top s.dc 0) }

module _ (times : List ℕ) (count : ℕ) (a b : SiteValue) (l m : List Late) (t : AreCollected times count a b l m) (within : count < a.top.shards) where
  abbrev before : HasCollected times a l b m
  before = t.so_far

  -- the shard is the same one in what its topology and its data centre are now
  same_node : shard_node b.top b.dc count ≡ shard_node a.top a.dc count
  same_node = ap (λ p. shard_node p b.dc count) before.went.topology ∙ ap (λ d. shard_node a.top d count) before.went.dc

  below_next : All (λ n. n < shard_node a.top a.dc (count + 1)) (filter_map actor_in before.happened)
  below_next = λ k d lt. let less = t.below k d lt in omega arith

  -- the shard stays
  passed_over : (c : SiteValue) (n : List Late) → c ≡ b → n ≡ m → AreCollected times (count + 1) a c l n
  passed_over c n same kept =
      subst (λ z. AreCollected times (count + 1) a z l n) (sym same) (subst (λ z. AreCollected times (count + 1) a b l z) (sym kept) (record { so_far = before; below = below_next }))

  module _ (h : Happening) (actor : actor_in h ≡ Some (shard_node a.top a.dc count)) (is : IsCollection a.top a.dc times h) where
    actors : filter_map actor_in (before.happened ++ h ∷ []) ≡ filter_map actor_in before.happened ++ shard_node a.top a.dc count ∷ []
    actors = mapped_more actor_in before.happened h (Some (shard_node a.top a.dc count)) actor

    last_below : All (λ n. n < shard_node a.top a.dc (count + 1)) (filter_map actor_in (before.happened ++ h ∷ []))
    last_below =
        subst (λ z. All (λ n. n < shard_node a.top a.dc (count + 1)) z) (sym actors)
        (All-append (λ n. n < shard_node a.top a.dc (count + 1)) (filter_map actor_in before.happened) (shard_node a.top a.dc count ∷ []) below_next
        (All-cons (λ n. n < shard_node a.top a.dc (count + 1)) (shard_node a.top a.dc count) [] (omega arith) (All-nil (λ n. n < shard_node a.top a.dc (count + 1)))))

    -- it collected
    one_more : (c : SiteValue) (n : List Late) → GoesOnWith b (h ∷ []) c → n ≡ m ++ option_to_list (end_in h) → AreCollected times (count + 1) a c l n
    one_more c n went kept = record {
      so_far = record {
        happened = before.happened ++ h ∷ [];
        collected = All-append (IsCollection a.top a.dc times) before.happened (h ∷ []) before.collected (All-cons (IsCollection a.top a.dc times) h [] is (All-nil (IsCollection a.top a.dc times)));
        in_order = subst IsStrictlyIncreasing (sym actors) (rises_on (filter_map actor_in before.happened) (shard_node a.top a.dc count) before.in_order t.below);
        went = goes_then a b c before.happened (h ∷ []) before.went went;
        ended = kept ∙ (ap (λ z. z ++ option_to_list (end_in h)) before.ended ∙ (append_assoc l (ends_in before.happened) (option_to_list (end_in h)) ∙ ap (λ z. l ++ z) (sym (mapped_more end_in before.happened h (end_in h) refl))));
      };
      below = last_below;
    }

  -- the next shard, whether it collected or not
  pub next_shard : (c : SiteValue) (n : List Late) → MayHaveCollected count times b m c n → AreCollected times (count + 1) a c l n
  next_shard c n (inl (same, kept)) = passed_over c n same kept
  next_shard c n (inr (time, at, (ended, (sends, sound, same), kept))) =
      one_more (Did (shard_node b.top b.dc count) (Collect time) sends ended) (ap Some same_node) (count, time, within, at, same_node, refl) c n
      (subst (λ z. GoesOnWith b (Did (shard_node b.top b.dc count) (Collect time) sends ended ∷ []) z) (sym same) (record { topology = refl; dc = refl; story = refl; sound = λ q. q })) kept

  -- the site isn't sound any more
  pub broken_off : (c : SiteValue) (n : List Late) → IsBroken count times b c → n ≡ m → HasBrokenOff times a l c n
  broken_off c n broken kept = record { between = b; before = subst (λ z. HasCollected times a l b z) (sym kept) before; shard = count; within = within; broken = broken }

-- a site that isn't sound refuses, or the collection broke it
pub is_broken : (refuses : Refuses) (shard time node : ℕ) (times : List ℕ) (a b : SiteValue) (fault : Fault) → slice_get times shard ≡ Some time → node ≡ shard_node a.top a.dc shard → b.sound ≡ false → IsRefused refuses a node (Collect time) fault b
    → IsBroken shard times a b
is_broken refuses shard time node times a b fault at is unsound (inl (same, why)) = (time, at, inl (same, subst (λ (z : SiteValue). z.sound ≡ false) same unsound))
is_broken refuses shard time node times a b fault at is unsound (inr (sound, (stranger, broken))) = (time, at, inr (subst (λ n. HasBroken a n (Collect time) b) is broken))

-- a site that is sound stays so
pub sound_still : (count : ℕ) (times : List ℕ) (b c : SiteValue) (m n : List Late) → MayHaveCollected count times b m c n → b.sound ≡ true → c.sound ≡ true
sound_still count times b c m n (inl (same, kept)) sound = subst (λ (z : SiteValue). z.sound ≡ true) (sym same) sound
sound_still count times b c m n (inr (time, at, (ended, (sends, is, same), kept))) sound = subst (λ (z : SiteValue). z.sound ≡ true) (sym same) sound

-- ## What holds of a port

collected_holds : (times : List ℕ) (a b : SiteValue) (sessions : List ℕ) (waits : List (Option Waiting)) (late kept : List Late) → Holds a sessions waits late → HasCollected times a late b kept → Holds b sessions waits kept
collected_holds times a b sessions waits late kept h t =
    holds_on a b t.happened sessions waits late kept h t.went
    (subst (λ s. AreEnds s kept) (sym t.went.story) (subst (λ l. AreEnds (a.story ++ t.happened) l) (sym t.ended) (ends_both a.story t.happened late h.ended)))

broken_goes : (shard : ℕ) (times : List ℕ) (a b : SiteValue) → IsBroken shard times a b → WentOn a b
broken_goes shard times a b (time, at, inl (same, unsound)) = went_same a b same
broken_goes shard times a b (time, at, inr broken) = broken_went a b (shard_node a.top a.dc shard) (Collect time) broken

broken_off_holds : (times : List ℕ) (a b : SiteValue) (sessions : List ℕ) (waits : List (Option Waiting)) (late kept : List Late) → Holds a sessions waits late → HasBrokenOff times a late b kept → Holds b sessions waits kept
broken_off_holds times a b sessions waits late kept h t =
    let on = broken_goes t.shard times t.between b t.broken in
    let held = collected_holds times a t.between sessions waits late kept h t.before in
    holds_went t.between b sessions waits kept kept on held (ends_went t.between b kept on held.ended)

pub collection_holds : {X Y : Type 0} (times : List ℕ) (a b : SiteValue) (r : Result X Y) (sessions : List ℕ) (waits : List (Option Waiting)) (late kept : List Late) → Holds a sessions waits late → OnOk r (HasCollected times a late b kept)
    → OnErr r (HasBrokenOff times a late b kept) → Holds b sessions waits kept
collection_holds times a b (Ok x) sessions waits late kept h collected broken = collected_holds times a b sessions waits late kept h collected
collection_holds times a b (Err y) sessions waits late kept h collected broken = broken_off_holds times a b sessions waits late kept h broken

-- ## Clocks

pub one_clock_more : (site : SiteValue) (n node clock time : ℕ) (old new : List ℕ) → old ≡ map (clock_of site) (range_with_len 0 n) → new ≡ old ++ time ∷ [] → node ≡ shard_node site.top site.dc n → clock ≡ clock_in site.story node
    → time ≡ min clock (2 ^ 48 - 1) → new ≡ map (clock_of site) (range_with_len 0 (n + 1))
one_clock_more site n node clock time old new so_far more at shows is =
    let last : time ≡ clock_of site n = is ∙ (ap (λ c. min c (2 ^ 48 - 1)) shows ∙ ap (λ m. min (clock_in site.story m) (2 ^ 48 - 1)) at) in
    more ∙ (ap (λ l. l ++ time ∷ []) so_far ∙ (ap (λ c. map (clock_of site) (range_with_len 0 n) ++ c ∷ []) last ∙ sym (map-range_with_len_more (clock_of site) 0 n n (omega arith))))
