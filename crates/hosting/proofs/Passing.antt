-- What passes between requests, one thing after the other.
use Rattle.std.proofs.Common.{◌≡◌, ◌∙◌, ℕ, Bool, true, false, List, [], ◌∷◌, ◌++◌, Option, Some, None, ◌⊎◌, inl, inr, refl, sym, ap, subst, append_assoc, append-nil, length-append, length, ◌+◌}
use Rattle.std.specs.Prelude.{All, filter, filter_map, get_or, IfSome, Result, Ok, Err, OnErr}
use Rattle.std.specs.Option.{unwrap_or}
use Rattle.std.proofs.lemmas.List.Elements.{All-nil, All-cons, All-head, All-tail, All-append, filter_map-append, filter-append}
use Rattle.logical_time.specs.declared.fault.Fault.{Fault}
use Rattle.logical_time.specs.declared.fault.Fault.TheVariants.{Memory, StrangerEnd}
use Rattle.messages.specs.declared.envelope.Envelope.{Envelope}
use Rattle.messages.specs.Topology.{TopologyValue}
use Rattle.site.specs.Story.{Story, Happening, Did, Heard, Given, site_of, may_come, given, given_by}
use Rattle.site.specs.Steps.{steps, step_of}
use Rattle.site.specs.Sites.{SiteValue}
use Rattle.actors.specs.Machines.{Refuses}
use Rattle.messages.specs.declared.event.ActorEvent.{ActorEvent}
use Rattle.messages.specs.declared.event.ActorEvent.TheVariants.{Handle, Collect}
use Rattle.site.specs.Turns.{goes_on, HasGiven, HasBroken, IsRefused, IsTurnRefused}
use Rattle.site_port.specs.Ends.{ends_in, IsHandling, GoesOnWith, HasTurns, HasStopped}
use Rattle.site_port.specs.Collecting.{clocks_of, IsCollection, HasCollected, IsBroken, HasBrokenOff}
use Rattle.site_port.specs.declared.waiting.Late.{Late}
use Rattle.site_port.specs.Port.{PortValue, IsDoing}
use Rattle.site_port.proofs.Turning.{goes_same, goes_then, ends_then}
use Rattle.ways.specs.Crossings.{Crossing, Sent, Came, Refused, Confirmed, Nothing, Crosses, sent_by, brought_by}
use Rattle.hosting.specs.declared.marks.Marks.{Marks}
use Rattle.hosting.specs.Rounds.{is_due, AreMarked, IsPassing, gift, receipt, Passes, Matches, IsComing, IsGoing, HasPassed, LeavesNone, GivesSome}

-- ## Nothing, and one after the other

passes_same : (times : List ℕ) (p : PortValue) → Passes times p [] p
passes_same times p = record { went = goes_same p.site; passing = All-nil (IsPassing p.site.top p.site.dc times); waiting = refl; late = sym (append-nil p.late); behind = refl }

passes_then : (times : List ℕ) (p q r : PortValue) (xs ys : List Happening) → Passes times p xs q → Passes times q ys r → Passes times p (xs ++ ys) r
passes_then times p q r xs ys f g =
    let there : All (IsPassing p.site.top p.site.dc times) ys =
    (subst (λ d. All (IsPassing p.site.top d times) ys) f.went.dc (subst (λ t. All (IsPassing t q.site.dc times) ys) f.went.topology g.passing)) in
    record {
      went = goes_then p.site q.site r.site xs ys f.went g.went;
      passing = All-append (IsPassing p.site.top p.site.dc times) xs ys f.passing there;
      waiting = g.waiting ∙ f.waiting;
      late = g.late ∙ (ap (λ l. l ++ ends_in ys) f.late ∙ (append_assoc p.late (ends_in xs) (ends_in ys) ∙ ap (λ l. p.late ++ l) (sym (ends_then xs ys))));
      behind = g.behind ∙ f.behind;
    }

crosses_then : {W : Type 0} (steps : W → Crossing → W → Type 0) (a b c : W) (xs ys : List Crossing) → Crosses steps a xs b → Crosses steps b ys c → Crosses steps a (xs ++ ys) c
crosses_then steps a b c [] ys f g = subst (λ z. Crosses steps z ys c) (sym f) g
crosses_then steps a b c (x ∷ xs) ys (u, step, rest) g = (u, step, crosses_then steps u b c xs ys rest g)

abbrev may : TopologyValue → ℕ → (ℕ × Envelope) → Bool
may top dc r = may_come top dc r.0 r.1

matches_then : (top : TopologyValue) (dc : ℕ) (xs ys : List Happening) (cs ds : List Crossing) → Matches top dc xs cs → Matches top dc ys ds → Matches top dc (xs ++ ys) (cs ++ ds)
matches_then top dc xs ys cs ds f g =
    record {
      gifts = filter_map-append (gift top) xs ys ∙ (ap (λ l. l ++ filter_map (gift top) ys) f.gifts ∙ (ap (λ l. filter_map sent_by cs ++ l) g.gifts ∙ sym (filter_map-append sent_by cs ds)));
      receipts = filter_map-append receipt xs ys
          ∙ (ap (λ l. l ++ filter_map receipt ys) f.receipts
          ∙ (ap (λ l. filter (λ (r : ℕ × Envelope). may_come top dc r.0 r.1) (filter_map brought_by cs) ++ l) g.receipts
          ∙ (sym (filter-append (λ (r : ℕ × Envelope). may_come top dc r.0 r.1) (filter_map brought_by cs) (filter_map brought_by ds))
          ∙ ap (filter (λ (r : ℕ × Envelope). may_come top dc r.0 r.1)) (sym (filter_map-append brought_by cs ds)))));
    }

passes_anyhow : (top : TopologyValue) (dc : ℕ) (times : List ℕ) (h : Happening) → IsPassing top dc [] h → IsPassing top dc times h
passes_anyhow top dc times (Did node x sends ended) (inl handling) = inl handling
passes_anyhow top dc times (Did node x sends ended) (inr (shard, time, within, at, actor, is)) = absurd (none_some at)
  where
    none_some : None ≡ Some time → ⊥
    none_some q = cc
passes_anyhow top dc times (Heard from e) is = tt
passes_anyhow top dc times (Given e) is = tt

module _ {W : Type 0} (may_cross : Crossing → Type 0) (steps : W → Crossing → W → Type 0) (times : List ℕ) where
  pub passed_none : (p : PortValue) (w : W) → HasPassed may_cross steps times p w p w
  passed_none p w = record { happened = []; crossed = []; only = All-nil may_cross; passed = passes_same times p; crosses = refl; matches = record { gifts = refl; receipts = refl } }

  pub passed_then : (p q r : PortValue) (u v w : W) → HasPassed may_cross steps times p u q v → HasPassed may_cross steps times q v r w → HasPassed may_cross steps times p u r w
  passed_then p q r u v w f g =
      let there : Matches p.site.top p.site.dc g.happened g.crossed =
      (subst (λ d. Matches p.site.top d g.happened g.crossed) f.passed.went.dc (subst (λ t. Matches t q.site.dc g.happened g.crossed) f.passed.went.topology g.matches)) in
      record {
        happened = f.happened ++ g.happened;
        crossed = f.crossed ++ g.crossed;
        only = All-append may_cross f.crossed g.crossed f.only g.only;
        passed = passes_then times p q r f.happened g.happened f.passed g.passed;
        crosses = crosses_then steps u v w f.crossed g.crossed f.crosses g.crosses;
        matches = matches_then p.site.top p.site.dc f.happened g.happened f.crossed g.crossed f.matches there;
      }

  -- the ways did nothing but reading and writing
  pub passed_exchange : (p : PortValue) (u w : W) → may_cross Nothing → steps u Nothing w → HasPassed may_cross steps times p u p w
  passed_exchange p u w may step = record { happened = []; crossed = Nothing ∷ []; only = All-cons may_cross Nothing [] may (All-nil may_cross); passed = passes_same times p; crosses = (w, step, refl); matches = record { gifts = refl; receipts = refl } }

  -- what passes where no shard collects passes where some may
  pub passed_anyhow : (p q : PortValue) (u v : W) → HasPassed may_cross steps [] p u q v → HasPassed may_cross steps times p u q v
  passed_anyhow p q u v f = record {
    happened = f.happened;
    crossed = f.crossed;
    only = f.only;
    passed = record {
      went = f.passed.went;
      passing = λ k d lt. passes_anyhow p.site.top p.site.dc times (get_or f.happened k d) (f.passed.passing k d lt);
      waiting = f.passed.waiting;
      late = f.passed.late;
      behind = f.passed.behind;
    };
    crosses = f.crosses;
    matches = f.matches;
  }

-- ## Turns and collections

handling_passes : (top : TopologyValue) (dc : ℕ) (times : List ℕ) (h : Happening) → IsHandling h → IsPassing top dc times h
handling_passes top dc times (Did node x sends ended) is = inl is
handling_passes top dc times (Heard from e) is = absurd is
handling_passes top dc times (Given e) is = absurd is

collection_passes : (top : TopologyValue) (dc : ℕ) (times : List ℕ) (h : Happening) → IsCollection top dc times h → IsPassing top dc times h
collection_passes top dc times (Did node x sends ended) is = inr is
collection_passes top dc times (Heard from e) is = absurd is
collection_passes top dc times (Given e) is = absurd is

handling_does : (h : Happening) → IsHandling h → IsDoing h
handling_does (Did node x sends ended) is = tt
handling_does (Heard from e) is = absurd is
handling_does (Given e) is = absurd is

collection_does : (top : TopologyValue) (dc : ℕ) (times : List ℕ) (h : Happening) → IsCollection top dc times h → IsDoing h
collection_does top dc times (Did node x sends ended) is = tt
collection_does top dc times (Heard from e) is = absurd is
collection_does top dc times (Given e) is = absurd is

none_given : (top : TopologyValue) (h : Happening) → IsDoing h → gift top h ≡ None
none_given top (Did node x sends ended) is = refl
none_given top (Heard from e) is = absurd is
none_given top (Given e) is = absurd is

none_heard : (h : Happening) → IsDoing h → receipt h ≡ None
none_heard (Did node x sends ended) is = refl
none_heard (Heard from e) is = absurd is
none_heard (Given e) is = absurd is

skips : {X Y : Type 0} (f : X → Option Y) (x : X) (xs : List X) → f x ≡ None → filter_map f xs ≡ [] → filter_map f (x ∷ xs) ≡ []
skips f x xs none rest = rw none rest

no_gifts : (top : TopologyValue) (hs : List Happening) → All IsDoing hs → filter_map (gift top) hs ≡ []
no_gifts top [] all = refl
no_gifts top (h ∷ hs) all = skips (gift top) h hs (none_given top h (All-head IsDoing h hs all)) (no_gifts top hs (All-tail IsDoing h hs all))

no_receipts : (hs : List Happening) → All IsDoing hs → filter_map receipt hs ≡ []
no_receipts [] all = refl
no_receipts (h ∷ hs) all = skips receipt h hs (none_heard h (All-head IsDoing h hs all)) (no_receipts hs (All-tail IsDoing h hs all))

module _ {W : Type 0} (may_cross : Crossing → Type 0) (steps : W → Crossing → W → Type 0) (times : List ℕ) (p q : PortValue) (w : W) (waiting : q.waiting ≡ p.waiting) (behind : q.behind ≡ p.behind) where
  -- actors did this, and nothing crossed
  passed_doings : (happened : List Happening) → GoesOnWith p.site happened q.site → All (IsPassing p.site.top p.site.dc times) happened → All IsDoing happened → q.late ≡ p.late ++ ends_in happened → HasPassed may_cross steps times p w q w
  passed_doings happened went passing doing late = record {
    happened = happened;
    crossed = [];
    only = All-nil may_cross;
    passed = record { went = went; passing = passing; waiting = waiting; late = late; behind = behind };
    crosses = refl;
    matches = record { gifts = no_gifts p.site.top happened doing; receipts = no_receipts happened doing };
  }

  -- turns of the site, none of which was refused
  pub passed_turns : (most : ℕ) → HasTurns None most p.site p.late None q.site q.late → HasPassed may_cross steps times p w q w
  passed_turns most t =
      passed_doings t.happened t.went (λ k d lt. handling_passes p.site.top p.site.dc times (get_or t.happened k d) (t.handled k d lt)) (λ k d lt. handling_does (get_or t.happened k d) (t.handled k d lt)) t.is_told.0

  -- its shards collected
  pub passed_collections : HasCollected times p.site p.late q.site q.late → HasPassed may_cross steps times p w q w
  passed_collections t =
      passed_doings t.happened t.went (λ k d lt. collection_passes p.site.top p.site.dc times (get_or t.happened k d) (t.collected k d lt))
      (λ k d lt. collection_does p.site.top p.site.dc times (get_or t.happened k d) (t.collected k d lt)) t.ended

-- ## What crosses

module _ {W : Type 0} (steps : W → Crossing → W → Type 0) (p q : PortValue) (w : W) where
  -- an envelope was given, and the ways took it for the site of the actor for which it is
  pub passed_gift : (v : W) (to : ℕ) (e : Envelope) → HasGiven p.site (Some e) q.site → q ≡ record p { site = q.site } → to ≡ site_of p.site.top e.to → steps w (Sent to e) v → HasPassed IsGoing steps [] p w q v
  passed_gift v to e g stays there step =
      record {
        happened = Given e ∷ [];
        crossed = Sent to e ∷ [];
        only = All-cons IsGoing (Sent to e) [] tt (All-nil IsGoing);
        passed = record {
          went = record { topology = ap (λ (s : SiteValue). s.top) g.2; dc = ap (λ (s : SiteValue). s.dc) g.2; story = ap (λ (s : SiteValue). s.story) g.2; sound = λ z. sym (ap (λ (s : SiteValue). s.sound) g.2) ∙ z };
          passing = All-cons (IsPassing p.site.top p.site.dc []) (Given e) [] tt (All-nil (IsPassing p.site.top p.site.dc []));
          waiting = ap (λ (z : PortValue). z.waiting) stays;
          late = ap (λ (z : PortValue). z.late) stays ∙ sym (append-nil p.late);
          behind = ap (λ (z : PortValue). z.behind) stays;
        };
        crosses = (v, step, refl);
        matches = record { gifts = ap (λ d. (d, e) ∷ []) (sym there); receipts = refl };
      }

  -- one that came was heard
  pub passed_receipt : (v : W) (from : ℕ) (e : Envelope) → q ≡ record p { site = goes_on p.site (Heard from e) } → may_come p.site.top p.site.dc from e ≡ true → steps w (Came from e) v → HasPassed IsComing steps [] p w q v
  passed_receipt v from e is allowed step =
      record {
        happened = Heard from e ∷ [];
        crossed = Came from e ∷ [];
        only = All-cons IsComing (Came from e) [] tt (All-nil IsComing);
        passed = record {
          went = record { topology = ap (λ (z : PortValue). z.site.top) is; dc = ap (λ (z : PortValue). z.site.dc) is; story = ap (λ (z : PortValue). z.site.story) is; sound = λ z. sym (ap (λ (y : PortValue). y.site.sound) is) ∙ z };
          passing = All-cons (IsPassing p.site.top p.site.dc []) (Heard from e) [] tt (All-nil (IsPassing p.site.top p.site.dc []));
          waiting = ap (λ (z : PortValue). z.waiting) is;
          late = ap (λ (z : PortValue). z.late) is ∙ sym (append-nil p.late);
          behind = ap (λ (z : PortValue). z.behind) is;
        };
        crosses = (v, step, refl);
        matches = record { gifts = refl; receipts = rw allowed refl };
      }

  -- one that came and may not come from there was refused
  pub passed_refusal : (u v : W) (from : ℕ) (e : Envelope) → q ≡ p → may_come p.site.top p.site.dc from e ≡ false → steps w (Came from e) u → steps u (Refused from) v → HasPassed IsComing steps [] p w q v
  passed_refusal u v from e same stranger came refused =
      subst (λ z. HasPassed IsComing steps [] p w z v) (sym same)
      (record {
        happened = [];
        crossed = Came from e ∷ Refused from ∷ [];
        only = All-cons IsComing (Came from e) (Refused from ∷ []) tt (All-cons IsComing (Refused from) [] tt (All-nil IsComing));
        passed = passes_same [] p;
        crosses = (u, came, (v, refused, refl));
        matches = record { gifts = refl; receipts = rw stranger refl };
      })

-- giving is no step
pub giving_is_no_step : (s : Story) (e : Envelope) → steps (s ++ Given e ∷ []) ≡ steps s
giving_is_no_step s e = filter_map-append step_of s (Given e ∷ []) ∙ append-nil (steps s)

-- and one gift more
pub one_gift_more : (s : Story) (e : Envelope) → length (given (s ++ Given e ∷ [])) ≡ length (given s) + 1
one_gift_more s e = ap length (filter_map-append given_by s (Given e ∷ [])) ∙ length-append (given s) (e ∷ [])

-- hearing gives nothing
pub hearing_gives_none : (s : Story) (from : ℕ) (e : Envelope) → given (s ++ Heard from e ∷ []) ≡ given s
hearing_gives_none s from e = filter_map-append given_by s (Heard from e ∷ []) ∙ append-nil (given s)

-- neither do actors
none_given_by : (h : Happening) → IsDoing h → given_by h ≡ None
none_given_by (Did node x sends ended) is = refl
none_given_by (Heard from e) is = absurd is
none_given_by (Given e) is = absurd is

no_gift_of : (hs : List Happening) → All IsDoing hs → given hs ≡ []
no_gift_of [] all = refl
no_gift_of (h ∷ hs) all = skips given_by h hs (none_given_by h (All-head IsDoing h hs all)) (no_gift_of hs (All-tail IsDoing h hs all))

doing_gives_none : (old new : SiteValue) (happened : List Happening) → GoesOnWith old happened new → All IsDoing happened → given new.story ≡ given old.story
doing_gives_none old new happened went all =
    ap given went.story ∙ (filter_map-append given_by old.story happened ∙ (ap (λ l. given old.story ++ l) (no_gift_of happened all) ∙ append-nil (given old.story)))

pub turns_give_none : (most : ℕ) (old new : SiteValue) (late kept : List Late) → HasTurns None most old late None new kept → given new.story ≡ given old.story
turns_give_none most old new late kept t = doing_gives_none old new t.happened t.went (λ k d lt. handling_does (get_or t.happened k d) (t.handled k d lt))

pub collecting_gives_none : (times : List ℕ) (old new : SiteValue) (late kept : List Late) → HasCollected times old late new kept → given new.story ≡ given old.story
collecting_gives_none times old new late kept t =
    doing_gives_none old new t.happened t.went (λ k d lt. collection_does old.top old.dc times (get_or t.happened k d) (t.collected k d lt))

-- neither does what breaks off
doing_gives : (s : Story) (node : ℕ) (x : ActorEvent) (sends : List Envelope) (ended : Option _) → given (s ++ Did node x sends ended ∷ []) ≡ given s
doing_gives s node x sends ended = filter_map-append given_by s (Did node x sends ended ∷ []) ∙ append-nil (given s)

broken_gives : (old new : SiteValue) (node : ℕ) (x : ActorEvent) → HasBroken old node x new → given new.story ≡ given old.story
broken_gives old new node x (sends, ended, bad, is) = ap (λ (s : SiteValue). given s.story) is ∙ doing_gives old.story node x sends ended

refused_gives : (refuses : Refuses) (old new : SiteValue) (node : ℕ) (x : ActorEvent) (fault : Fault) → IsRefused refuses old node x fault new → given new.story ≡ given old.story
refused_gives refuses old new node x fault (inl (same, why)) = ap (λ (s : SiteValue). given s.story) same
refused_gives refuses old new node x fault (inr (sound, (is, broken))) = broken_gives old new node x broken

turn_gives : (refuses : Refuses) (old new : SiteValue) (fault : Fault) → IsTurnRefused refuses old fault new → given new.story ≡ given old.story
turn_gives refuses old new fault (inl (same, why)) = ap (λ (s : SiteValue). given s.story) same
turn_gives refuses old new fault (inr (e, first, r)) = refused_gives refuses old new e.to (Handle e) fault r

pub stopped_gives_none : (refuses : Refuses) (old new : SiteValue) (late kept : List Late) (fault : Fault) → HasStopped refuses None old late fault new kept → given new.story ≡ given old.story
stopped_gives_none refuses old new late kept fault t =
    turn_gives refuses t.between new fault t.refused ∙ doing_gives_none old t.between t.happened t.went (λ k d lt. handling_does (get_or t.happened k d) (t.handled k d lt))

pub breaking_gives_none : (times : List ℕ) (old new : SiteValue) (late kept : List Late) → HasBrokenOff times old late new kept → given new.story ≡ given old.story
breaking_gives_none times old new late kept t = broken_off t.broken ∙ collecting_gives_none times old t.between late kept t.before
  where
    broken_off : IsBroken t.shard times t.between new → given new.story ≡ given t.between.story
    broken_off (time, at, inl (same, bad)) = ap (λ (s : SiteValue). given s.story) same
    broken_off (time, at, inr broken) = broken_gives t.between new _ (Collect time) broken

-- ## Where it is refused

pub on_err : {A B : Type 0} (r : Result A B) (P : Type 0) → P → OnErr r P
on_err (Ok x) P p = tt
on_err (Err e) P p = p

module _ {W : Type 0} (crosses : W → Crossing → W → Type 0) where
  pub leaves_none : (w : W) → LeavesNone crosses w w
  leaves_none w = ([], All-nil IsComing, refl)

  pub leaves_one : (u v : W) (c : Crossing) → IsComing c → crosses u c v → LeavesNone crosses u v
  leaves_one u v c may step = (c ∷ [], All-cons IsComing c [] may (All-nil IsComing), (v, step, refl))

  pub leaves_then : (u v w : W) → LeavesNone crosses u v → LeavesNone crosses v w → LeavesNone crosses u w
  leaves_then u v w (xs, f, f_crosses) (ys, g, g_crosses) = (xs ++ ys, All-append IsComing xs ys f g, crosses_then crosses u v w xs ys f_crosses g_crosses)

  -- nothing was given
  pub gives_none : (p : PortValue) (u v : W) → LeavesNone crosses u v → GivesSome crosses p u p v
  gives_none p u v silent =
      record { between = p; ways_between = u; gave = passed_none IsGoing crosses [] p u; untaken = []; rest = sym (append-nil (given p.site.story)); silent = silent; undone = refl }

  -- one was, and wasn't taken
  pub gives_one : (p q : PortValue) (u v : W) (e : Envelope) → q.site.story ≡ p.site.story ++ Given e ∷ [] → crosses u Nothing v → GivesSome crosses p u q v
  gives_one p q u v e is step =
      record {
        between = p;
        ways_between = u;
        gave = passed_none IsGoing crosses [] p u;
        untaken = e ∷ [];
        rest = ap given is ∙ filter_map-append given_by p.site.story (Given e ∷ []);
        silent = leaves_one u v Nothing tt step;
        undone = ap steps is ∙ giving_is_no_step p.site.story e;
      }

  -- some were before
  pub gives_then : (p q r : PortValue) (u v w : W) → HasPassed IsGoing crosses [] p u q v → steps q.site.story ≡ steps p.site.story → GivesSome crosses q v r w → GivesSome crosses p u r w
  gives_then p q r u v w f same g =
      record {
        between = g.between;
        ways_between = g.ways_between;
        gave = passed_then IsGoing crosses [] p q g.between u v g.ways_between f g.gave;
        untaken = g.untaken;
        rest = g.rest;
        silent = g.silent;
        undone = g.undone ∙ same;
      }

-- what is refused by a sound site, and not for memory, may not come from there
pub may_not_come : (sound may : Bool) (fault : Fault) → (fault ≡ Memory) ⊎ ((fault ≡ StrangerEnd) × ((sound ≡ false) ⊎ (may ≡ false))) → (fault ≡ Memory → ⊥) → sound ≡ true → may ≡ false
may_not_come sound may fault (inl memory) other good = absurd (other memory)
may_not_come sound may fault (inr (stranger, inl bad)) other good = absurd (true_false (sym good ∙ bad))
  where
    true_false : true ≡ false → ⊥
    true_false q = cc
may_not_come sound may fault (inr (stranger, inr not)) other good = not

-- ## Marks

-- The marks are those that the collection gave, if it gave any: they were made of the clocks that the shards had on the way.
pub marked_by : (time : ℕ) (a b c : SiteValue) (first rest : List Happening) (old new : Marks) (fresh : Option Marks) → GoesOnWith a first b → GoesOnWith b rest c → new ≡ unwrap_or fresh old
    → IfSome fresh (λ m. (is_due old time ≡ true) × (m.taken ≡ time) × (m.clocks.items ≡ clocks_of b)) → AreMarked time a c old new
marked_by time a b c first rest old new None f g is told = inl is
marked_by time a b c first rest old new (Some m) f g is told = subst (λ z. AreMarked time a c old z) (sym is) (inr (told.0, told.1, (b, first, rest, f, g, told.2)))
