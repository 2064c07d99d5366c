-- What becomes of connections at places, one moment after the other.
use Rattle.std.proofs.Common.{◌≡◌, ◌∙◌, ℕ, zero, suc, List, [], ◌∷◌, ◌++◌, ◌==◌, map, Option, Some, None, All, refl, sym, ap, subst, inl, inr, append_assoc}
use Rattle.std.specs.Prelude.{◌⊎◌, slice_get, slice_set}
use Rattle.std.specs.List.{filter}
use Rattle.std.proofs.lemmas.Bool.{cases_eq}
use Rattle.std.proofs.lemmas.List.{append-nil, map-append}
use Rattle.std.proofs.lemmas.List.Elements.{All-nil, All-cons, All-head, All-tail, All-append, filter-append}
use Rattle.messages.specs.declared.op.Op.{Op}
use Rattle.wire.specs.Replies.{Reply}
use Rattle.readiness.specs.declared.connection.Connection.{Connection}
use Rattle.readiness.specs.declared.run.Gone.{Gone}
use Rattle.readiness.specs.Lines.{ReadyValue}
use Rattle.readiness.specs.Exchanges.{Exchange, Entry, only}
use Rattle.readiness.specs.Kept.{view, IsNew}
use Rattle.readiness.specs.Turns.{IsOver, IsAnswered}
use Rattle.readiness.specs.Places.{PlaceTurned, Turns}
use Rattle.readiness.specs.Runs.{Admitted, lines_at, gone_at, standing, Lives}
use Rattle.readiness.proofs.Lists.{get_set_same, get_set_other, got_within}
use Rattle.readiness.proofs.Positions.{log-then, only-append}
use Rattle.readiness.proofs.Lives.{lives-stay, lives-on, lives-more, lines-same, lines-other, gone-same, gone-other, new_kept}
use Rattle.doors.specs.Doorways.{Gives, lines_of}
use Rattle.doors.specs.Silence.{IsSentAway}
use Rattle.doors.specs.Spans.{Lived, AreOver, HaveEnded, HaveLeft, HaveCome, Spans}
use Rattle.doors.specs.Runs.{HasServed, HasServedLines}
use Rattle.doors.specs.Memory.{GivesNext}
use Rattle.doors.specs.declared.memory.MemoryDoor.{MemoryDoor}
use Rattle.readiness.specs.Memory.{MemoryValue, line_of}

-- ## Lists of what happened, one behind the other

lines-append : {L : Type 0} (k : ℕ) (a b : List (Admitted L)) → lines_at k (a ++ b) ≡ lines_at k a ++ lines_at k b
lines-append {L = L} k a b =
    ap (λ (t : List (Admitted L)). map (λ (x : Admitted L). x.line) t) (filter-append (λ (x : Admitted L). x.place == k) a b)
    ∙ map-append (λ (x : Admitted L). x.line) (filter (λ (x : Admitted L). x.place == k) a) (filter (λ (x : Admitted L). x.place == k) b)

gone-append : {L : Type 0} (k : ℕ) (a b : List (Gone L)) → gone_at k (a ++ b) ≡ gone_at k a ++ gone_at k b
gone-append {L = L} k a b =
    ap (λ (t : List (Gone L)). map (λ (x : Gone L). x.connection) t) (filter-append (λ (x : Gone L). x.place == k) a b)
    ∙ map-append (λ (x : Gone L). x.connection) (filter (λ (x : Gone L). x.place == k) a) (filter (λ (x : Gone L). x.place == k) b)

lines_of-append : {L : Type 0} (a b : List (Option L)) → lines_of (a ++ b) ≡ lines_of a ++ lines_of b
lines_of-append [] b = refl
lines_of-append (None ∷ a) b = lines_of-append a b
lines_of-append {L = L} (Some line ∷ a) b = ap (λ (t : List L). line ∷ t) (lines_of-append a b)

gives-then : {D : Type 0} {L : Type 0} (steps : D → Option L → D → Type 0) (d : D) (a : List (Option L)) (e : D) (b : List (Option L)) (f : D) → Gives steps d a e → Gives steps e b f → Gives steps d (a ++ b) f
gives-then {D = D} steps d [] e b f h k = subst (λ (x : D). Gives steps x b f) (sym h) k
gives-then steps d (call ∷ a) e b f h k = (h.0, h.1, gives-then steps h.0 a e b f h.2 k)

-- ## Lives

lived_none : {L : Type 0} (seen : L → ReadyValue) (old : List (Option (Connection L))) → Lived seen [] [] [] old old
lived_none {L = L} seen old k lines past gone h =
    lives-stay seen lines (lines ++ []) past (past ++ []) (gone ++ standing (slice_get old k)) ((gone ++ []) ++ standing (slice_get old k))
    (append-nil lines) (append-nil past) (ap (λ (t : List (Connection L)). t ++ standing (slice_get old k)) (append-nil gone)) h

lived_then : {L : Type 0} (seen : L → ReadyValue) (g1 : List Entry) (a1 : List (Admitted L)) (l1 : List (Gone L)) (g2 : List Entry) (a2 : List (Admitted L)) (l2 : List (Gone L)) (x y z : List (Option (Connection L)))
    → Lived seen g1 a1 l1 x y → Lived seen g2 a2 l2 y z → Lived seen (g1 ++ g2) (a1 ++ a2) (l1 ++ l2) x z
lived_then {L = L} seen g1 a1 l1 g2 a2 l2 x y z h j k lines past gone l =
    lives-stay seen ((lines ++ lines_at k a1) ++ lines_at k a2) (lines ++ lines_at k (a1 ++ a2)) ((past ++ only k g1) ++ only k g2) (past ++ only k (g1 ++ g2))
    (((gone ++ gone_at k l1) ++ gone_at k l2) ++ standing (slice_get z k)) ((gone ++ gone_at k (l1 ++ l2)) ++ standing (slice_get z k))
    (ap (λ (t : List L). lines ++ t) (lines-append k a1 a2) ∙ sym (append_assoc lines (lines_at k a1) (lines_at k a2)))
    (ap (λ (t : List Exchange). past ++ t) (only-append k g1 g2) ∙ sym (append_assoc past (only k g1) (only k g2)))
    (ap (λ (t : List (Connection L)). t ++ standing (slice_get z k)) (ap (λ (t : List (Connection L)). gone ++ t) (gone-append k l1 l2) ∙ sym (append_assoc gone (gone_at k l1) (gone_at k l2))))
    (j k (lines ++ lines_at k a1) (past ++ only k g1) (gone ++ gone_at k l1) (h k lines past gone l))

-- the connection at a place goes on
place_lives : {L : Type 0} (seen : L → ReadyValue) (more : List Exchange) (lines : List L) (past : List Exchange) (gone : List (Connection L)) (x y : Option (Option (Connection L)))
    → PlaceTurned seen more x y → Lives seen lines past (gone ++ standing x) → Lives seen lines (past ++ more) (gone ++ standing y)
place_lives {L = L} seen more lines past gone None y h l =
    lives-stay seen lines lines past (past ++ more) (gone ++ []) (gone ++ standing y) refl (ap (λ (t : List Exchange). past ++ t) h.1 ∙ append-nil past) (ap (λ (u : Option (Option (Connection L))). gone ++ standing u) h.0) l
place_lives {L = L} seen more lines past gone (Some None) y h l =
    lives-stay seen lines lines past (past ++ more) (gone ++ []) (gone ++ standing y) refl (ap (λ (t : List Exchange). past ++ t) h.1 ∙ append-nil past) (ap (λ (u : Option (Option (Connection L))). gone ++ standing u) h.0) l
place_lives seen more lines past gone (Some (Some c)) None h l = absurd h
place_lives seen more lines past gone (Some (Some c)) (Some None) h l = absurd h
place_lives seen more lines past gone (Some (Some c)) (Some (Some d)) h l = lives-on seen lines past gone c more d l h

lived_turns : {L : Type 0} {P : Type 0} (seen : L → ReadyValue) (steps : ℕ → P → Op → Reply → P → Type 0) (log : List Entry) (old : List (Option (Connection L))) (p : P) (new : List (Option (Connection L))) (q : P) → Turns seen steps log old p new q → Lived seen log [] [] old new
lived_turns {L = L} seen steps log old p new q h k lines past gone l =
    lives-stay seen lines (lines ++ []) (past ++ only k log) (past ++ only k log) (gone ++ standing (slice_get new k)) ((gone ++ []) ++ standing (slice_get new k))
    (append-nil lines) refl (ap (λ (t : List (Connection L)). t ++ standing (slice_get new k)) (append-nil gone))
    (place_lives seen (only k log) lines past gone (slice_get old k) (slice_get new k) (h.places k) l)

-- the connection at a place leaves it
lived_left : {L : Type 0} (seen : L → ReadyValue) (old new : List (Option (Connection L))) (place : ℕ) (c : Connection L) → slice_get old place ≡ Some (Some c) → new ≡ slice_set old place None → Lived seen [] [] (record { place = place; connection = c } ∷ []) old new
lived_left {L = L} seen old new place c was is k lines past gone l =
    let left : List (Gone L) = record { place = place; connection = c } ∷ [] in
    lives-stay seen lines (lines ++ []) past (past ++ []) (gone ++ standing (slice_get old k)) ((gone ++ gone_at k left) ++ standing (slice_get new k))
    (append-nil lines) (append-nil past)
    (elim (cases_eq place k) [
      | inl e ↦
          let now : standing (slice_get new k) ≡ [] = ap (λ (u : List (Option (Connection L))). standing (slice_get u k)) is ∙ ap (λ (i : ℕ). standing (slice_get (slice_set old place None) i)) (sym e) ∙ ap standing (get_set_same old place None (got_within old place (Some c) was)) in
          let before : standing (slice_get old k) ≡ c ∷ [] = ap (λ (i : ℕ). standing (slice_get old i)) (sym e) ∙ ap standing was in
          ap (λ (t : List (Connection L)). (gone ++ gone_at k left) ++ t) now ∙ append-nil (gone ++ gone_at k left) ∙ ap (λ (t : List (Connection L)). gone ++ t) (gone-same k place [] c e ∙ sym before)
      | inr ne ↦
          ap (λ (t : List (Connection L)). (gone ++ t) ++ standing (slice_get new k)) (gone-other k place [] c ne) ∙ ap (λ (t : List (Connection L)). t ++ standing (slice_get new k)) (append-nil gone)
          ∙ ap (λ (u : Option (Option (Connection L))). gone ++ standing u) (ap (λ (u : List (Option (Connection L))). slice_get u k) is ∙ get_set_other old place k None ne)
    ]) l

-- a free place is given to the connection of a line
pub lived_come : {L : Type 0} (seen : L → ReadyValue) (old new : List (Option (Connection L))) (place : ℕ) (line : L) → slice_get old place ≡ Some None → ((c : Connection L) × IsNew line c × (new ≡ slice_set old place (Some c)))
    → Lived seen [] (record { place = place; line = line } ∷ []) [] old new
lived_come {L = L} seen old new place line was given k lines past gone l =
    let c = given.0 in
    let came : List (Admitted L) = record { place = place; line = line } ∷ [] in
    elim (cases_eq place k) [
      | inl e ↦
          let now : standing (slice_get new k) ≡ c ∷ [] = ap (λ (u : List (Option (Connection L))). standing (slice_get u k)) given.2 ∙ ap (λ (i : ℕ). standing (slice_get (slice_set old place (Some c)) i)) (sym e) ∙ ap standing (get_set_same old place (Some c) (got_within old place None was)) in
          let before : gone ++ standing (slice_get old k) ≡ gone = ap (λ (i : ℕ). gone ++ standing (slice_get old i)) (sym e) ∙ ap (λ (u : Option (Option (Connection L))). gone ++ standing u) was ∙ append-nil gone in
          lives-stay seen (lines ++ line ∷ []) (lines ++ lines_at k came) (past ++ []) (past ++ []) (gone ++ c ∷ []) ((gone ++ []) ++ standing (slice_get new k))
          (ap (λ (t : List L). lines ++ t) (lines-same k place [] line e)) refl (ap (λ (t : List (Connection L)). (gone ++ []) ++ t) now ∙ ap (λ (t : List (Connection L)). t ++ c ∷ []) (append-nil gone))
          (lives-more seen lines past gone line [] c (subst (λ (t : List (Connection L)). Lives seen lines past t) before l) (new_kept seen line c given.1))
      | inr ne ↦
          lives-stay seen lines (lines ++ lines_at k came) past (past ++ []) (gone ++ standing (slice_get old k)) ((gone ++ []) ++ standing (slice_get new k))
          (ap (λ (t : List L). lines ++ t) (lines-other k place [] line ne) ∙ append-nil lines) (append-nil past)
          (ap (λ (t : List (Connection L)). t ++ standing (slice_get new k)) (append-nil gone) ∙ ap (λ (u : Option (Option (Connection L))). gone ++ standing u) (ap (λ (u : List (Option (Connection L))). slice_get u k) given.2 ∙ get_set_other old place k (Some c) ne))
          l
    ]

-- ## Those that leave

pub left_none : {L : Type 0} (seen : L → ReadyValue) (old : List (Option (Connection L))) → HaveLeft seen old old
left_none {L = L} seen old = ([], All-nil (λ (g : Gone L). IsOver (view seen g.connection)), lived_none seen old)

-- nothing was changed
pub left_same : {L : Type 0} (seen : L → ReadyValue) (old new : List (Option (Connection L))) → new ≡ old → HaveLeft seen old new
left_same {L = L} seen old new same = subst (λ (u : List (Option (Connection L))). HaveLeft seen old u) (sym same) (left_none seen old)

pub left_at : {L : Type 0} (seen : L → ReadyValue) (old new : List (Option (Connection L))) (place : ℕ) (c : Connection L) → slice_get old place ≡ Some (Some c) → IsOver (view seen c) → new ≡ slice_set old place None → HaveLeft seen old new
left_at {L = L} seen old new place c was over is =
    (record { place = place; connection = c } ∷ [], All-cons (λ (g : Gone L). IsOver (view seen g.connection)) (record { place = place; connection = c }) [] over (All-nil (λ (g : Gone L). IsOver (view seen g.connection))), lived_left seen old new place c was is)

pub left_more : {L : Type 0} (seen : L → ReadyValue) (x y z : List (Option (Connection L))) → HaveLeft seen x y → HaveLeft seen y z → HaveLeft seen x z
left_more {L = L} seen x y z h k =
    (h.0 ++ k.0, All-append (λ (g : Gone L). IsOver (view seen g.connection)) h.0 k.0 h.1 k.1, lived_then seen [] [] h.0 [] [] k.0 x y z h.2 k.2)

-- ## Those that come

pub come_none : {L : Type 0} {D : Type 0} (seen : L → ReadyValue) (steps : D → Option L → D → Type 0) (d : D) (old : List (Option (Connection L))) → HaveCome seen steps d old d old
come_none seen steps d old = ([], [], refl, refl, lived_none seen old)

-- the door was asked, and gave no line
pub come_no_one : {L : Type 0} {D : Type 0} (seen : L → ReadyValue) (steps : D → Option L → D → Type 0) (d e : D) (old new : List (Option (Connection L))) → steps d None e → new ≡ old → HaveCome seen steps d old e new
come_no_one {L = L} seen steps d e old new h same = ([], None ∷ [], (e, h, refl), refl, subst (λ (u : List (Option (Connection L))). Lived seen [] [] [] old u) (sym same) (lived_none seen old))

-- the door gave a line
pub come_one : {L : Type 0} {D : Type 0} (seen : L → ReadyValue) (steps : D → Option L → D → Type 0) (d e : D) (old new : List (Option (Connection L))) (place : ℕ) (line : L) → steps d (Some line) e → Lived seen [] (record { place = place; line = line } ∷ []) [] old new → HaveCome seen steps d old e new
come_one seen steps d e old new place line h lived = (record { place = place; line = line } ∷ [], Some line ∷ [], (e, h, refl), refl, lived)

given_lines : {L : Type 0} (a b : List (Admitted L)) (u v : List (Option L)) → map (λ (x : Admitted L). x.line) a ≡ lines_of u → map (λ (x : Admitted L). x.line) b ≡ lines_of v → map (λ (x : Admitted L). x.line) (a ++ b) ≡ lines_of (u ++ v)
given_lines {L = L} a b u v h k =
    map-append (λ (x : Admitted L). x.line) a b ∙ ap (λ (t : List L). t ++ map (λ (x : Admitted L). x.line) b) h ∙ ap (λ (t : List L). lines_of u ++ t) k ∙ sym (lines_of-append u v)

pub come_more : {L : Type 0} {D : Type 0} (seen : L → ReadyValue) (steps : D → Option L → D → Type 0) (d : D) (x : List (Option (Connection L))) (e : D) (y : List (Option (Connection L))) (f : D) (z : List (Option (Connection L)))
    → HaveCome seen steps d x e y → HaveCome seen steps e y f z → HaveCome seen steps d x f z
come_more seen steps d x e y f z h k =
    (h.0 ++ k.0, h.1 ++ k.1, gives-then steps d h.1 e k.1 f h.2 k.2, given_lines h.0 k.0 h.1 k.1 h.3 k.3, lived_then seen [] h.0 [] [] k.0 [] x y z h.4 k.4)

-- ## Those that have ended

abbrev MayLeave : {L : Type 0} → (L → ReadyValue) → Option ℕ → Gone L → Type 0
MayLeave seen idle g = IsOver (view seen g.connection) ⊎ ((idle ≡ None → ⊥) × IsAnswered (view seen g.connection))

ended_none : {L : Type 0} (seen : L → ReadyValue) (idle : Option ℕ) → HaveEnded seen idle []
ended_none {L = L} seen idle = All-nil (λ (g : Gone L). MayLeave seen idle g)

ended_over : {L : Type 0} (seen : L → ReadyValue) (idle : Option ℕ) (left : List (Gone L)) → AreOver seen left → HaveEnded seen idle left
ended_over {L = L} seen idle [] h = ended_none seen idle
ended_over {L = L} seen idle (g ∷ left) h =
    All-cons (λ (x : Gone L). MayLeave seen idle x) g left (inl (All-head (λ (x : Gone L). IsOver (view seen x.connection)) g left h)) (ended_over seen idle left (All-tail (λ (x : Gone L). IsOver (view seen x.connection)) g left h))

borne_so : (idle : Option ℕ) (patience : ℕ) → idle ≡ Some patience → idle ≡ None → ⊥
borne_so idle patience e f = cc

-- ## All of it

pub spans_none : {L : Type 0} {P : Type 0} {D : Type 0} (seen : L → ReadyValue) (asks : ℕ → P → Op → Reply → P → Type 0) (gives : D → Option L → D → Type 0) (idle : Option ℕ) (d : D) (x : List (Option (Connection L))) (p : P) → Spans seen asks gives idle d x p d x p
spans_none seen asks gives idle d x p = record {
  log = [];
  chain = refl;
  admitted = [];
  left = [];
  calls = [];
  door = refl;
  given = refl;
  ended = ended_none seen idle;
  lives = lived_none seen x;
}

pub spans_then : {L : Type 0} {P : Type 0} {D : Type 0} (seen : L → ReadyValue) (asks : ℕ → P → Op → Reply → P → Type 0) (gives : D → Option L → D → Type 0) (idle : Option ℕ) (d : D) (x : List (Option (Connection L))) (p : P) (e : D) (y : List (Option (Connection L))) (q : P) (f : D) (z : List (Option (Connection L))) (r : P)
    → Spans seen asks gives idle d x p e y q → Spans seen asks gives idle e y q f z r → Spans seen asks gives idle d x p f z r
spans_then {L = L} seen asks gives idle d x p e y q f z r h k = record {
  log = h.log ++ k.log;
  chain = log-then asks p h.log q k.log r h.chain k.chain;
  admitted = h.admitted ++ k.admitted;
  left = h.left ++ k.left;
  calls = h.calls ++ k.calls;
  door = gives-then gives d h.calls e k.calls f h.door k.door;
  given = given_lines h.admitted k.admitted h.calls k.calls h.given k.given;
  ended = All-append (λ (g : Gone L). MayLeave seen idle g) h.left k.left h.ended k.ended;
  lives = lived_then seen h.log h.admitted h.left k.log k.admitted k.left x y z h.lives k.lives;
}

-- as long as those that send nothing are borne for as long as before
pub spans_next : {L : Type 0} {P : Type 0} {D : Type 0} (seen : L → ReadyValue) (asks : ℕ → P → Op → Reply → P → Type 0) (gives : D → Option L → D → Type 0) (idle : Option ℕ) (d : D) (x : List (Option (Connection L))) (p : P) (now : Option ℕ) (e : D) (y : List (Option (Connection L))) (q : P) (f : D) (z : List (Option (Connection L))) (r : P)
    → now ≡ idle → Spans seen asks gives idle d x p e y q → Spans seen asks gives now e y q f z r → Spans seen asks gives idle d x p f z r
spans_next seen asks gives idle d x p now e y q f z r same h k = spans_then seen asks gives idle d x p e y q f z r h (subst (λ (i : Option ℕ). Spans seen asks gives i e y q f z r) same k)

-- the door was waited at
pub spans_waited : {L : Type 0} {P : Type 0} {D : Type 0} (seen : L → ReadyValue) (asks : ℕ → P → Op → Reply → P → Type 0) (gives : D → Option L → D → Type 0) (idle : Option ℕ) (d e : D) (x : List (Option (Connection L))) (p : P) → gives d None e → Spans seen asks gives idle d x p e x p
spans_waited seen asks gives idle d e x p h = record {
  log = [];
  chain = refl;
  admitted = [];
  left = [];
  calls = None ∷ [];
  door = (e, h, refl);
  given = refl;
  ended = ended_none seen idle;
  lives = lived_none seen x;
}

spans_turned : {L : Type 0} {P : Type 0} {D : Type 0} (seen : L → ReadyValue) (asks : ℕ → P → Op → Reply → P → Type 0) (gives : D → Option L → D → Type 0) (idle : Option ℕ) (d : D) (x : List (Option (Connection L))) (p : P) (y : List (Option (Connection L))) (q : P) → ((log : List Entry) × Turns seen asks log x p y q) → Spans seen asks gives idle d x p d y q
spans_turned seen asks gives idle d x p y q h = record {
  log = h.0;
  chain = h.1.chain;
  admitted = [];
  left = [];
  calls = [];
  door = refl;
  given = refl;
  ended = ended_none seen idle;
  lives = lived_turns seen asks h.0 x p y q h.1;
}

spans_left : {L : Type 0} {P : Type 0} {D : Type 0} (seen : L → ReadyValue) (asks : ℕ → P → Op → Reply → P → Type 0) (gives : D → Option L → D → Type 0) (idle : Option ℕ) (d : D) (x y : List (Option (Connection L))) (p : P) → HaveLeft seen x y → Spans seen asks gives idle d x p d y p
spans_left seen asks gives idle d x y p h = record { log = []; chain = refl; admitted = []; left = h.0; calls = []; door = refl; given = refl; ended = ended_over seen idle h.0 h.1; lives = h.2 }

-- one was sent away
spans_sent : {L : Type 0} {P : Type 0} {D : Type 0} (seen : L → ReadyValue) (asks : ℕ → P → Op → Reply → P → Type 0) (gives : D → Option L → D → Type 0) (idle : Option ℕ) (now : ℕ) (since again : List ℕ) (d : D) (x y : List (Option (Connection L))) (p : P) → IsSentAway seen idle now since again x y → Spans seen asks gives idle d x p d y p
spans_sent {L = L} seen asks gives idle now since again d x y p h = record {
  log = [];
  chain = refl;
  admitted = [];
  left = record { place = h.place; connection = h.connection } ∷ [];
  calls = [];
  door = refl;
  given = refl;
  ended = All-cons (λ (g : Gone L). MayLeave seen idle g) (record { place = h.place; connection = h.connection }) [] (inr (borne_so idle h.patience h.borne, h.answered)) (ended_none seen idle);
  lives = lived_left seen x y h.place h.connection h.stood h.left;
}

spans_room : {L : Type 0} {P : Type 0} {D : Type 0} {A : Type 0} {B : Type 0} (seen : L → ReadyValue) (asks : ℕ → P → Op → Reply → P → Type 0) (gives : D → Option L → D → Type 0) (idle : Option ℕ) (now : ℕ) (since again : List ℕ) (d : D) (x y : List (Option (Connection L))) (p : P)
    → (y ≡ x) ⊎ (A × B × IsSentAway seen idle now since again x y) → Spans seen asks gives idle d x p d y p
spans_room {L = L} seen asks gives idle now since again d x y p h = elim h [
  | inl e ↦ subst (λ (u : List (Option (Connection L))). Spans seen asks gives idle d x p d u p) (sym e) (spans_none seen asks gives idle d x p)
  | inr m ↦ spans_sent seen asks gives idle now since again d x y p m.2
]

spans_come : {L : Type 0} {P : Type 0} {D : Type 0} (seen : L → ReadyValue) (asks : ℕ → P → Op → Reply → P → Type 0) (gives : D → Option L → D → Type 0) (idle : Option ℕ) (d : D) (x : List (Option (Connection L))) (p : P) (e : D) (y : List (Option (Connection L))) → HaveCome seen gives d x e y → Spans seen asks gives idle d x p e y p
spans_come seen asks gives idle d x p e y h = record { log = []; chain = refl; admitted = h.0; left = []; calls = h.1; door = h.2; given = h.3; ended = ended_none seen idle; lives = h.4 }

-- ## A round, step by step

-- up to the closing
pub spans_closed : {L : Type 0} {P : Type 0} {D : Type 0} (seen : L → ReadyValue) (asks : ℕ → P → Op → Reply → P → Type 0) (gives : D → Option L → D → Type 0) (idle : Option ℕ) (d e : D) (x : List (Option (Connection L))) (p : P) (y : List (Option (Connection L))) (q : P) (z : List (Option (Connection L)))
    → gives d None e → ((log : List Entry) × Turns seen asks log x p y q) → HaveLeft seen y z → Spans seen asks gives idle d x p e z q
spans_closed seen asks gives idle d e x p y q z waited turned left =
    spans_then seen asks gives idle d x p e y q e z q (spans_then seen asks gives idle d x p e x p e y q (spans_waited seen asks gives idle d e x p waited) (spans_turned seen asks gives idle e x p y q turned)) (spans_left seen asks gives idle e y z q left)

-- up to who was sent away
pub spans_made : {L : Type 0} {P : Type 0} {D : Type 0} {A : Type 0} {B : Type 0} (seen : L → ReadyValue) (asks : ℕ → P → Op → Reply → P → Type 0) (gives : D → Option L → D → Type 0) (idle : Option ℕ) (now : ℕ) (since again : List ℕ) (d e : D) (x : List (Option (Connection L))) (p : P) (y : List (Option (Connection L))) (q : P) (z v : List (Option (Connection L)))
    → gives d None e → ((log : List Entry) × Turns seen asks log x p y q) → HaveLeft seen y z → (v ≡ z) ⊎ (A × B × IsSentAway seen idle now since again z v) → Spans seen asks gives idle d x p e v q
spans_made seen asks gives idle now since again d e x p y q z v waited turned left room =
    spans_then seen asks gives idle d x p e z q e v q (spans_closed seen asks gives idle d e x p y q z waited turned left) (spans_room seen asks gives idle now since again e z v q room)

-- all of it
pub spans_round : {L : Type 0} {P : Type 0} {D : Type 0} {A : Type 0} {B : Type 0} (seen : L → ReadyValue) (asks : ℕ → P → Op → Reply → P → Type 0) (gives : D → Option L → D → Type 0) (idle : Option ℕ) (now : ℕ) (since again : List ℕ) (d e f : D) (x : List (Option (Connection L))) (p : P) (y : List (Option (Connection L))) (q : P) (z v u : List (Option (Connection L)))
    → gives d None e → ((log : List Entry) × Turns seen asks log x p y q) → HaveLeft seen y z → (v ≡ z) ⊎ (A × B × IsSentAway seen idle now since again z v) → HaveCome seen gives e v f u → Spans seen asks gives idle d x p f u q
spans_round seen asks gives idle now since again d e f x p y q z v u waited turned left room come =
    spans_then seen asks gives idle d x p e v q f u q (spans_made seen asks gives idle now since again d e x p y q z v waited turned left room) (spans_come seen asks gives idle e v q f u come)

-- ## From the beginning

nobody_stands : {L : Type 0} (places : List (Option (Connection L))) (k : ℕ) → All (λ (c : Option (Connection L)). c ≡ None) places → standing (slice_get places k) ≡ []
nobody_stands [] k free = refl
nobody_stands {L = L} (x ∷ places) zero free = ap (λ (c : Option (Connection L)). standing (Some c)) (All-head (λ (c : Option (Connection L)). c ≡ None) x places free)
nobody_stands {L = L} (x ∷ places) (suc k) free = nobody_stands places k (All-tail (λ (c : Option (Connection L)). c ≡ None) x places free)

-- all places were free
pub served : {L : Type 0} {P : Type 0} {D : Type 0} (seen : L → ReadyValue) (asks : ℕ → P → Op → Reply → P → Type 0) (gives : D → Option L → D → Type 0) (idle : Option ℕ) (d : D) (x : List (Option (Connection L))) (p : P) (e : D) (y : List (Option (Connection L))) (q : P)
    → All (λ (c : Option (Connection L)). c ≡ None) x → Spans seen asks gives idle d x p e y q → HasServed seen asks gives idle d p e y q
served {L = L} seen asks gives idle d x p e y q free h = (
  h.calls,
  h.door,
  h.left,
  h.ended,
  (
    h.admitted,
    h.given,
    h.log,
    record {
      chain = h.chain;
      lives = λ k. h.lives k [] [] [] (subst (λ (t : List (Connection L)). Lives seen [] [] t) (sym (nobody_stands x k free)) refl);
    },
  ),
)

-- ## Over memory

given_first : (d : MemoryDoor) (calls : List (Option MemoryValue)) (e : MemoryDoor) → Gives GivesNext d calls e → d.lines.items ≡ lines_of calls ++ e.lines.items
given_first d [] e h = ap (λ (x : MemoryDoor). x.lines.items) h
given_first d (None ∷ calls) e h = sym h.1 ∙ given_first h.0 calls e h.2
given_first d (Some line ∷ calls) e h = h.1 ∙ ap (λ (t : List MemoryValue). line ∷ t) (given_first h.0 calls e h.2)

pub served_lines : {P : Type 0} (asks : ℕ → P → Op → Reply → P → Type 0) (idle : Option ℕ) (d : MemoryDoor) (p : P) (e : MemoryDoor) (y : List (Option (Connection MemoryValue))) (q : P) → HasServed line_of asks GivesNext idle d p e y q → HasServedLines asks idle d.lines.items p e.lines.items y q
served_lines asks idle d p e y q h = (lines_of h.0, given_first d h.0 e h.1, h.2, h.3, h.4)
