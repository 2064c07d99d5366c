-- Lives at places, one connection after the other.
use Rattle.std.proofs.Common.{◌≡◌, ℕ, ◌==◌, List, [], ◌∷◌, ◌++◌, map, length, Option, Some, None, refl, sym, ap, subst, ◌∙◌, append_assoc, inl, inr, arith}
use Rattle.std.specs.Prelude.{slice_get, slice_set}
use Rattle.std.specs.List.{filter}
use Rattle.std.proofs.lemmas.Bool.{cases_eq, eq-eqb, ne_eqb}
use Rattle.std.proofs.lemmas.List.{append-nil, map-append}
use Rattle.std.proofs.lemmas.List.Elements.{filter-append}
use Rattle.messages.specs.declared.op.Op.{Op}
use Rattle.wire.specs.Replies.{Reply}
use Rattle.wire.specs.Frames.{ReaderValue, front_of}
use Rattle.front.proofs.Said.{with_more-nil}
use Rattle.front.proofs.Requests.{begins-none}
use Rattle.readiness.specs.declared.connection.Stage.{Stage}
use Rattle.readiness.specs.declared.connection.Stage.TheVariants.{Open}
use Rattle.readiness.specs.declared.connection.Connection.{Connection}
use Rattle.readiness.specs.declared.run.Act.{Act}
use Rattle.readiness.specs.declared.run.Act.TheVariants.{Arrives, Ready, Leaves}
use Rattle.readiness.specs.declared.run.Gone.{Gone}
use Rattle.readiness.specs.Lines.{ReadyValue}
use Rattle.readiness.specs.Exchanges.{Exchange, only}
use Rattle.readiness.specs.Kept.{view, Kept, IsNew}
use Rattle.readiness.specs.Turns.{Extends, Turned, IsBounded}
use Rattle.readiness.specs.Places.{TurnedAt, PlaceTurned, AreBounded}
use Rattle.readiness.specs.Runs.{Admitted, lines_at, gone_at, standing, Lives, RanFor, HasArrived, HasLeft, arrivals}
use Rattle.readiness.proofs.Lists.{get_set_same, get_set_other, got_within, get_last, get_past, get_before}
use Rattle.readiness.proofs.Positions.{tag, logged, log-then, only-same, only-other, only-append}

-- ## A connection before any call

nothing_kept : (s : ReadyValue) → Kept s.line [] (record { line = s; reader = record { held = []; rest = []; fault = None }; waiting = []; stage = Open None })
unfolding front_of
nothing_kept s = record {
  bytes = [];
  told = [];
  rest = [];
  replies = [];
  heard = sym (with_more-nil s.line.heard);
  said = sym (with_more-nil s.line.said);
  begins = begins-none [];
  encoded = refl;
  stands = record { unread = refl; sent = refl; endings = refl; failures = refl; front = refl; stopped = refl };
}

pub new_kept : {L : Type 0} (seen : L → ReadyValue) (line : L) (c : Connection L) → IsNew line c → Kept (seen line).line [] (view seen c)
new_kept {L = L} seen line c h =
    subst (λ (s : Stage). Kept (seen line).line [] (record { line = seen c.line; reader = c.reader; waiting = c.waiting.items; stage = s })) (sym h.3)
    (subst (λ (w : List ℕ). Kept (seen line).line [] (record { line = seen c.line; reader = c.reader; waiting = w; stage = Open None })) (sym h.2)
    (subst (λ (r : ReaderValue). Kept (seen line).line [] (record { line = seen c.line; reader = r; waiting = []; stage = Open None })) (sym h.1)
    (subst (λ (m : L). Kept (seen line).line [] (record { line = seen m; reader = record { held = []; rest = []; fault = None }; waiting = []; stage = Open None })) (sym h.0) (nothing_kept (seen line)))))

-- ## The lives at one place

-- one connection more
pub lives-more : {L : Type 0} (seen : L → ReadyValue) (lines : List L) (past : List Exchange) (cs : List (Connection L)) (line : L) (more : List Exchange) (c : Connection L)
    → Lives seen lines past cs → Kept (seen line).line more (view seen c) → Lives seen (lines ++ line ∷ []) (past ++ more) (cs ++ c ∷ [])
lives-more seen [] past [] line more c h kept = (more, [], ap (λ (t : List Exchange). t ++ more) h ∙ sym (append-nil more), kept, refl)
lives-more seen [] past (d ∷ cs) line more c h kept = absurd h
lives-more seen (m ∷ lines) past [] line more c h kept = absurd h
lives-more seen (m ∷ lines) past (d ∷ cs) line more c h kept =
    (h.0, h.1 ++ more, ap (λ (t : List Exchange). t ++ more) h.2 ∙ append_assoc h.0 h.1 more, h.3, lives-more seen lines h.1 cs line more c h.4 kept)

-- the last connection goes on
pub lives-on : {L : Type 0} (seen : L → ReadyValue) (lines : List L) (past : List Exchange) (gone : List (Connection L)) (c : Connection L) (more : List Exchange) (d : Connection L)
    → Lives seen lines past (gone ++ c ∷ []) → Extends more (view seen c) (view seen d) → Lives seen lines (past ++ more) (gone ++ d ∷ [])
lives-on seen [] past [] c more d h extends = absurd h
lives-on seen [] past (g ∷ gone) c more d h extends = absurd h
lives-on seen (m ∷ []) past [] c more d h extends = (
  h.0 ++ more,
  [],
  ap (λ (t : List Exchange). t ++ more) (h.2 ∙ ap (λ (t : List Exchange). h.0 ++ t) h.4 ∙ append-nil h.0) ∙ sym (append-nil (h.0 ++ more)),
  extends (seen m).line h.0 h.3,
  refl,
)
lives-on seen (m ∷ n ∷ lines) past [] c more d h extends = absurd h.4
lives-on seen (m ∷ lines) past (g ∷ gone) c more d h extends =
    (h.0, h.1 ++ more, ap (λ (t : List Exchange). t ++ more) h.2 ∙ append_assoc h.0 h.1 more, h.3, lives-on seen lines h.1 gone c more d h.4 extends)

-- ## What stands at a place is listed by it

pub lines-same : {L : Type 0} (k place : ℕ) (admitted : List (Admitted L)) (line : L) → place ≡ k → lines_at k (admitted ++ record { place = place; line = line } ∷ []) ≡ lines_at k admitted ++ line ∷ []
lines-same {L = L} k place admitted line e =
    ap (λ (t : List (Admitted L)). map (λ (a : Admitted L). a.line) t) (filter-append (λ (a : Admitted L). a.place == k) admitted (record { place = place; line = line } ∷ []))
    ∙ map-append (λ (a : Admitted L). a.line) (filter (λ (a : Admitted L). a.place == k) admitted) (filter (λ (a : Admitted L). a.place == k) (record { place = place; line = line } ∷ []))
    ∙ rw (eq-eqb place k e) refl

pub lines-other : {L : Type 0} (k place : ℕ) (admitted : List (Admitted L)) (line : L) → (place ≡ k → ⊥) → lines_at k (admitted ++ record { place = place; line = line } ∷ []) ≡ lines_at k admitted
lines-other {L = L} k place admitted line ne =
    ap (λ (t : List (Admitted L)). map (λ (a : Admitted L). a.line) t) (filter-append (λ (a : Admitted L). a.place == k) admitted (record { place = place; line = line } ∷ []))
    ∙ map-append (λ (a : Admitted L). a.line) (filter (λ (a : Admitted L). a.place == k) admitted) (filter (λ (a : Admitted L). a.place == k) (record { place = place; line = line } ∷ []))
    ∙ rw (ne_eqb place k ne) (append-nil (lines_at k admitted))

pub gone-same : {L : Type 0} (k place : ℕ) (gone : List (Gone L)) (c : Connection L) → place ≡ k → gone_at k (gone ++ record { place = place; connection = c } ∷ []) ≡ gone_at k gone ++ c ∷ []
gone-same {L = L} k place gone c e =
    ap (λ (t : List (Gone L)). map (λ (g : Gone L). g.connection) t) (filter-append (λ (g : Gone L). g.place == k) gone (record { place = place; connection = c } ∷ []))
    ∙ map-append (λ (g : Gone L). g.connection) (filter (λ (g : Gone L). g.place == k) gone) (filter (λ (g : Gone L). g.place == k) (record { place = place; connection = c } ∷ []))
    ∙ rw (eq-eqb place k e) refl

pub gone-other : {L : Type 0} (k place : ℕ) (gone : List (Gone L)) (c : Connection L) → (place ≡ k → ⊥) → gone_at k (gone ++ record { place = place; connection = c } ∷ []) ≡ gone_at k gone
gone-other {L = L} k place gone c ne =
    ap (λ (t : List (Gone L)). map (λ (g : Gone L). g.connection) t) (filter-append (λ (g : Gone L). g.place == k) gone (record { place = place; connection = c } ∷ []))
    ∙ map-append (λ (g : Gone L). g.connection) (filter (λ (g : Gone L). g.place == k) gone) (filter (λ (g : Gone L). g.place == k) (record { place = place; connection = c } ∷ []))
    ∙ rw (ne_eqb place k ne) (append-nil (gone_at k gone))

-- ## What happens in a run

-- the lives at a place stay, where nothing of it changes
pub lives-stay : {L : Type 0} (seen : L → ReadyValue) (lines ls : List L) (past ps : List Exchange) (cs ds : List (Connection L)) → ls ≡ lines → ps ≡ past → ds ≡ cs → Lives seen lines past cs → Lives seen ls ps ds
lives-stay {L = L} seen lines ls past ps cs ds a b c h =
    subst (λ (t : List L). Lives seen t ps ds) (sym a) (subst (λ (t : List Exchange). Lives seen lines t ds) (sym b) (subst (λ (t : List (Connection L)). Lives seen lines past t) (sym c) h))

ran-none : {L : Type 0} {P : Type 0} (seen : L → ReadyValue) (steps : ℕ → P → Op → Reply → P → Type 0) (p : P) → RanFor seen steps [] [] p [] p
ran-none seen steps p = ([], refl, [], record { chain = refl; lives = λ k. refl })

pub ran-begins : {L : Type 0} {P : Type 0} (seen : L → ReadyValue) (steps : ℕ → P → Op → Reply → P → Type 0) (p : P) (places : List (Option (Connection L))) (gone : List (Gone L)) → places ≡ [] → gone ≡ [] → RanFor seen steps [] gone p places p
ran-begins {L = L} seen steps p places gone free none =
    subst (λ (u : List (Option (Connection L))). RanFor seen steps [] gone p u p) (sym free) (subst (λ (u : List (Gone L)). RanFor seen steps [] u p [] p) (sym none) (ran-none seen steps p))

none_stands : {L : Type 0} (limit : ℕ) (seen : L → ReadyValue) → AreBounded {L = L} limit seen []
none_stands limit seen k c is = absurd cc

pub none-bounded : {L : Type 0} (limit : ℕ) (seen : L → ReadyValue) (places : List (Option (Connection L))) → places ≡ [] → AreBounded limit seen places
none-bounded {L = L} limit seen places free = subst (λ (u : List (Option (Connection L))). AreBounded limit seen u) (sym free) (none_stands limit seen)

arrived_at : {L : Type 0} {P : Type 0} (seen : L → ReadyValue) (steps : ℕ → P → Op → Reply → P → Type 0) (lines : List L) (gone : List (Gone L)) (p : P) (old new : List (Option (Connection L))) (q : P) (line : L) (c : Connection L) (place : ℕ)
    → IsNew line c → standing (slice_get old place) ≡ [] → slice_get new place ≡ Some (Some c) → ((k : ℕ) → (place ≡ k → ⊥) → slice_get new k ≡ slice_get old k) → RanFor seen steps lines gone p old q → RanFor seen steps (lines ++ line ∷ []) gone p new q
arrived_at {L = L} seen steps lines gone p old new q line c place is none here others h =
    let admitted = h.0 in
    let a : Admitted L = record { place = place; line = line } in
    let log = h.2 in (
      admitted ++ a ∷ [],
      map-append (λ (x : Admitted L). x.line) admitted (a ∷ []) ∙ ap (λ (t : List L). t ++ line ∷ []) h.1,
      log,
      record {
        chain = h.3.chain;
        lives = λ k. elim (cases_eq place k) [
          | inl e ↦
              let before : Lives seen (lines_at k admitted) (only k log) (gone_at k gone ++ standing (slice_get old k)) = h.3.lives k in
              let alone : gone_at k gone ++ standing (slice_get old k) ≡ gone_at k gone = ap (λ (i : ℕ). gone_at k gone ++ standing (slice_get old i)) (sym e) ∙ ap (λ (t : List (Connection L)). gone_at k gone ++ t) none ∙ append-nil (gone_at k gone) in
              let now : standing (slice_get new k) ≡ c ∷ [] = ap (λ (i : ℕ). standing (slice_get new i)) (sym e) ∙ ap standing here in
              let more = lives-more seen (lines_at k admitted) (only k log) (gone_at k gone) line [] c (subst (λ (t : List (Connection L)). Lives seen (lines_at k admitted) (only k log) t) alone before) (new_kept seen line c is) in
              lives-stay seen (lines_at k admitted ++ line ∷ []) (lines_at k (admitted ++ a ∷ [])) (only k log ++ []) (only k log) (gone_at k gone ++ c ∷ []) (gone_at k gone ++ standing (slice_get new k))
              (lines-same k place admitted line e) (sym (append-nil (only k log))) (ap (λ (t : List (Connection L)). gone_at k gone ++ t) now) more
          | inr ne ↦ lives-stay seen (lines_at k admitted) (lines_at k (admitted ++ a ∷ [])) (only k log) (only k log) (gone_at k gone ++ standing (slice_get old k)) (gone_at k gone ++ standing (slice_get new k))
              (lines-other k place admitted line ne) refl (ap (λ (t : Option (Option (Connection L))). gone_at k gone ++ standing t) (others k ne)) (h.3.lives k)
        ];
      },
    )

pub ran-arrived : {L : Type 0} {P : Type 0} (seen : L → ReadyValue) (steps : ℕ → P → Op → Reply → P → Type 0) (lines : List L) (gone : List (Gone L)) (p : P) (old new : List (Option (Connection L))) (q : P) (line : L)
    → HasArrived line old new → RanFor seen steps lines gone p old q → RanFor seen steps (lines ++ line ∷ []) gone p new q
ran-arrived {L = L} {P = P} seen steps lines gone p old new q line arrived h =
    let c = arrived.0 in
    elim arrived.2 [
      | inl e ↦
          let at = e.0 in
          subst (λ (u : List (Option (Connection L))). RanFor seen steps (lines ++ line ∷ []) gone p u q) (sym e.2)
          (arrived_at seen steps lines gone p old (slice_set old at (Some c)) q line c at arrived.1 (ap standing e.1) (get_set_same old at (Some c) (got_within old at None e.1)) (λ k ne. get_set_other old at k (Some c) ne) h)
      | inr e ↦
          subst (λ (u : List (Option (Connection L))). RanFor seen steps (lines ++ line ∷ []) gone p u q) (sym e)
          (arrived_at seen steps lines gone p old (old ++ (Some c) ∷ []) q line c (length old) arrived.1 (ap standing (get_past old)) (get_last old (Some c)) (λ k ne. get_before old (Some c) k ne) h)
    ]

ran-on : {L : Type 0} {P : Type 0} (seen : L → ReadyValue) (steps : ℕ → P → Op → Reply → P → Type 0) (lines : List L) (gone : List (Gone L)) (p : P) (old new : List (Option (Connection L))) (q r : P) (place : ℕ) (c d : Connection L)
    → slice_get old place ≡ Some (Some c) → new ≡ slice_set old place (Some d) → Turned (steps place) (view seen c) q (view seen d) r → RanFor seen steps lines gone p old q → RanFor seen steps lines gone p new r
ran-on {L = L} {P = P} seen steps lines gone p old new q r place c d was is turned h =
    let admitted = h.0 in
    let log = h.2 in
    let more = turned.0 in (
      admitted,
      h.1,
      log ++ tag place more,
      record {
        chain = log-then steps p log q (tag place more) r h.3.chain (logged steps place q more r turned.1);
        lives = λ k. elim (cases_eq place k) [
          | inl e ↦
              let before : standing (slice_get old k) ≡ c ∷ [] = ap (λ (i : ℕ). standing (slice_get old i)) (sym e) ∙ ap standing was in
              let now : standing (slice_get new k) ≡ d ∷ [] = ap (λ (i : ℕ). standing (slice_get new i)) (sym e) ∙ ap (λ (u : List (Option (Connection L))). standing (slice_get u place)) is ∙ ap standing (get_set_same old place (Some d) (got_within old place (Some c) was)) in
              let on = lives-on seen (lines_at k admitted) (only k log) (gone_at k gone) c more d (subst (λ (t : List (Connection L)). Lives seen (lines_at k admitted) (only k log) (gone_at k gone ++ t)) before (h.3.lives k)) turned.2 in
              lives-stay seen (lines_at k admitted) (lines_at k admitted) (only k log ++ more) (only k (log ++ tag place more)) (gone_at k gone ++ d ∷ []) (gone_at k gone ++ standing (slice_get new k))
              refl (only-append k log (tag place more) ∙ ap (λ (t : List Exchange). only k log ++ t) (only-same k place more (sym e))) (ap (λ (t : List (Connection L)). gone_at k gone ++ t) now) on
          | inr ne ↦
              let same : slice_get new k ≡ slice_get old k = ap (λ (u : List (Option (Connection L))). slice_get u k) is ∙ get_set_other old place k (Some d) ne in
              lives-stay seen (lines_at k admitted) (lines_at k admitted) (only k log) (only k (log ++ tag place more)) (gone_at k gone ++ standing (slice_get old k)) (gone_at k gone ++ standing (slice_get new k))
              refl (only-append k log (tag place more) ∙ ap (λ (t : List Exchange). only k log ++ t) (only-other k place more ne) ∙ append-nil (only k log)) (ap (λ (t : Option (Option (Connection L))). gone_at k gone ++ standing t) same) (h.3.lives k)
        ];
      },
    )

pub ran-turned : {L : Type 0} {P : Type 0} (seen : L → ReadyValue) (steps : ℕ → P → Op → Reply → P → Type 0) (lines : List L) (gone : List (Gone L)) (p : P) (old new : List (Option (Connection L))) (q r : P) (place : ℕ)
    → TurnedAt seen steps place old q new r → RanFor seen steps lines gone p old q → RanFor seen steps (lines ++ []) gone p new r
ran-turned {L = L} {P = P} seen steps lines gone p old new q r place turned h =
    subst (λ (ls : List L). RanFor seen steps ls gone p new r) (sym (append-nil lines)) (elim turned [
      | inl e ↦
          subst (λ (u : List (Option (Connection L))). RanFor seen steps lines gone p u r) (sym e.0) (subst (λ (u : P). RanFor seen steps lines gone p old u) (sym e.1) h)
      | inr e ↦ ran-on seen steps lines gone p old new q r place e.0 e.1 e.2 e.3 e.4 h
    ])

lives-written : {L : Type 0} (seen : L → ReadyValue) (lines : List L) (past : List Exchange) (gone : List (Connection L)) (x y : Option (Option (Connection L))) → PlaceTurned seen [] x y → Lives seen lines past (gone ++ standing x) → Lives seen lines past (gone ++ standing y)
lives-written {L = L} seen lines past gone None y h k = subst (λ (u : Option (Option (Connection L))). Lives seen lines past (gone ++ standing u)) (sym h.0) k
lives-written {L = L} seen lines past gone (Some None) y h k = subst (λ (u : Option (Option (Connection L))). Lives seen lines past (gone ++ standing u)) (sym h.0) k
lives-written seen lines past gone (Some (Some c)) None h k = absurd h
lives-written seen lines past gone (Some (Some c)) (Some None) h k = absurd h
lives-written seen lines past gone (Some (Some c)) (Some (Some d)) h k = subst (λ (t : List Exchange). Lives seen lines t (gone ++ d ∷ [])) (append-nil past) (lives-on seen lines past gone c [] d k h)

-- the port has settled, and what waits is written
pub ran-written : {L : Type 0} {P : Type 0} (seen : L → ReadyValue) (steps : ℕ → P → Op → Reply → P → Type 0) (lines : List L) (gone : List (Gone L)) (p : P) (old new : List (Option (Connection L))) (q r : P)
    → r ≡ q → ((k : ℕ) → PlaceTurned seen [] (slice_get old k) (slice_get new k)) → RanFor seen steps lines gone p old q → RanFor seen steps lines gone p new r
ran-written {L = L} {P = P} seen steps lines gone p old new q r same written h =
    subst (λ (u : P). RanFor seen steps lines gone p new u) (sym same) (
      h.0,
      h.1,
      h.2,
      record {
        chain = h.3.chain;
        lives = λ k. lives-written seen (lines_at k h.0) (only k h.2) (gone_at k gone) (slice_get old k) (slice_get new k) (written k) (h.3.lives k);
      },
    )

-- a connection that leaves its place is listed where it stood
left_listed : {L : Type 0} (gone later : List (Gone L)) (old new : List (Option (Connection L))) (place : ℕ) (c : Connection L) (k : ℕ) → slice_get old place ≡ Some (Some c) → new ≡ slice_set old place None → later ≡ gone ++ record { place = place; connection = c } ∷ []
    → gone_at k later ++ standing (slice_get new k) ≡ gone_at k gone ++ standing (slice_get old k)
left_listed {L = L} gone later old new place c k was is listed =
    ap (λ (t : List (Gone L)). gone_at k t ++ standing (slice_get new k)) listed ∙ ap (λ (u : List (Option (Connection L))). gone_at k (gone ++ record { place = place; connection = c } ∷ []) ++ standing (slice_get u k)) is
    ∙ elim (cases_eq place k) [
      | inl e ↦
          let now : standing (slice_get (slice_set old place None) k) ≡ [] = ap (λ (i : ℕ). standing (slice_get (slice_set old place None) i)) (sym e) ∙ ap standing (get_set_same old place None (got_within old place (Some c) was)) in
          let before : standing (slice_get old k) ≡ c ∷ [] = ap (λ (i : ℕ). standing (slice_get old i)) (sym e) ∙ ap standing was in
          ap (λ (t : List (Connection L)). gone_at k (gone ++ record { place = place; connection = c } ∷ []) ++ t) now ∙ append-nil (gone_at k (gone ++ record { place = place; connection = c } ∷ [])) ∙ gone-same k place gone c e ∙ ap (λ (t : List (Connection L)). gone_at k gone ++ t) (sym before)
      | inr ne ↦ ap (λ (t : List (Connection L)). t ++ standing (slice_get (slice_set old place None) k)) (gone-other k place gone c ne) ∙ ap (λ (t : Option (Option (Connection L))). gone_at k gone ++ standing t) (get_set_other old place k None ne)
    ]

pub ran-left : {L : Type 0} {P : Type 0} (seen : L → ReadyValue) (steps : ℕ → P → Op → Reply → P → Type 0) (lines : List L) (gone later : List (Gone L)) (p : P) (old new : List (Option (Connection L))) (q : P) (place : ℕ)
    → HasLeft place old gone new later → RanFor seen steps lines gone p old q → RanFor seen steps (lines ++ []) later p new q
ran-left {L = L} {P = P} seen steps lines gone later p old new q place left h =
    let admitted = h.0 in
    let log = h.2 in
    subst (λ (ls : List L). RanFor seen steps ls later p new q) (sym (append-nil lines)) (elim left [
      | inl e ↦ (
        admitted,
        h.1,
        log,
        record {
          chain = h.3.chain;
          lives = λ k. lives-stay seen (lines_at k admitted) (lines_at k admitted) (only k log) (only k log) (gone_at k gone ++ standing (slice_get old k)) (gone_at k later ++ standing (slice_get new k))
              refl refl (ap (λ (t : List (Gone L)). gone_at k t ++ standing (slice_get new k)) e.1 ∙ ap (λ (t : Option (Option (Connection L))). gone_at k gone ++ standing t) (e.0 k)) (h.3.lives k);
        },
      )
      | inr e ↦ (
        admitted,
        h.1,
        log,
        record {
          chain = h.3.chain;
          lives = λ k. lives-stay seen (lines_at k admitted) (lines_at k admitted) (only k log) (only k log) (gone_at k gone ++ standing (slice_get old k)) (gone_at k later ++ standing (slice_get new k))
              refl refl (left_listed gone later old new place e.0 k e.1 e.2 e.3) (h.3.lives k);
        },
      )
    ])

-- ## What waits

new_bounded : {L : Type 0} (limit : ℕ) (seen : L → ReadyValue) (line : L) (c : Connection L) → IsNew line c → IsBounded limit (view seen c)
new_bounded limit seen line c is = let none : length c.waiting.items ≡ 0 = ap length is.2 in omega arith

some_one : {A : Type 0} (x y : A) → Some (Some x) ≡ Some (Some y) → x ≡ y
some_one x y e = cc

some_none : {A : Type 0} (x : A) → Some None ≡ Some (Some x) → ⊥
some_none x e = cc

pub arrived-bounded : {L : Type 0} (limit : ℕ) (seen : L → ReadyValue) (line : L) (old new : List (Option (Connection L))) → HasArrived line old new → AreBounded limit seen old → AreBounded limit seen new
arrived-bounded {L = L} limit seen line old new arrived h k c is =
    let d = arrived.0 in
    let fresh = new_bounded limit seen line d arrived.1 in
    elim arrived.2 [
      | inl e ↦
          let here : slice_get (slice_set old e.0 (Some d)) k ≡ Some (Some c) = ap (λ (u : List (Option (Connection L))). slice_get u k) (sym e.2) ∙ is in
          elim (cases_eq e.0 k) [
            | inl same ↦
                let is_new : slice_get (slice_set old e.0 (Some d)) k ≡ Some (Some d) = subst (λ (i : ℕ). slice_get (slice_set old e.0 (Some d)) i ≡ Some (Some d)) same (get_set_same old e.0 (Some d) (got_within old e.0 None e.1)) in
                subst (λ (x : Connection L). IsBounded limit (view seen x)) (some_one d c (sym is_new ∙ here)) fresh
            | inr ne ↦ h k c (sym (get_set_other old e.0 k (Some d) ne) ∙ here)
          ]
      | inr e ↦
          let here : slice_get (old ++ (Some d) ∷ []) k ≡ Some (Some c) = ap (λ (u : List (Option (Connection L))). slice_get u k) (sym e) ∙ is in
          elim (cases_eq (length old) k) [
            | inl same ↦
                let is_new : slice_get (old ++ (Some d) ∷ []) k ≡ Some (Some d) = subst (λ (i : ℕ). slice_get (old ++ (Some d) ∷ []) i ≡ Some (Some d)) same (get_last old (Some d)) in
                subst (λ (x : Connection L). IsBounded limit (view seen x)) (some_one d c (sym is_new ∙ here)) fresh
            | inr ne ↦ h k c (sym (get_before old (Some d) k ne) ∙ here)
          ]
    ]

pub left-bounded : {L : Type 0} (limit : ℕ) (seen : L → ReadyValue) (place : ℕ) (old new : List (Option (Connection L))) (gone later : List (Gone L)) → HasLeft place old gone new later → AreBounded limit seen old → AreBounded limit seen new
left-bounded {L = L} limit seen place old new gone later left h k c is =
    elim left [
      | inl e ↦ h k c (sym (e.0 k) ∙ is)
      | inr e ↦
          let here : slice_get (slice_set old place None) k ≡ Some (Some c) = ap (λ (u : List (Option (Connection L))). slice_get u k) (sym e.2) ∙ is in
          elim (cases_eq place k) [
            | inl same ↦
                let free : slice_get (slice_set old place None) k ≡ Some None = subst (λ (i : ℕ). slice_get (slice_set old place None) i ≡ Some None) same (get_set_same old place None (got_within old place (Some e.0) e.1)) in
                absurd (some_none c (sym free ∙ here))
            | inr ne ↦ h k c (sym (get_set_other old place k None ne) ∙ here)
          ]
    ]

-- ## Arrivals

pub arrivals-then : {L : Type 0} (acts : List (Act L)) (act : Act L) → arrivals (acts ++ act ∷ []) ≡ arrivals acts ++ arrivals (act ∷ [])
arrivals-then [] act = refl
arrivals-then {L = L} ((Arrives line) ∷ acts) act = ap (λ (ls : List L). line ∷ ls) (arrivals-then acts act)
arrivals-then ((Ready place) ∷ acts) act = arrivals-then acts act
arrivals-then ((Leaves place) ∷ acts) act = arrivals-then acts act
