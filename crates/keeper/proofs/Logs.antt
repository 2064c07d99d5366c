-- What a log stands for, as records are noted and synced.
use Rattle.std.proofs.Common.{◌≡◌, ◌∙◌, ◌<◌, ◌^◌, ℕ, ◌+◌, Bool, false, eqb, List, [], ◌∷◌, ◌++◌, length, take, drop, Option, Some, refl, sym, ap, subst, arith}
use Rattle.std.proofs.lemmas.List.{length-append, append-nil, take_at, drop_at}
use Rattle.std.proofs.lemmas.Bool.Decides.{nat_tests}
use Rattle.disk.specs.Disk.{IsBeginning, Only}
use Rattle.records.specs.Records.{Entry, size, spelling, spelled, AllFit, recovered, NoneFirst, OnlyFrontIsFirst}
use Rattle.records.proofs.Recovered.{length-spelling, spelled_append, recovered_spelled, honest_from}
use Rattle.records.proofs.Firsts.{torn_is_undamaged}
use Rattle.keeper.specs.Log.{next, IsKept, Stands, Survives}
use Rattle.keeper.specs.declared.log.Log.{Log}

-- ## Noting

pub fit_append : (es fs : List Entry) → AllFit es → AllFit fs → AllFit (es ++ fs)
fit_append [] fs h k = k
fit_append (e ∷ es) fs h k = (h.0, fit_append es fs h.1 k)

fit_front : (es fs : List Entry) → AllFit (es ++ fs) → AllFit es
fit_front [] fs h = tt
fit_front (e ∷ es) fs h = (h.0, fit_front es fs h.1)

-- none is noted where no byte is
some_noted : (n : ℕ) → 0 < n → eqb n 0 ≡ false
some_noted n some = grind (arith, nat_tests)

none_noted : (secret place : ℕ) (noted : List Entry) → eqb (length (spelled secret place noted)) 0 ≡ eqb (length noted) 0
none_noted secret place [] = refl
none_noted secret place (e ∷ es) =
    some_noted (length (spelled secret place (e ∷ es))) (omega (arith, length-spelling secret place e, length-append (spelling secret place e) (spelled secret (place + size e) es)))
    ∙ sym (some_noted (length (e ∷ es)) (omega arith))

empty_noted : (secret place : ℕ) (noted : List Entry) → length (spelled secret place noted) ≡ 0 → noted ≡ []
empty_noted secret place [] none = refl
empty_noted secret place (e ∷ es) none = absurd (omega (arith, none, length-spelling secret place e, length-append (spelling secret place e) (spelled secret (place + size e) es)))

none_append : (es fs : List Entry) → NoneFirst es → NoneFirst fs → NoneFirst (es ++ fs)
none_append [] fs h k = k
none_append (e ∷ es) fs h k = (h.0, none_append es fs h.1 k)

none_front : (es fs : List Entry) → NoneFirst (es ++ fs) → NoneFirst es
none_front [] fs h = tt
none_front (e ∷ es) fs h = (h.0, none_front es fs h.1)

front_more : (noted : List Entry) (body : List ℕ) → OnlyFrontIsFirst noted → OnlyFrontIsFirst (noted ++ next noted body ∷ [])
front_more [] body h = tt
front_more (n ∷ noted) body h = none_append noted (next (n ∷ noted) body ∷ []) h (some_noted (length (n ∷ noted)) (omega arith), tt)

front_front : (es fs : List Entry) → OnlyFrontIsFirst (es ++ fs) → OnlyFrontIsFirst es
front_front [] fs h = tt
front_front (e ∷ es) fs h = none_front es fs h

-- what waits, with one record more
pub noted_more : (secret end place : ℕ) (pending more : List ℕ) (noted : List Entry) (first : Bool) (body : List ℕ) → pending ≡ spelled secret end noted → place ≡ end + length pending → first ≡ eqb (length pending) 0
    → more ≡ pending ++ spelling secret place (record { first = first; body = body }) → more ≡ spelled secret end (noted ++ next noted body ∷ [])
noted_more secret end place pending more noted first body is at test put =
    let which : first ≡ eqb (length noted) 0 = test ∙ ap (λ (t : List ℕ). eqb (length t) 0) is ∙ none_noted secret end noted in
    let there : place ≡ end + length (spelled secret end noted) = omega (arith, at, ap length is) in
    put
    ∙ ap (λ (t : List ℕ). t ++ spelling secret place (record { first = first; body = body })) is
    ∙ ap (λ (b : Bool). spelled secret end noted ++ spelling secret place (record { first = b; body = body })) which
    ∙ ap (λ (p : ℕ). spelled secret end noted ++ spelling secret p (next noted body)) there
    ∙ ap (λ (t : List ℕ). spelled secret end noted ++ t) (sym (append-nil (spelling secret (end + length (spelled secret end noted)) (next noted body))))
    ∙ sym (spelled_append secret end noted (next noted body ∷ []))

module _ {D : Type 0} (seen : D → Option (List ℕ)) (may_leave : D → List ℕ → Type 0) where
  pub stands_more : (old new : Log D) (place : ℕ) (first : Bool) (body : List ℕ) (kept noted : List Entry) → new.disk ≡ old.disk → new.secret ≡ old.secret → new.end ≡ old.end
      → place ≡ old.end + length old.pending.items → first ≡ eqb (length old.pending.items) 0 → length body < 256 ^ 4
      → new.pending.items ≡ old.pending.items ++ spelling old.secret place (record { first = first; body = body }) → Stands seen may_leave old kept noted → Stands seen may_leave new kept (noted ++ next noted body ∷ [])
  stands_more old new place first body kept noted disk secret end at test fits put s = record {
    is_kept = rw (disk, secret, end) s.is_kept;
    pending = rw (secret, end) (noted_more old.secret old.end place old.pending.items new.pending.items noted first body s.pending at test put);
    fit = fit_append noted (next noted body ∷ []) s.fit (fits, tt);
    front = front_more noted body s.front;
  }

  pub stands_same : (old new : Log D) (kept noted : List Entry) → new.disk ≡ old.disk → new.secret ≡ old.secret → new.end ≡ old.end → new.pending.items ≡ old.pending.items
      → Stands seen may_leave old kept noted → Stands seen may_leave new kept noted
  stands_same old new kept noted disk secret end put s = record { is_kept = rw (disk, secret, end) s.is_kept; pending = rw (secret, end) (put ∙ s.pending); fit = s.fit; front = s.front }

  -- what was noted last is not noted after all
  pub stands_back : (old new : Log D) (mark : ℕ) (kept noted back : List Entry) → new.disk ≡ old.disk → new.secret ≡ old.secret → new.end ≡ old.end → new.pending.items ≡ take mark old.pending.items
      → mark ≡ length (spelled old.secret old.end noted) → Stands seen may_leave old kept (noted ++ back) → Stands seen may_leave new kept noted
  stands_back old new mark kept noted back disk secret end cut is s =
      let front = spelled old.secret old.end noted in
      let behind = spelled old.secret (old.end + length front) back in
      record {
        is_kept = rw (disk, secret, end) s.is_kept;
        pending = rw (secret, end) (cut ∙ ap (take mark) (s.pending ∙ spelled_append old.secret old.end noted back) ∙ take_at front behind mark (sym is));
        fit = fit_front noted back s.fit;
        front = front_front noted back s.front;
      }

  -- ## Syncing

  -- nothing waits
  pub nothing_waits : (log : Log D) (kept noted : List Entry) → length log.pending.items ≡ 0 → Stands seen may_leave log kept noted → Stands seen may_leave log (kept ++ noted) []
  nothing_waits log kept noted none s =
      let is : noted ≡ [] = empty_noted log.secret log.end noted (sym (ap length s.pending) ∙ none) in
      let t : Stands seen may_leave log kept [] = subst (λ (l : List Entry). Stands seen may_leave log kept l) is s in
      let all : kept ≡ kept ++ noted = sym (append-nil kept) ∙ ap (λ (l : List Entry). kept ++ l) (sym is) in
      subst (λ (l : List Entry). Stands seen may_leave log l []) all t

  -- all that was noted is kept
  pub all_kept : (disk : D) (secret end more : ℕ) (old : D) (pending : List ℕ) (kept noted : List Entry) → IsKept seen may_leave old secret end kept → pending ≡ spelled secret end noted → AllFit noted → more ≡ end + length pending
      → seen disk ≡ Some (spelled secret 0 kept ++ pending) → Only (spelled secret 0 kept ++ pending) (may_leave disk) → IsKept seen may_leave disk secret more (kept ++ noted)
  all_kept disk secret end more old pending kept noted k is fit longer told only =
      let both : spelled secret 0 kept ++ pending ≡ spelled secret 0 (kept ++ noted) =
      ap (λ (t : List ℕ). spelled secret 0 kept ++ t) is ∙ ap (λ (p : ℕ). spelled secret 0 kept ++ spelled secret p noted) (omega (arith, k.long)) ∙ sym (spelled_append secret 0 kept noted) in
      record {
        file = told ∙ ap Some both;
        durable = λ c left. only c left ∙ both;
        long = omega (arith, k.long, longer, ap length both, length-append (spelled secret 0 kept) pending);
        fit = fit_append kept noted k.fit fit;
      }

-- ## What a crash leaves

-- what begins with all that was kept
pub survives : (secret : ℕ) (kept noted : List Entry) (c : List ℕ) → AllFit kept → AllFit noted → OnlyFrontIsFirst noted → IsBeginning (spelled secret 0 kept) c → Survives secret kept noted c
survives secret kept noted c fit fits front begins =
    let file = spelled secret 0 kept in
    let place = 0 + length file in
    let tail = begins.0 in
    let all : recovered secret 0 0 c ≡ kept ++ recovered secret place 0 tail = ap (recovered secret 0 0) begins.1 ∙ recovered_spelled secret 0 kept tail fit in
    let written : drop place (spelled secret 0 (kept ++ noted)) ≡ spelled secret place noted =
    ap (drop place) (spelled_append secret 0 kept noted) ∙ drop_at file (spelled secret place noted) place (omega arith) in
    let rest : drop place c ≡ tail = ap (drop place) begins.1 ∙ drop_at file tail place (omega arith) in
    record {
      more = recovered secret place 0 tail;
      all = all;
      some = λ honest. subst (λ (t : List ℕ). IsBeginning (recovered secret place 0 t) noted) rest (honest_from secret (kept ++ noted) c honest place noted fits written);
      undamaged = λ honest. torn_is_undamaged secret kept noted (recovered secret place 0 tail) c honest front all;
    }
