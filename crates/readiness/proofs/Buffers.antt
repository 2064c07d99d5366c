-- What a piece that is written in parts, and a buffer that is filled, tell.
use Rattle.std.proofs.Common.{◌≡◌, ℕ, ◌+◌, ◌-◌, ◌≤◌, List, length, take, drop, refl, ap, ◌∙◌, arith}
use Rattle.front.specs.Lines.{fails}
use Rattle.front.proofs.Said.{IsWrittenTo, written-none, written-more}
use Rattle.readiness.specs.declared.writing.Flow.TheVariants as flow
use Rattle.readiness.specs.declared.line.Went.TheVariants as went
use Rattle.readiness.specs.Lines.{ReadyValue, writes}
use Rattle.readiness.specs.Turns.{Pushed}

-- a piece is written up to here, and nothing was read
abbrev pub IsPushedTo : ℕ → List ℕ → ReadyValue → ReadyValue → Type 0
IsPushedTo at piece s t = IsWrittenTo at piece s.line t.line × (t.dry ≡ s.dry)

pub pushed-none : (piece : List ℕ) (s : ReadyValue) → IsPushedTo 0 piece s s
pushed-none piece s = (written-none piece s.line, refl)

pub pushed-more : (piece : List ℕ) (at n : ℕ) (s t u : ReadyValue) → IsPushedTo at piece s t → n ≤ length piece - at → u ≡ writes (take (length piece - at) (drop at piece)) (went.Bytes n) t → IsPushedTo (at + n) piece s u
pushed-more piece at n s t u h le e = (
  written-more piece at n s.line t.line u.line h.0 le (ap (λ (x : ReadyValue). x.line) e),
  ap (λ (x : ReadyValue). x.dry) e ∙ h.1,
)

pub pushed-full : (piece : List ℕ) (at : ℕ) (s t u : ReadyValue) → IsPushedTo at piece s t → u ≡ writes (take (length piece - at) (drop at piece)) went.Nothing t → Pushed piece at flow.Full s u
pushed-full piece at s t u h e = (ap (λ (x : ReadyValue). x.dry) e ∙ h.1, ap (λ (x : ReadyValue). x.full) e, ap (λ (x : ReadyValue). x.line) e ∙ h.0.1)

pub pushed-failed : (piece : List ℕ) (at : ℕ) (s t u : ReadyValue) → IsPushedTo at piece s t → u ≡ writes (take (length piece - at) (drop at piece)) went.Failed t → Pushed piece at flow.Failed s u
pushed-failed piece at s t u h e = (ap (λ (x : ReadyValue). x.dry) e ∙ h.1, ap (λ (x : ReadyValue). x.line) e ∙ ap fails h.0.1)

pub pushed-all : (piece : List ℕ) (at : ℕ) (s t : ReadyValue) → IsPushedTo at piece s t → length piece ≤ at → Pushed piece at flow.All s t
pushed-all piece at s t h le = (h.1, let g = h.0.0 in omega arith, h.0.1)
