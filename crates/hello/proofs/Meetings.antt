-- What codes are made of says what it is made for.
use Rattle.std.proofs.Common.{◌≡◌, ◌∙◌, ◌<◌, ◌^◌, ℕ, List, [], ◌∷◌, ◌++◌, drop, get_or, codes, refl, sym, ap, arith}
use Rattle.std.specs.Int.{w64, to_be_bytes, from_be_bytes}
use Rattle.std.proofs.lemmas.Nat.{from_be_bytes-to_be_bytes_8}
use Rattle.hello.specs.declared.hello.Hello.{Hello}
use Rattle.hello.specs.declared.role.Role.{Role}
use Rattle.hello.specs.declared.role.Role.TheVariants.{Connecting, Accepting}
use Rattle.hello.specs.Hello.{spelled, IsHello}
use Rattle.hello.specs.Meeting.{role_byte, proof_message, key_message, tag_message}
use Rattle.hello.proofs.Spelled.{split_front, split_back, length-spelled, spelled_again}

-- roles with one byte are the same
role_again : (r s : Role) → role_byte r ≡ role_byte s → r ≡ s
role_again Connecting Connecting e = refl
role_again Connecting Accepting e = absurd (omega arith)
role_again Accepting Connecting e = absurd (omega arith)
role_again Accepting Accepting e = refl

-- two hellos behind a front, put one behind the other, are those two
both_again : (x y : List ℕ) (c a d b : Hello) → IsHello c → IsHello a → IsHello d → IsHello b → (x ++ spelled c) ++ spelled a ≡ (y ++ spelled d) ++ spelled b → (x ≡ y) × (c ≡ d) × (a ≡ b)
both_again x y c a d b isc isa isd isb e =
    let last = split_back (x ++ spelled c) (spelled a) (y ++ spelled d) (spelled b) (length-spelled a isa ∙ sym (length-spelled b isb)) e in
    let first = split_back x (spelled c) y (spelled d) (length-spelled c isc ∙ sym (length-spelled d isd)) last.0 in
    (first.0, spelled_again c d isc isd first.1, spelled_again a b isa isb last.1)

pub proof_again : (r s : Role) (c a d b : Hello) → IsHello c → IsHello a → IsHello d → IsHello b → proof_message r c a ≡ proof_message s d b → (r ≡ s) × (c ≡ d) × (a ≡ b)
unfolding proof_message
proof_again r s c a d b isc isa isd isb e =
    let parts = both_again (codes "eiger proof 1" ++ (role_byte r ∷ [])) (codes "eiger proof 1" ++ (role_byte s ∷ [])) c a d b isc isa isd isb e in
    (role_again r s (ap (λ (l : List ℕ). get_or l 13 0) parts.0), parts.1, parts.2)

-- a proof's message in the pieces that it is made of
pub proof_parts : (role : Role) (c a : Hello) (byte : ℕ) (xs ys : List ℕ) → byte ≡ role_byte role → xs ≡ spelled c → ys ≡ spelled a → codes "eiger proof 1" ++ (byte ∷ []) ++ xs ++ ys ≡ proof_message role c a
unfolding proof_message
proof_parts role c a byte xs ys b x y =
    ap (λ (n : ℕ). codes "eiger proof 1" ++ (n ∷ []) ++ xs ++ ys) b
    ∙ ap (λ (l : List ℕ). codes "eiger proof 1" ++ (role_byte role ∷ []) ++ l ++ ys) x
    ∙ ap (λ (l : List ℕ). codes "eiger proof 1" ++ (role_byte role ∷ []) ++ spelled c ++ l) y

pub key_again : (c a d b : Hello) → IsHello c → IsHello a → IsHello d → IsHello b → key_message c a ≡ key_message d b → (c ≡ d) × (a ≡ b)
unfolding key_message
key_again c a d b isc isa isd isb e =
    let parts = both_again (codes "eiger key 1") (codes "eiger key 1") c a d b isc isa isd isb e in
    (parts.1, parts.2)

pub no_key : (r : Role) (c a d b : Hello) → proof_message r c a ≡ key_message d b → ⊥
unfolding proof_message key_message
no_key r c a d b e =
    let letters : ◌≡◌ {A = ℕ} 112 107 = ap (λ (l : List ℕ). get_or l 6 0) e in
    absurd (omega arith)

pub tag_again : (r s : Role) (n m : ℕ) (f g : List ℕ) → n < 2 ^ 64 → m < 2 ^ 64 → tag_message r n f ≡ tag_message s m g → (r ≡ s) × (n ≡ m) × (f ≡ g)
unfolding tag_message
tag_again r s n m f g fits fits' e =
    let parts = split_front (role_byte r ∷ to_be_bytes w64 n) f (role_byte s ∷ to_be_bytes w64 m) g refl e in
    let number : to_be_bytes w64 n ≡ to_be_bytes w64 m = ap (λ (l : List ℕ). drop 1 l) parts.0 in (
      role_again r s (ap (λ (l : List ℕ). get_or l 0 0) parts.0),
      sym (from_be_bytes-to_be_bytes_8 n fits) ∙ ap (λ (l : List ℕ). from_be_bytes w64 l) number ∙ from_be_bytes-to_be_bytes_8 m fits',
      parts.1,
    )
