-- How a hello is spelled.
use Rattle.std.specs.Prelude.{◌≡◌, ◌<◌, ◌^◌, ℕ, List, ◌++◌, length}
use Rattle.std.specs.Int.{w16, to_be_bytes}
use Rattle.hello.specs.declared.hello.Hello.{Hello}

-- the fields in order, numbers with the most significant byte first
unfoldable pub spelled : Hello → List ℕ
spelled h =
    to_be_bytes w16 h.version ++ to_be_bytes w16 h.from ++ to_be_bytes w16 h.to
    ++ h.incarnation ++ h.known ++ h.digest ++ h.nonce

-- a hello's fields are as long, and its numbers as small, as its type says
pub record IsHello (h : Hello) : Type 0 where
  pub version : h.version < 2 ^ 16
  pub «from» : h.from < 2 ^ 16
  pub to : h.to < 2 ^ 16
  pub incarnation : length h.incarnation ≡ 16
  pub known : length h.known ≡ 16
  pub digest : length h.digest ≡ 32
  pub nonce : length h.nonce ≡ 32
