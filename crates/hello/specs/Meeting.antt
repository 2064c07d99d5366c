-- What the two ends of a connection make codes of.
use Rattle.std.specs.Prelude.{ℕ, List, [], ◌∷◌, ◌++◌, codes}
use Rattle.std.specs.Int.{w64, to_be_bytes}
use Rattle.hello.specs.declared.hello.Hello.{Hello}
use Rattle.hello.specs.declared.role.Role.{Role}
use Rattle.hello.specs.declared.role.Role.TheVariants.{Connecting, Accepting}
use Rattle.hello.specs.Hello.{spelled}

-- the byte of a role
abbrev pub role_byte : Role → ℕ
role_byte Connecting = 1
role_byte Accepting = 2

-- what the end of this role makes the code of, by the secret, to show that it knows it
unfoldable pub proof_message : Role → Hello → Hello → List ℕ
proof_message role connecting accepting =
    codes "eiger proof 1" ++ (role_byte role ∷ []) ++ spelled connecting ++ spelled accepting

-- what the code of, by the secret, is the key of the connection
unfoldable pub key_message : Hello → Hello → List ℕ
key_message connecting accepting = codes "eiger key 1" ++ spelled connecting ++ spelled accepting

-- what the end of this role makes the code of, by the connection's key, to tag the frame that it sends with this number
unfoldable pub tag_message : Role → ℕ → List ℕ → List ℕ
tag_message role number frame = (role_byte role ∷ to_be_bytes w64 number) ++ frame
