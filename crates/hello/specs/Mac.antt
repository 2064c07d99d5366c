-- HMAC over SHA-256: a message's authentication code under a key.
use Rattle.std.specs.Prelude.{ℕ, ◌-◌, List, ◌++◌, length, map, replicate, nat_le, bit_xor, if◌then◌else◌}
use Rattle.sha2.specs.Sha256.{sha256}

-- each byte xored with this one
abbrev pub xor_pad : ℕ → List ℕ → List ℕ
xor_pad pad bytes = map (λ b. bit_xor b pad) bytes

-- a key of at most 64 bytes, with zeros behind it up to 64
abbrev pub filled : List ℕ → List ℕ
filled key = key ++ replicate (64 - length key) 0

-- a key as one block of 64 bytes: a longer one stands as its digest
unfoldable pub block_of : List ℕ → List ℕ
block_of key = if nat_le (length key) 64 then filled key else filled (sha256 key)

-- the code of a message under a key
unfoldable pub hmac : List ℕ → List ℕ → List ℕ
hmac key message = sha256 (xor_pad 0x5c (block_of key) ++ sha256 (xor_pad 0x36 (block_of key) ++ message))
