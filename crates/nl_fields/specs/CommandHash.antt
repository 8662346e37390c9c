-- MurmurHash64A over the bytes of a command, all arithmetic modulo 2 ^ 64: docs/FORMAT.md, "Command hash".
use Rattle.std.specs.Prelude.{◌≡◌, ℕ, zero, suc, ◌+◌, ◌*◌, ◌/◌, ◌%◌, ◌^◌, ◌<◌, List, [], ◌∷◌, ◌++◌, length, drop, fold, All}
use Rattle.std.specs.List.{concat}
use Rattle.std.specs.Simd.{first_chunks}

abbrev pub multiplier : ℕ
multiplier = 0xc6a4a7935bd1e995

abbrev pub seed : ℕ
seed = 0xDECAFBADDECAFBAD

-- a product with the multiplier
abbrev pub times : ℕ → ℕ
times a = a * multiplier % 2 ^ 64

-- the number whose first k binary digits are 1 where those of a and b differ
unfoldable pub differing : ℕ → ℕ → ℕ → ℕ
differing zero a b = 0
differing (suc k) a b = (a % 2 + b % 2) % 2 + 2 * differing k (a / 2) (b / 2)

abbrev pub xor : ℕ → ℕ → ℕ
xor a b = differing 64 a b

-- the number of some bytes, of which the first counts least
abbrev pub little_endian : List ℕ → ℕ
little_endian [] = 0
little_endian (byte ∷ bytes) = byte + 256 * little_endian bytes

-- a number and its upper 17 bits, mixed
abbrev pub mixed : ℕ → ℕ
mixed n = xor n (n / 2 ^ 47)

abbrev pub with_group : ℕ → List ℕ → ℕ
with_group hash group = times (xor hash (times (mixed (times (little_endian group)))))

abbrev pub with_rest : ℕ → List ℕ → ℕ
with_rest hash [] = hash
with_rest hash (byte ∷ bytes) = times (xor hash (little_endian (byte ∷ bytes)))

-- of a command of this many bytes, which are whole groups and a rest
abbrev pub hash_over : ℕ → List (List ℕ) → List ℕ → ℕ
hash_over len groups rest = mixed (times (mixed (with_rest (fold with_group (xor seed (times len)) groups) rest)))

-- the bytes are whole groups of 8 and a shorter rest, and the hash goes over them in order
pub record IsHash (bytes : List ℕ) (hash : ℕ) : Type 0 where
  pub groups : List (List ℕ)
  pub rest : List ℕ
  pub parts : bytes ≡ concat groups ++ rest
  pub whole : All (λ group. length group ≡ 8) groups
  pub short : length rest < 8
  pub value : hash ≡ hash_over (length bytes) groups rest

-- the hash of a command: over as many groups of 8 bytes as it has, and what is after them
unfoldable pub hash_of : List ℕ → ℕ
hash_of bytes = hash_over (length bytes) (first_chunks 8 (length bytes / 8) bytes) (drop (length bytes / 8 * 8) bytes)
