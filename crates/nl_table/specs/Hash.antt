-- The hash of a name under a secret: docs/PERFORMANCE.md, "The hash of a name".
use Rattle.std.specs.Prelude.{ℕ, zero, suc, ◌+◌, ◌-◌, ◌*◌, ◌/◌, ◌%◌, ◌^◌, List, length, if◌then◌else◌, nat_le, bit_xor}
use Rattle.std.specs.Hash.FoldHasher.{folded_multiply, read_short, read_u64}
use Rattle.nl_table.specs.declared.secret.Secret.{Secret}

-- the state after the eight bytes at i and those at j
abbrev pub mixed : List ℕ → ℕ → ℕ → ℕ → ℕ → ℕ
mixed bytes factor state i j = folded_multiply (bit_xor (read_u64 bytes i) state) (bit_xor (read_u64 bytes j) factor)

-- the state after the first n blocks of 16 bytes
unfoldable pub mixed_blocks : List ℕ → ℕ → ℕ → ℕ → ℕ
mixed_blocks bytes factor state zero = state
mixed_blocks bytes factor state (suc n) = mixed bytes factor (mixed_blocks bytes factor state n) (16 * n) (16 * n + 8)

abbrev pub first_state : Secret → ℕ → ℕ
first_state secret n = (secret.state + (secret.factor * n) % 2 ^ 64) % 2 ^ 64

-- the secret after the bytes
unfoldable pub hashed : Secret → List ℕ → Secret
hashed secret bytes =
    let n = length bytes in
    let first = first_state secret n in
    let short = folded_multiply (bit_xor first (read_short bytes)) secret.factor in
    let long = mixed bytes secret.factor (mixed_blocks bytes secret.factor first ((n - 1) / 16)) (n - 16) (n - 8) in
    record { state = if nat_le n 8 then short else long; factor = secret.factor }
