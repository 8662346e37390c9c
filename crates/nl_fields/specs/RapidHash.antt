-- The command hash of version 7, rapidhash, all numbers of 64 bits: docs/FORMAT.md, "Command hash of version 7".
use Rattle.std.specs.Prelude.{ℕ, ◌+◌, ◌-◌, ◌*◌, ◌/◌, ◌%◌, ◌^◌, List, length, take, drop, fold, nat_lt, if◌then◌else◌, get_or}
use Rattle.std.specs.Simd.{first_chunks}
use Rattle.nl_fields.specs.CommandHash.{xor, little_endian}

abbrev pub rapid_seed : ℕ
rapid_seed = 0xbdd89aa982704029

abbrev pub secret_0 : ℕ
secret_0 = 0x2d358dccaa6c78a5

abbrev pub secret_1 : ℕ
secret_1 = 0x8bb84b93962eacc9

abbrev pub secret_2 : ℕ
secret_2 = 0x4b33a62ed433d4a3

-- the halves of a product, joined
abbrev pub folded : ℕ → ℕ → ℕ
folded x y = xor (x * y % 2 ^ 64) (x * y / 2 ^ 64)

-- the number of the 8 bytes from a place on, and of the 4
abbrev pub wide_at : ℕ → List ℕ → ℕ
wide_at at bytes = little_endian (take 8 (drop at bytes))

abbrev pub narrow_at : ℕ → List ℕ → ℕ
narrow_at at bytes = little_endian (take 4 (drop at bytes))

-- a number with 16 bytes from a place on, under a number of the secret
abbrev pub with_sixteen : ℕ → ℕ → ℕ → List ℕ → ℕ
with_sixteen secret at hash bytes = folded (xor (wide_at at bytes) secret) (xor (wide_at (at + 8) bytes) hash)

-- a number with some groups of 48 bytes: each third of each goes into a number of its own
abbrev pub with_groups : ℕ → List (List ℕ) → ℕ
with_groups hash groups =
    xor (xor (fold (with_sixteen secret_0 0) hash groups) (fold (with_sixteen secret_1 16) hash groups))
    (fold (with_sixteen secret_2 32) hash groups)

-- a number with what is after the groups: 16 bytes of it if it has more, and 16 more if it has more than 32
abbrev pub with_first : ℕ → List ℕ → ℕ
with_first hash rest = if nat_lt 16 (length rest) then with_sixteen secret_2 0 (xor hash secret_1) rest else hash

abbrev pub with_last : ℕ → List ℕ → ℕ
with_last hash rest = if nat_lt 32 (length rest) then with_sixteen secret_2 16 hash rest else hash

-- the number over all but the end: groups of 48 bytes if there are more than 48
abbrev pub over_bytes : ℕ → List ℕ → ℕ
over_bytes hash bytes =
    if nat_lt 48 (length bytes)
    then (let rest = drop (length bytes / 48 * 48) bytes in
    with_last (with_first (with_groups hash (first_chunks 48 (length bytes / 48) bytes)) rest) rest)
    else with_last (with_first hash bytes) bytes

-- up to three bytes as one number: the first, the one in the middle and the last
abbrev pub of_three : List ℕ → ℕ
of_three bytes = get_or bytes 0 0 * 2 ^ 56 + get_or bytes (length bytes / 2) 0 * 2 ^ 32 + get_or bytes (length bytes - 1) 0

-- how far the second number of 4 bytes lies from the front and from the end
abbrev pub inset : List ℕ → ℕ
inset bytes = if nat_lt (length bytes) 8 then 0 else 4

-- the two numbers of the end: of the last 16 bytes, or of all if there are no more
abbrev pub end_first : List ℕ → ℕ
end_first bytes =
    if nat_lt 16 (length bytes) then wide_at (length bytes - 16) bytes
    else (if nat_lt 3 (length bytes) then narrow_at 0 bytes * 2 ^ 32 + narrow_at (length bytes - 4) bytes
    else (if nat_lt 0 (length bytes) then of_three bytes else 0))

abbrev pub end_last : List ℕ → ℕ
end_last bytes =
    if nat_lt 16 (length bytes) then wide_at (length bytes - 8) bytes
    else (if nat_lt 3 (length bytes) then narrow_at (inset bytes) bytes * 2 ^ 32 + narrow_at (length bytes - 4 - inset bytes) bytes else 0)

-- the hash, of the length, the number over the bytes and those of the end
abbrev pub finished : ℕ → ℕ → ℕ → ℕ → ℕ
finished len hash first last =
    let product = xor first secret_1 * xor last hash in
    folded (xor (xor (product % 2 ^ 64) secret_0) len) (xor (product / 2 ^ 64) secret_1)

-- the number that a command of this length begins with
abbrev pub begun : ℕ → ℕ
begun len = xor (xor rapid_seed (folded (xor rapid_seed secret_0) secret_1)) len

unfoldable pub rapid_hash_of : List ℕ → ℕ
rapid_hash_of bytes = finished (length bytes) (over_bytes (begun (length bytes)) bytes) (end_first bytes) (end_last bytes)
