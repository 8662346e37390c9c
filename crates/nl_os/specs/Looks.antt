-- What is said of a file that is no log: docs/CLI.md, "Why something was refused".
use Rattle.std.specs.Prelude.{ℕ, Bool, ◌&&◌, ◌||◌, ◌==◌, not, nat_lt, nat_eq, List, [], ◌∷◌, length, min, take, Option, None, Some, codes, if◌then◌else◌}
use Rattle.std.specs.List.{ends_with, flat_map, starts_with}
use Rattle.nl_tool_texts.specs.Columns.{by_number}
use Rattle.nl_os.specs.declared.looks.Look.{Look}
use Rattle.nl_os.specs.declared.looks.Look.TheVariants.{Gzip, Mark, Dependencies, Return}

-- the marks of UTF-8, and of UTF-16 in both orders
abbrev pub has_mark : List ℕ → Bool
has_mark bytes = starts_with nat_eq bytes (239 ∷ 187 ∷ 191 ∷ [])
    || (starts_with nat_eq bytes (255 ∷ 254 ∷ []) || starts_with nat_eq bytes (254 ∷ 255 ∷ []))

-- what a file looks like that begins with these bytes, up to its first newline
abbrev pub look_of : List ℕ → Option Look
look_of bytes = if starts_with nat_eq bytes (31 ∷ 139 ∷ []) then Some Gzip else (if has_mark bytes then Some Mark else
    (if starts_with nat_eq bytes (codes "# ninjadeps") then Some Dependencies else
    (if ends_with nat_eq bytes (13 ∷ 10 ∷ []) then Some Return else None)))

abbrev pub look_text : Look → List ℕ
look_text Gzip = codes "it is gzip: unpack it first"
look_text Mark = codes "it begins with a byte order mark"
look_text Dependencies = codes "it is Ninja's log of dependencies, .ninja_deps"
look_text Return = codes "its first line ends in a carriage return"

-- a byte that a terminal shows as it is, but for `"` and `\`
abbrev pub is_shown : ℕ → Bool
is_shown b = nat_lt 31 b && (nat_lt b 127 && (not (b == 34) && not (b == 92)))

-- a byte as it is said, another one by its number in hexadecimal
abbrev pub escaped : ℕ → List ℕ
escaped b = if is_shown b then b ∷ [] else by_number b

-- the first bytes of a file, as they are said
abbrev pub start_text : List ℕ → List ℕ
start_text bytes = flat_map escaped (take (min (length bytes) 20) bytes)
