-- Names as the text of an XML document (docs/CLI.md, "`picture`").
use Rattle.std.specs.Prelude.{◌≡◌, ◌≢◌, ◌⊎◌, ◌≤◌, ℕ, ◌==◌, ◌&&◌, zero, suc, ◌-◌, Bool, true, not, min, nat_le, nat_lt, List, [], ◌∷◌, ◌++◌, Option, None, Some, length, slice_get, take, codes, if◌then◌else◌}
use Rattle.std.specs.List.{All, flat_map}
use Rattle.std.specs.Str.Lossy.{utf8_lossy}

-- what the byte c becomes after a and b: XML has no control characters but three, and no U+FFFE and U+FFFF, whose bytes are 239, 191, and 190
-- or 191; each is shown as U+FFFD
abbrev pub piece : ℕ → ℕ → ℕ → List ℕ
piece a b c = if c == 60 then codes "&lt;" else (if c == 62 then codes "&gt;" else (if c == 34 then codes "&#34;" else
    (if c == 38 then codes "&#38;" else (if nat_le c 31 then 239 ∷ 191 ∷ 189 ∷ [] else
    (if a == 239 && (b == 191 && nat_le 190 c) then 189 ∷ [] else c ∷ [])))))

-- the text is in UTF-8, and comes after the bytes a and b
abbrev pub escaped_behind : ℕ → ℕ → List ℕ → List ℕ
escaped_behind a b [] = []
escaped_behind a b (c ∷ cs) = piece a b c ++ escaped_behind b c cs

abbrev pub escaped : List ℕ → List ℕ
escaped text = escaped_behind 0 0 text

-- U+FFFD stands for what isn't UTF-8
abbrev pub shown : List ℕ → List ℕ
shown name = escaped (utf8_lossy name)

-- only the beginning of a name that is too long is shown
abbrev pub label : List ℕ → List ℕ
label name = if nat_le (length (shown name)) 100 then shown name else shown (take 20 name) ++ codes ".."

-- a character begins at such a byte, or the text ends; `cut_at` is the last such place up to this one
abbrev pub begins_here : Option ℕ → Bool
begins_here None = true
begins_here (Some b) = not (nat_le 128 b && nat_lt b 192)

abbrev pub begins_character : ℕ → List ℕ → Bool
begins_character at text = begins_here (slice_get text at)

unfoldable pub last_begin : ℕ → List ℕ → ℕ
last_begin zero text = 0
last_begin (suc k) text = if begins_character (suc k) text then suc k else last_begin k text

abbrev pub cut_at : ℕ → List ℕ → ℕ
cut_at most text = last_begin (min most (length text)) text

-- if a text has too many bytes, whole characters of it and an ellipsis are shown
abbrev pub cut_text : ℕ → List ℕ → List ℕ
cut_text most text = if nat_le (length text) most then escaped text else escaped (take (cut_at (most - 1) text) text) ++ (226 ∷ 128 ∷ 166 ∷ [])

-- the text of a name, so
abbrev pub cut_name : ℕ → List ℕ → List ℕ
cut_name most name = cut_text most (utf8_lossy name)

-- a byte of ASCII that stands in JSON and in XML as it is
pub record IsBare (c : ℕ) : Type 0 where
  pub low : 32 ≤ c
  pub high : c ≤ 126
  pub quote : c ≢ 34
  pub backslash : c ≢ 92
  pub less : c ≢ 60
  pub more : c ≢ 62
  pub and : c ≢ 38

-- a byte that is no control character below 32 and none of `<`, `>`, `"`; and one that isn't `&` either
abbrev pub IsQuiet : ℕ → Type 0
IsQuiet c = (32 ≤ c) × ((c ≢ 60) × ((c ≢ 62) × (c ≢ 34)))

abbrev pub IsPlain : ℕ → Type 0
IsPlain c = IsQuiet c × (c ≢ 38)

-- an entity, or plain bytes
abbrev pub IsPiece : List ℕ → Type 0
IsPiece p = (p ≡ codes "&lt;") ⊎ ((p ≡ codes "&gt;") ⊎ ((p ≡ codes "&#34;") ⊎ ((p ≡ codes "&#38;") ⊎ All IsPlain p)))

-- the text has nothing but pieces
pub record IsMadeOfPieces (text : List ℕ) : Type 0 where
  pub pieces : List (List ℕ)
  pub is : text ≡ flat_map (λ p. p) pieces
  pub each : All IsPiece pieces
