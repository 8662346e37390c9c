-- What a command does, by the extension of its first output (docs/CLI.md, "`picture`").
use Rattle.std.specs.Prelude.{bytes_eq, Bool, true, false, ℕ, List, [], ◌∷◌, codes, ◌==◌, if◌then◌else◌}
use Rattle.nl_tool_texts.specs.declared.kind.Work.{Work}
use Rattle.nl_tool_texts.specs.declared.kind.Work.TheVariants.{Compile, Link, Archive, Generate, Test, Other}

-- from the last dot on, if no `/` follows; `found` is from what stands before the rest
abbrev pub extension_behind : List ℕ → List ℕ → List ℕ
extension_behind found [] = found
extension_behind found (c ∷ cs) = extension_behind (if c == 47 then [] else (if c == 46 then c ∷ cs else found)) cs

-- the extension has its dot
abbrev pub extension_of : List ℕ → List ℕ
extension_of name = extension_behind [] name

abbrev pub compiled : List (List ℕ)
compiled = codes ".o" ∷ codes ".obj" ∷ codes ".lo" ∷ codes ".pch" ∷ codes ".gch" ∷ codes ".pcm" ∷ codes ".bc" ∷ codes ".class" ∷ []

-- a program has no extension
abbrev pub linked : List (List ℕ)
linked = [] ∷ codes ".so" ∷ codes ".exe" ∷ codes ".dll" ∷ codes ".dylib" ∷ codes ".wasm" ∷ []

abbrev pub archived : List (List ℕ)
archived = codes ".a" ∷ codes ".lib" ∷ codes ".rlib" ∷ codes ".jar" ∷ []

abbrev pub generated : List (List ℕ)
generated = codes ".c" ∷ codes ".h" ∷ codes ".cc" ∷ codes ".cpp" ∷ codes ".cxx" ∷ codes ".hpp" ∷ codes ".inc" ∷ codes ".def" ∷ codes ".py" ∷ codes ".rs"
    ∷ codes ".go" ∷ codes ".js" ∷ codes ".json" ∷ codes ".cmake" ∷ []

abbrev pub tested : List (List ℕ)
tested = codes ".test" ∷ codes ".passed" ∷ codes ".tap" ∷ []

abbrev pub is_in : List ℕ → List (List ℕ) → Bool
is_in e [] = false
is_in e (w ∷ ws) = if bytes_eq w e then true else is_in e ws

abbrev pub later_work : List ℕ → Work
later_work e = if is_in e generated then Generate else (if is_in e tested then Test else Other)

abbrev pub work_by : List ℕ → Work
work_by e = if is_in e compiled then Compile else (if is_in e linked then Link else (if is_in e archived then Archive else later_work e))

abbrev pub work_of : List ℕ → Work
work_of name = work_by (extension_of name)

abbrev pub word : Work → List ℕ
word Compile = codes "compile"
word Link = codes "link"
word Archive = codes "archive"
word Generate = codes "generate"
word Test = codes "test"
word Other = codes "other"

abbrev pub place : Work → ℕ
place Compile = 0
place Link = 1
place Archive = 2
place Generate = 3
place Test = 4
place Other = 5

abbrev pub is_same : Work → Work → Bool
is_same a b = place a == place b
