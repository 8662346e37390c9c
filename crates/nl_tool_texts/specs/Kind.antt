-- The kind of an output, by its name (docs/CLI.md, "summary").
use Rattle.std.specs.Prelude.{ℕ, ◌+◌, ◌==◌, position, List, [], ◌∷◌, drop, length, take, if◌then◌else◌}
use Rattle.std.specs.Option.{option_map_or}
use Rattle.nl_tool_texts.specs.Work.{extension_of, word, work_of}
use Rattle.nl_tool_texts.specs.declared.kind.KindRule.{KindRule}
use Rattle.nl_tool_texts.specs.declared.kind.KindRule.TheVariants.{Extension, Folder, Top, Work}

-- the bytes up to the last `/`, with it; `found` are those before the rest, which stands at a place
abbrev pub folder_len : ℕ → ℕ → List ℕ → ℕ
folder_len found at [] = found
folder_len found at (c ∷ cs) = folder_len (if c == 47 then at + 1 else found) (at + 1) cs

-- the folder has the `/` after it
abbrev pub folder_of : List ℕ → List ℕ
folder_of name = take (folder_len 0 0 name) name

-- the first folder of a name, with the `/` after it
abbrev pub top_of : List ℕ → List ℕ
top_of name = option_map_or (λ i. take (i + 1) name) (position (λ c. c == 47) name) []

-- empty if the name has no dot or no `/`
abbrev pub kind_of : KindRule → List ℕ → List ℕ
kind_of Extension name = extension_of name
kind_of Folder name = folder_of name
kind_of Top name = top_of name
kind_of Work name = word (work_of name)

-- the part of a name after its last `/`
abbrev pub base_of : List ℕ → List ℕ
base_of name = drop (length (folder_of name)) name
