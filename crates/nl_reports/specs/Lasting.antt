-- Builds with the last entry of each output alone (docs/CLI.md, "summary").
use Rattle.std.specs.Prelude.{⊤, ℕ, ◌-◌, ◌≤◌, Bool, bytes_eq, nat_lt, not, List, [], ◌∷◌, ◌++◌, drop, length, take, if◌then◌else◌}
use Rattle.std.specs.List.{filter, list_any}
use Rattle.nl_fields.specs.declared.entry.Entry.{Entry}
use Rattle.nl_table.specs.History.{holds}
use Rattle.nl_table.specs.Table.{entry_names}
use Rattle.nl_builds.specs.Builds.{Told}
use Rattle.nl_builds.specs.declared.build.Build.{Build}
use Rattle.nl_builds.specs.declared.build.How.{How}
use Rattle.nl_builds.specs.declared.build.How.TheVariants.{AsWritten, FoundAgain}
use Rattle.nl_builds.specs.declared.command.Command.{Command}
use Rattle.nl_table.specs.declared.output_key.NameKey.{NameKey}
use Rattle.nl_tool_texts.specs.Lists.{between}
use Rattle.nl_reports.specs.Jobs.{Job}
use Rattle.nl_reports.specs.Spans.{span_of}

abbrev pub is_among : List ℕ → List (List ℕ) → Bool
is_among name names = holds names name

-- the entries whose name no later entry has, and that isn't among the others
abbrev pub last_entries : List (List ℕ) → List Entry → List Entry
last_entries others [] = []
last_entries others (e ∷ es) =
    if is_among e.name (entry_names es ++ others) then last_entries others es else e ∷ last_entries others es

abbrev pub entries_left : List (List ℕ) → List Entry → ℕ → ℕ
entries_left others es place = length (last_entries others es) - length (last_entries others (drop place es))

-- `left` counts the entries that are left before a place, and `from` is their number before the first command
abbrev pub commands_left : (ℕ → ℕ) → ℕ → List Command → List Command
commands_left left from [] = []
commands_left left from (c ∷ cs) =
    if nat_lt from (left c.to) then record c { to = left c.to } ∷ commands_left left (left c.to) cs else commands_left left (left c.to) cs

-- no output of the build is missing
abbrev pub whole : How → How
whole AsWritten = AsWritten
whole (FoundAgain taken) = FoundAgain 0

-- `left` counts the commands that are left before a place, and `from` is their number before the first build
abbrev pub builds_left : (ℕ → ℕ) → ℕ → List Build → List Build
builds_left left from [] = []
builds_left left from (b ∷ bs) =
    if nat_lt from (left b.to) then record b { to = left b.to; how = whole b.how } ∷ builds_left left (left b.to) bs
    else builds_left left (left b.to) bs

abbrev pub lasting : List (List ℕ) → Told → Told
lasting others t = let left = entries_left others t.entries in record {
  entries = last_entries others t.entries;
  commands = commands_left left 0 t.commands;
  builds = builds_left (λ place. length (commands_left left 0 (take place t.commands))) 0 t.builds;
}

abbrev pub of_name : List ℕ → List Entry → List Entry
of_name name es = filter (λ (e : Entry). bytes_eq e.name name) es

abbrev pub last_of : {A : Type 0} → List A → List A
last_of [] = []
last_of (x ∷ []) = x ∷ []
last_of (x ∷ y ∷ ys) = last_of (y ∷ ys)

-- the places after commands rise, from this one on
abbrev pub Rise : ℕ → List Command → Type 0
Rise from [] = ⊤
Rise from (c ∷ cs) = (from ≤ c.to) × Rise c.to cs

-- each command has those of its outputs that are left
abbrev pub jobs_left : List (List ℕ) → List Entry → ℕ → List Command → List Job
jobs_left others es from [] = []
jobs_left others es from (c ∷ cs) = record {
  span = span_of c;
  hash = c.hash;
  outputs = last_entries (entry_names (drop c.to es) ++ others) (between from c.to es);
} ∷ jobs_left others es c.to cs

abbrev pub has_outputs : Job → Bool
has_outputs j = nat_lt 0 (length j.outputs)

-- whether each entry is left
abbrev pub marks : List (List ℕ) → List Entry → List Bool
marks others [] = []
marks others (e ∷ es) = not (is_among e.name (entry_names es ++ others)) ∷ marks others es

abbrev pub marked : {A : Type 0} → List Bool → List A → List A
marked [] xs = []
marked (b ∷ bs) [] = []
marked (b ∷ bs) (x ∷ xs) = if b then x ∷ marked bs xs else marked bs xs

abbrev pub is_held : List NameKey → List ℕ → Bool
is_held keys name = list_any (λ (k : NameKey). bytes_eq name k.bytes.now) keys
