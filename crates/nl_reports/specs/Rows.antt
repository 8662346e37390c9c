-- Commands and kinds of commands, the largest first (docs/CLI.md, "summary").
use Rattle.std.specs.Prelude.{ℕ, ◌-◌, ◌^◌, Bool, true, false, List, [], ◌∷◌, ◌++◌, take, map, codes, decimal, if◌then◌else◌}
use Rattle.std.specs.List.{flat_map}
use Rattle.nl_tool_texts.specs.Falling.{falling}
use Rattle.nl_tool_texts.specs.Fraction.{percent, ratio}
use Rattle.nl_reports.specs.Jobs.{Job, first_name}
use Rattle.nl_reports.specs.Spans.{time_of}
use Rattle.nl_reports.specs.Sweep.{parts, weight}
use Rattle.nl_tool_texts.specs.Texts.{line, time_text}
use Rattle.nl_reports.specs.declared.rows.Rank.{Rank}
use Rattle.nl_reports.specs.declared.rows.Rank.TheVariants.{Time, Weight}
use Rattle.nl_reports.specs.declared.rows.Ranked.{Ranked}
use Rattle.nl_reports.specs.declared.rows.Row.{Row}
use Rattle.nl_reports.specs.declared.moments.Span.{Span}

-- how many commands there are, the sum of their milliseconds, and that of their weighted times, in parts of a millisecond
pub record Sums : Type 0 where
  pub commands : ℕ
  pub time : ℕ
  pub weight : ℕ

-- a command by its first output, or a kind
pub record Told : Type 0 where
  pub name : List ℕ
  pub sums : Sums

abbrev pub told_row : Row → Told
told_row r = record { name = r.name.now; sums = record { commands = r.commands; time = r.time; weight = r.weight } }

abbrev pub weighed : ℕ → Job → Told
weighed w j = record { name = first_name j.outputs; sums = record { commands = 1; time = time_of j.span; weight = w } }

abbrev pub spans : List Job → List Span
spans js = map (λ (j : Job). j.span) js

abbrev pub told_job : List Span → Job → Told
told_job cs j = weighed (weight cs j.span) j

abbrev pub told_jobs : List Job → List Told
told_jobs js = map (told_job (spans js)) js

-- commands of one START keep their order
abbrev pub lead : Job → ℕ
lead j = 2 ^ 32 - j.span.began

abbrev pub by_start : List Job → List Job
by_start js = falling lead js

abbrev pub rank_told : Rank → Told → ℕ
rank_told Time t = t.sums.time
rank_told Weight t = t.sums.weight

abbrev pub rank_key : Rank → List ℕ
rank_key Time = codes "by-time\t"
rank_key Weight = codes "by-weight\t"

-- the line of a kind has the number of its commands
abbrev pub list_key : Bool → Rank → ℕ → List ℕ
list_key false rank commands = rank_key rank
list_key true rank commands = codes "kinds-" ++ rank_key rank ++ decimal commands ++ codes "\t"

-- a kind without a name has one here
abbrev pub named_kind : List ℕ → List ℕ
named_kind [] = codes "(none)"
named_kind (c ∷ cs) = c ∷ cs

abbrev pub shown_name : Bool → List ℕ → List ℕ
shown_name false name = name
shown_name true name = named_kind name

-- at a terminal: how long it took, and its part of the time of all
abbrev pub screen_row : Bool → ℕ → Told → List ℕ
screen_row false total t = line (time_text t.sums.time ∷ (decimal (percent t.sums.time total) ++ codes "%") ∷ t.name ∷ [])
screen_row true total t = line (time_text t.sums.time ∷ (decimal (percent t.sums.time total) ++ codes "%") ∷ decimal t.sums.commands
    ∷ named_kind t.name ∷ [])

abbrev pub heading : Bool → Bool → List ℕ
heading false of_kinds = []
heading true false = codes "\nSlowest commands\nTime\tShare\tOutput\n"
heading true true = codes "\nKinds of commands\nTime\tShare\tCommands\tKind\n"

-- in a pipe: the milliseconds, the weighted ones with two digits, rounded down, and the first output or the kind
abbrev pub list_line : Ranked → Rank → Told → List ℕ
list_line r rank t = if r.lists.screen then screen_row r.of_kinds r.total t else
    list_key r.of_kinds rank t.sums.commands ++ line (decimal t.sums.time ∷ ratio t.sums.weight parts ∷ shown_name r.of_kinds t.name ∷ [])

-- the highest rank comes first
abbrev pub highest_told : ℕ → Rank → List Told → List Told
highest_told most rank ts = take most (falling (rank_told rank) ts)

abbrev pub list_lines : Ranked → Rank → List Told → List ℕ
list_lines r rank ts = heading r.lists.screen r.of_kinds ++ flat_map (list_line r rank) (highest_told r.lists.most rank ts)

-- by time, and in a pipe also by weight
abbrev pub both_lists : Ranked → List Told → List ℕ
both_lists r ts = list_lines r Time ts ++ (if r.lists.screen then [] else list_lines r Weight ts)
