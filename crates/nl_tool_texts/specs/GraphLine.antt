-- A line of the text that `ninja -t graph` prints (docs/CLI.md, "Files").
use Rattle.std.specs.Prelude.{ℕ, ◌+◌, ◌-◌, ◌==◌, ◌&&◌, ◌||◌, Bool, true, List, [], ◌∷◌, length, take, drop, Option, None, Some, is_some, bytes_eq, codes, option_and_then, option_map, if◌then◌else◌}
use Rattle.std.specs.Borrow.{Bor}
use Rattle.std.specs.List.{position}
use Rattle.nl_tool_texts.specs.declared.graph_line.Line.{Line}
use Rattle.nl_tool_texts.specs.declared.graph_line.Line.TheVariants as seen

-- it names a node, or says that an edge leads from one to another, or says nothing of these
pub data GraphLine : Type 0 where
  Passed : GraphLine
  Labelled : List ℕ → List ℕ → GraphLine
  Joined : List ℕ → List ℕ → GraphLine

-- what follows a text with which the bytes begin, and what comes before one with which they end
abbrev pub behind : List ℕ → List ℕ → Option (List ℕ)
behind front bytes = if bytes_eq (take (length front) bytes) front then Some (drop (length front) bytes) else None

abbrev pub before : List ℕ → List ℕ → Option (List ℕ)
before back bytes = if bytes_eq (drop (length bytes - length back) bytes) back then Some (take (length bytes - length back) bytes) else None

-- the bytes before the first quote, and those after it
abbrev pub cut_at : List ℕ → ℕ → List ℕ × List ℕ
cut_at bytes at = (take at bytes, drop (at + 1) bytes)

abbrev pub to_quote : List ℕ → Option (List ℕ × List ℕ)
to_quote bytes = option_map (cut_at bytes) (position (λ b. b == 34) bytes)

-- the bytes in quotes with which a text begins, and what follows them
abbrev pub quoted : List ℕ → Option (List ℕ × List ℕ)
quoted bytes = option_and_then to_quote (behind (codes "\"") bytes)

-- what follows `[label="` names a node, or is the rule of a command, which is drawn as an ellipse
abbrev pub labelled : List ℕ → List ℕ → Option (List ℕ) → Option GraphLine
labelled id tail (Some name) = Some (Labelled id name)
labelled id tail None = if is_some (before (codes "\", shape=ellipse]") tail) then Some Passed else None

-- what follows an edge is nothing, or stands in brackets
abbrev pub are_attributes : List ℕ → Bool
are_attributes [] = true
are_attributes (b ∷ bytes) = is_some (behind (codes " [") (b ∷ bytes)) && is_some (before (codes "]") (b ∷ bytes))

-- an edge leads from this node to the one after `->`
abbrev pub joined_to : List ℕ → Option (List ℕ × List ℕ) → Option GraphLine
joined_to id None = None
joined_to id (Some to) = if are_attributes to.1 then Some (Joined id to.0) else None

abbrev pub joined : List ℕ → List ℕ → Option GraphLine
joined id rest = joined_to id (option_and_then quoted (behind (codes " -> ") rest))

-- what is said of the node or the command of this number
abbrev pub said_of : List ℕ → List ℕ → Option (List ℕ) → Option GraphLine
said_of id rest (Some tail) = labelled id tail (before (codes "\"]") tail)
said_of id rest None = joined id rest

-- such a line says how the graph is drawn
abbrev pub is_setting : List ℕ → Bool
is_setting line = is_some (behind (codes "rankdir=") line) || (is_some (behind (codes "node [") line) || is_some (behind (codes "edge [") line))

abbrev pub line_by : List ℕ → Option (List ℕ × List ℕ) → Option GraphLine
line_by line (Some both) = said_of both.0 both.1 (behind (codes " [label=\"") both.1)
line_by line None = if is_setting line then Some Passed else None

-- none if no line of such a text reads so
abbrev pub graph_line : List ℕ → Option GraphLine
graph_line line = line_by line (quoted line)

-- none if the line may not stand there: the first begins the graph, and only empty lines come after its end
abbrev pub line_in : Bool → ℕ → List ℕ → Option GraphLine
line_in ended number line = if number == 1 then (if bytes_eq line (codes "digraph ninja {") then Some Passed else None)
    else if ended then (if length line == 0 then Some Passed else None)
    else if bytes_eq line (codes "}") then Some Passed else graph_line line

abbrev pub line_seen : Line → GraphLine
line_seen seen.Passed = Passed
line_seen (seen.Labelled id name) = Labelled id.now name.now
line_seen (seen.Joined from to) = Joined from.now to.now

abbrev pub both_now : Bor (List ℕ) × Bor (List ℕ) → List ℕ × List ℕ
both_now both = (both.0.now, both.1.now)
