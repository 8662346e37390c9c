-- What is found of commands by a graph.
use Rattle.std.specs.Prelude.{◌≡◌, Bool, List, [], Option, None, Some, length, map, ◌<◌, ◌^◌}
use Rattle.std.specs.List.{sum_by}
use Rattle.nl_fields.specs.declared.entry.Entry.{Entry}
use Rattle.nl_reports.specs.Critical.{IsCritical, IsFoundPath, lacking}
use Rattle.nl_tool_texts.specs.GraphText.{seen_graph}
use Rattle.nl_reports.specs.Jobs.{Job}
use Rattle.nl_reports.specs.Reaches.{ran_seen, HavePlaces}
use Rattle.nl_reports.specs.Spans.{time_of}
use Rattle.nl_reports.specs.declared.critical.Critical.{Critical}
use Rattle.nl_tool_texts.specs.declared.graph.NinjaGraph.{NinjaGraph}
use Rattle.nl_reports.specs.Numbers.{total_time}

-- it lacks all commands only if there is none
pub record IsFound (g : NinjaGraph) (js : List Job) (c : Critical) : Type 0 where
  pub graph : c.graph.now ≡ g
  pub are : HavePlaces g js c.places.items
  pub is_path : IsFoundPath (seen_graph g) js c.path.length (map ran_seen c.path.commands.items)
  pub count : c.lacking ≡ length (lacking (seen_graph g) js)
  pub time : c.lacking_time ≡ sum_by (λ (j : Job). time_of j.span) (lacking (seen_graph g) js)
  pub total : c.total ≡ total_time js
  pub small : c.total < 2 ^ 127
  pub some : length (lacking (seen_graph g) js) ≡ length js → js ≡ []

abbrev pub AreFound : NinjaGraph → List Job → Option Critical → Type 0
AreFound g js None = (screen : Bool) → IsCritical screen (seen_graph g) js None
AreFound g js (Some c) = IsFound g js c

-- what a command makes, whenever it runs
abbrev pub made : Job → List Entry
made j = j.outputs
