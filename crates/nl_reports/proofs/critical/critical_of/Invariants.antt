use Rattle.std.proofs.Common.{◌≡◌, ◌≤◌, ◌+◌, ◌*◌, ◌^◌, drop, length, map, take}
use Rattle.std.specs.List.{sum_by}
use Rattle.nl_reports.specs.Critical.{lacking}
use Rattle.nl_tool_texts.specs.GraphText.{ids_of, nodes_of, seen_graph}
use Rattle.nl_reports.specs.Jobs.{Job, seen}
use Rattle.nl_reports.specs.Spans.{time_of}
use Rattle.nl_reports.proofs.CriticalLemmas.{HoldNames}
use Rattle.nl_reports.proofs.critical.critical_of.Given as goal
use Rattle.nl_reports.specs.Numbers.{total_time}
use Rattle.nl_reports.specs.Reaches.{place_at, places_seen}

-- the names and the places of the nodes so far
abbrev pub invariant-loop-node : goal.invariant-loop-node
invariant-loop-node l = record {
  names : HoldNames (nodes_of (take l.node l.graph.nodes.entries)) l.names.keys;
  places : places_seen l.places.items ≡ map (place_at (nodes_of l.graph.nodes.entries) (map seen l.jobs)) (take l.node (ids_of l.graph.nodes.entries));
}

-- those so far, and those of the commands that follow
abbrev pub invariant-loop-job : goal.invariant-loop-job
invariant-loop-job l = record {
  count : l.lacking + length (lacking (seen_graph l.graph) (map seen (drop l.job-index l.jobs)))
      ≡ length (lacking (seen_graph l.graph) (map seen l.jobs));
  time : l.lacking_time + sum_by (λ (j : Job). time_of j.span) (lacking (seen_graph l.graph) (map seen (drop l.job-index l.jobs)))
      ≡ sum_by (λ (j : Job). time_of j.span) (lacking (seen_graph l.graph) (map seen l.jobs));
  few : l.lacking ≤ l.job-index;
  short : l.lacking_time ≤ l.job-index * 2 ^ 64;
  total : l.total + total_time (map seen (drop l.job-index l.jobs)) ≡ total_time (map seen l.jobs);
  small : l.total ≤ l.job-index * 2 ^ 64;
}
