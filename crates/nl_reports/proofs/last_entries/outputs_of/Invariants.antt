use Rattle.std.proofs.Common.{◌++◌, map, take}
use Rattle.nl_reports.specs.Jobs.{seen}
use Rattle.nl_reports.specs.Outputs.{HoldPlaces, outputs_at, places_from}
use Rattle.nl_reports.proofs.last_entries.outputs_of.Given as goal

-- the outputs of the commands so far
abbrev pub invariant-loop-place : goal.invariant-loop-place
invariant-loop-place l = HoldPlaces (places_from 0 (map seen (take l.place l.jobs))) l.places.entries

-- and those of this one so far
abbrev pub invariant-loop-entry : goal.invariant-loop-entry
invariant-loop-entry l =
    HoldPlaces (places_from 0 (map seen (take l.place l.jobs)) ++ outputs_at l.place (take l.entry-index l.entry-items)) l.places.entries
