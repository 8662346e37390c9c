use Rattle.std.proofs.Common.{List, subst}
use Rattle.nl_fields.specs.declared.entry.Entry.{Entry}
use Rattle.nl_builds.specs.Builds.{IsTold, builds_of}
use Rattle.nl_builds.specs.Recorded.{recorded}
use Rattle.nl_versions.specs.declared.entries.Stamps.{Stamps}
use Rattle.nl_builds.proofs.reading.read_builds.Goals as goal

pub returns-clause-value : goal.returns-clause-value
returns-clause-value c =
    let read = c.in_ok-log.ensures in
    let log = c.in_ok-log.log in
    let told = c.in_ok-told.told in
    let kept = c.in_ok-kept.ensures in (
      read.value.0,
      log.entries.items,
      read.value.1,
      subst (λ (s : Stamps). IsTold (builds_of s (recorded log.entries.items)) told.entries.items told.commands.items told.builds.items) read.stamps
          (subst (λ (es : List Entry). IsTold (builds_of log.stamps es) told.entries.items told.commands.items told.builds.items) kept.entries
          c.in_ok-told.ensures.value),
      kept.unfinished,
    )
