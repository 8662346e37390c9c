use Rattle.std.proofs.Common.{◌≡◌, ◌++◌, false, length}
use Rattle.nl_builds.specs.Builds.{written_builds}
use Rattle.nl_builds.proofs.build.written_builds.Given as goal

abbrev pub invariant-builds : goal.invariant-builds
invariant-builds l = l.builds.items ++ written_builds l.stamps l.new l.from l.beside l.seen ≡ written_builds l.fn.stamps l.fn.new l.fn.from false l.fn.seen

abbrev pub decreases-builds : goal.decreases-builds
decreases-builds l = length l.seen
