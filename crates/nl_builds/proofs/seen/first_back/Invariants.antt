use Rattle.std.proofs.Common.{◌≡◌, None, drop}
use Rattle.nl_builds.specs.Builds.{first_back}
use Rattle.nl_builds.proofs.seen.first_back.Given as goal

abbrev pub invariant-loop-build : goal.invariant-loop-build
invariant-loop-build l = first_back l.stamps l.before l.place (drop l.build-index l.builds) ≡ first_back l.fn.stamps None 0 l.fn.builds
