use Rattle.std.proofs.Common.{◌≡◌, ◌++◌, drop}
use Rattle.nl_builds.specs.Builds.{walk}
use Rattle.nl_builds.specs.Seen.{empty}
use Rattle.nl_builds.specs.declared.seen.Order.TheVariants.{ByMoment}
use Rattle.nl_builds.proofs.WalkLemmas.{IsFirst, walk_on}
use Rattle.nl_builds.proofs.seen.walk.Given as goal

-- the builds so far, and those of what is left
abbrev pub invariant-loop-at : goal.invariant-loop-at
invariant-loop-at l = record {
  told : l.found.items ++ walk_on l.at l.order l.stamps l.place l.is_sure l.current (drop l.at l.commands) (drop l.at l.rows)
      ≡ walk l.fn.order l.fn.stamps l.fn.place l.fn.is_sure l.fn.commands l.fn.rows;
  first : IsFirst l.at l.is_sure l.current (drop l.at l.commands);
  empty : l.empty ≡ empty l.empty.is_sure l.empty.past l.empty.last;
  by_moment : l.order ≡ ByMoment → l.empty.past ≡ 0;
}
