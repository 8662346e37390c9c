use Rattle.std.proofs.Common.{◌≡◌, ◌++◌, drop, map}
use Rattle.nl_reports.specs.Compare.{compared, compared_of, fresh, held_side, pairs_from, told_pair}
use Rattle.nl_reports.specs.Jobs.{seen}
use Rattle.nl_reports.specs.Lasting.{marked}
use Rattle.nl_reports.proofs.sides.rows_of.Given as goal

-- the commands of the old log so far, and those of what is left
abbrev pub invariant-loop-job : goal.invariant-loop-job
invariant-loop-job l = map compared_of l.rows.items ++ map (told_pair l.rules (held_side l.old) (held_side l.new))
    (pairs_from (map seen l.new.jobs.items) l.left.items (map seen (drop l.job-index l.old.jobs.items)))
    ≡ compared l.rules (held_side l.old) (held_side l.new)

-- the commands so far, and those that only the new log has of what is left
abbrev pub invariant-loop-place : goal.invariant-loop-place
invariant-loop-place l = map compared_of l.rows.items ++ map (fresh (held_side l.old) (held_side l.new))
    (marked (drop l.place l.left.items) (map seen (drop l.place l.new.jobs.items)))
    ≡ compared l.fn.rules (held_side l.old) (held_side l.new)
