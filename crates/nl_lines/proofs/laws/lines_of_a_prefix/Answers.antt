use Rattle.std.proofs.Common.{◌++◌, length, drop}
use Rattle.nl_lines.specs.Split.{lines_of, rest_of}
use Rattle.nl_lines.proofs.NewlineLemmas.{prefix_lines, keeps_lines}
use Rattle.nl_lines.proofs.PrefixLemmas.{line_prefix, prefix_of}
use Rattle.nl_lines.proofs.laws.lines_of_a_prefix.Goals as goal

pub returns-clause-first : goal.returns-clause-first
returns-clause-first c text prefix is =
    prefix_of (lines_of prefix) (lines_of (rest_of prefix ++ drop (length prefix) text)) (lines_of text) (prefix_lines text prefix is)

pub returns-clause-line : goal.returns-clause-line
returns-clause-line c = line_prefix

pub returns-clause-lines : goal.returns-clause-lines
returns-clause-lines c = λ text prefix is long. (keeps_lines text prefix is long).lines

pub returns-clause-rest : goal.returns-clause-rest
returns-clause-rest c = λ text prefix is long. (keeps_lines text prefix is long).rest
