use Rattle.nl_fields.proofs.EntryLineLemmas.{one_entry, one_line, one_entry_four}
use Rattle.nl_fields.proofs.LineOfLemmas.{IsEntryLine-line_of, entry_of-decides, entry_of-line_of, line_has_no_newline, line_is_short, entry_of_four-decides, line_four_has_no_newline}
use Rattle.nl_fields.proofs.laws.one_line.Goals as goal

pub returns-clause-line : goal.returns-clause-line
returns-clause-line c = one_line

pub returns-clause-exists : goal.returns-clause-exists
returns-clause-exists c = λ e entry. IsEntryLine-line_of entry

pub returns-clause-reads_back : goal.returns-clause-reads_back
returns-clause-reads_back c = entry_of-line_of

pub returns-clause-length : goal.returns-clause-length
returns-clause-length c = λ e line is. line_is_short line is

pub returns-clause-newline : goal.returns-clause-newline
returns-clause-newline c = λ e line is. line_has_no_newline line is

pub returns-clause-entry : goal.returns-clause-entry
returns-clause-entry c = one_entry

pub returns-clause-decides : goal.returns-clause-decides
returns-clause-decides c = entry_of-decides

pub returns-clause-entry_four : goal.returns-clause-entry_four
returns-clause-entry_four c = one_entry_four

pub returns-clause-decides_four : goal.returns-clause-decides_four
returns-clause-decides_four c = entry_of_four-decides

pub returns-clause-newline_four : goal.returns-clause-newline_four
returns-clause-newline_four c = λ e line is. line_four_has_no_newline line is
