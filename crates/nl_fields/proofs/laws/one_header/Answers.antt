use Rattle.nl_fields.proofs.HeaderLemmas.{IsHeader-header_of, header_of-version_five, one_header, version_five-plain}
use Rattle.nl_fields.proofs.laws.one_header.Goals as goal

pub returns-clause-newline : goal.returns-clause-newline
returns-clause-newline c = version_five-plain

pub returns-clause-reads_back : goal.returns-clause-reads_back
returns-clause-reads_back c = header_of-version_five

pub returns-clause-header : goal.returns-clause-header
returns-clause-header c = one_header

pub returns-clause-exists : goal.returns-clause-exists
returns-clause-exists c = IsHeader-header_of
