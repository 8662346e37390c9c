use Rattle.std.proofs.Common.{refl}
use Rattle.nl_table.proofs.LogLemmas.{log_of-line, log_of-tail, log_of-torn, zero_after, log_of-cut, log_of-header, log_of-prefix}
use Rattle.nl_table.proofs.laws.a_log_goes_on.Goals as goal

pub returns-clause-line : goal.returns-clause-line
returns-clause-line c = λ bytes es e entry ends reads fits. log_of-line bytes e 5 es entry ends refl reads fits

pub returns-clause-torn : goal.returns-clause-torn
returns-clause-torn c = λ bytes torn v es ends plain reads fits. log_of-torn bytes torn v es ends reads fits plain

pub returns-clause-tail : goal.returns-clause-tail
returns-clause-tail c = λ bytes tail v es some plain reads fits. log_of-tail bytes tail v es some reads fits plain

pub returns-clause-zero : goal.returns-clause-zero
returns-clause-zero c = zero_after

pub returns-clause-entries : goal.returns-clause-entries
returns-clause-entries c = log_of-prefix

pub returns-clause-whole : goal.returns-clause-whole
returns-clause-whole c = log_of-cut

pub returns-clause-header : goal.returns-clause-header
returns-clause-header c = log_of-header
