use Rattle.nl_fields.proofs.DigitLemmas.{same_decimal, same_decimal_spelling, same_value, same_spelling}
use Rattle.nl_fields.proofs.NumberLemmas.{IsDecimal-decimal_of, IsDigits-digits_of}
use Rattle.std.proofs.Common.{arith}
use Rattle.nl_fields.proofs.laws.one_number.Goals as goal

pub returns-clause-spelling : goal.returns-clause-spelling
returns-clause-spelling c = λ n k l left right. same_decimal_spelling n left right

pub returns-clause-number : goal.returns-clause-number
returns-clause-number c = same_decimal

pub returns-clause-exists : goal.returns-clause-exists
returns-clause-exists c = IsDecimal-decimal_of

pub returns-clause-hex_spelling : goal.returns-clause-hex_spelling
returns-clause-hex_spelling c = λ n k l left right. same_spelling left right

pub returns-clause-hex_number : goal.returns-clause-hex_number
returns-clause-hex_number c = λ m n bytes left right. same_value left right

pub returns-clause-hex_exists : goal.returns-clause-hex_exists
returns-clause-hex_exists c = λ n fits. IsDigits-digits_of 16 n (omega arith) fits
