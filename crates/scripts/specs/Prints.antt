-- The text that is printed of an error.
use Rattle.std.specs.Prelude.{ℕ, List, ◌++◌, string_bytes, codes}
use Rattle.scripts.specs.declared.errors.ReadError.{ReadError}
use Rattle.scripts.specs.declared.errors.ReadError.TheVariants.{NoMemory, MissingAlgebra, MissingNumber, NoCommand, Surplus, NoAlgebra, NoNumber, NoList, NoBase, NoOperator, NoKind, NoType, NoField, Twice}

-- An error: what is wrong, and what was expected.
abbrev pub error_text : ReadError → List ℕ
error_text NoMemory = codes "out of memory"
error_text MissingAlgebra = codes "the name of an algebra is missing (expected counts or amplitudes)"
error_text MissingNumber = codes "a number is missing (expected the digits of a number below 18446744073709551616)"
error_text (NoCommand word) = codes "'" ++ (string_bytes word ++ codes "' is no command (expected algebra, store, open, line, enter, scrap, withdraw, entry, begin, step, result, close or run)")
error_text (Surplus word) = codes "'" ++ (string_bytes word ++ codes "' is one word too many (expected the end of the line)")
error_text (NoAlgebra word) = codes "'" ++ (string_bytes word ++ codes "' is no algebra (expected counts or amplitudes)")
error_text (NoNumber word) = codes "'" ++ (string_bytes word ++ codes "' is no number (expected the digits of a number below 18446744073709551616)")
error_text (NoList word) = codes "'" ++ (string_bytes word ++ codes "' has no list in brackets (expected numbers as in [1,2,3], or [])")
error_text (NoBase word) = codes "'" ++ (string_bytes word ++ codes "' is no base type (expected count or amplitude as the algebra has it, flag, or a number)")
error_text (NoOperator word) = codes "'" ++ (string_bytes word ++ codes "' is no operator (expected add, sub, mul, quo, less, and, or, not, pick or a number)")
error_text (NoKind word) = codes "'" ++ (string_bytes word ++ codes "' is no kind (expected literal, parameter, frame, operator, call, fold, append, reverse or a number)")
error_text (NoType word) = codes "'" ++ (string_bytes word ++ codes "' is no type (expected a base type and its axes, as count[3,2] or flag[])")
error_text (NoField word) = codes "'" ++ (string_bytes word ++ codes "' gives no field of this command (expected slip=.. behind enter and scrap, codes=.. behind a formula, and behind line also kind=.., base=.., shape=.., function=.. and operands=..)")
error_text (Twice word) = codes "'" ++ (string_bytes word ++ codes "' is given more than once (expected each field at most once)")
