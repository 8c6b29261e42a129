-- The figures of a trace, by recursion on the list of its codes.
use Rattle.std.specs.Prelude.{ℕ, ◌%◌, ◌^◌, Bool, false, cond, ◌&&◌, List, [], ◌∷◌, length, Some, None, Ok, Err, fold, Option, Result, ◌==◌}
use Rattle.remora.specs.Algebras.{Applied, value, cause}
use Rattle.counts.specs.declared.Fault.{Fault}
use Rattle.counts.specs.declared.Fault.TheVariants.{Misused, DivisionByZero}
use Rattle.counts.specs.Faults.{fault_of}
use Rattle.counts.specs.Tables.{sum, product, quotient, less}

-- An application as the code of a count or a fault: a sample that is no count is a misuse.
abbrev pub counted : Applied → Result ℕ Fault
counted (value s) = cond (s.base == 0) (Ok s.code) (Err Misused)
counted (cause e) = Err (fault_of e)

-- A sample that is a flag and set.
abbrev pub flagged : Applied → Bool
flagged (value s) = s.base == 1 && s.code == 1
flagged (cause e) = false

-- The sum of the counts, from the unit of add on and from the left.
abbrev pub total : List ℕ → ℕ
total codes = fold sum 0 codes

-- One count's square is added.
abbrev pub with_square : ℕ → ℕ → ℕ
with_square t c = sum t (product c c)

-- The sum of the squares of the counts.
abbrev pub total_squares : List ℕ → ℕ
total_squares codes = fold with_square 0 codes

-- The second of two counts if it is less than the first, else the first.
abbrev pub lesser : ℕ → ℕ → ℕ
lesser a b = cond (less b a == 1) b a

-- The second of two counts if the first is less than it, else the first.
abbrev pub greater : ℕ → ℕ → ℕ
greater a b = cond (less a b == 1) b a

-- The smallest count, if there is one.
abbrev pub smallest : List ℕ → Option ℕ
smallest [] = None
smallest (c ∷ codes) = Some (fold lesser c codes)

-- The largest count, if there is one.
abbrev pub largest : List ℕ → Option ℕ
largest [] = None
largest (c ∷ codes) = Some (fold greater c codes)

-- The quotient of two counts, or a division by zero.
abbrev pub quotient_of : ℕ → ℕ → Result ℕ Fault
quotient_of a b = cond (b == 0) (Err DivisionByZero) (Ok (quotient a b))

-- The number of samples as the code of a count, modulo 2^32.
abbrev pub samples_count : List ℕ → ℕ
samples_count codes = length codes % 2 ^ 32

-- The sum by the number of samples, or a division by zero where that number is 0.
abbrev pub mean : List ℕ → Result ℕ Fault
mean codes = quotient_of (total codes) (samples_count codes)

-- The mean as a summary tells it: the sum by the number of samples, or cause 1 where that number is 0.
abbrev pub told_mean : List ℕ → Result ℕ ℕ
told_mean codes = cond (samples_count codes == 0) (Err 1) (Ok (quotient (total codes) (samples_count codes)))
