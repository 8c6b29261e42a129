-- The algebra of counts: 32-bit two's complement numbers and flags, and the nine operators on them.
use Rattle.std.specs.Prelude.{ℕ, ◌-◌, ◌%◌, ◌^◌, Bool, true, false, cond, ◌&&◌, ◌||◌, List, [], ◌∷◌, ℤ, pos, negsuc, ◌+ℤ◌, ◌-ℤ◌, ◌*ℤ◌, Some, None, Option, ◌==◌, int_div, int_lt, nat_lt, slice_index, slice_index_or}
use Rattle.std.specs.Int.{w32}
use Rattle.std.proofs.Common.{to_z}
use Rattle.remora.specs.Algebras.{Meaning, Operator, Assigned, gives, fails}

-- The signed number of a count's code in two's complement: a code from 2^31 on stands for itself less 2^32.
abbrev pub signed : ℕ → ℤ
signed c = to_z w32 c

-- The code of an integer: what it leaves modulo 2^32.
abbrev pub wrapped : ℤ → ℕ
wrapped (pos n) = n % 2 ^ 32
wrapped (negsuc n) = 2 ^ 32 - 1 - n % 2 ^ 32

-- The code of a flag.
abbrev pub flag : Bool → ℕ
flag true = 1
flag false = 0

-- The sum of two counts, wrapped.
abbrev pub sum : ℕ → ℕ → ℕ
sum a b = wrapped (signed a +ℤ signed b)

-- The difference of two counts, wrapped.
abbrev pub difference : ℕ → ℕ → ℕ
difference a b = wrapped (signed a -ℤ signed b)

-- The product of two counts, wrapped.
abbrev pub product : ℕ → ℕ → ℕ
product a b = wrapped (signed a *ℤ signed b)

-- The quotient of two counts, rounded to zero, and wrapped, so that -2^31 by -1 is -2^31.
abbrev pub quotient : ℕ → ℕ → ℕ
quotient a b = wrapped (int_div (signed a) (signed b))

-- One count is less than another, as a flag.
abbrev pub less : ℕ → ℕ → ℕ
less a b = flag (int_lt (signed a) (signed b))

-- What the nine operators assign to the codes a, b and c: a divisor 0 has cause 1.
abbrev pub assigned : ℕ → ℕ → ℕ → List Assigned
assigned a b c =
    gives (sum a b)
    ∷ gives (difference a b)
    ∷ gives (product a b)
    ∷ cond (b == 0) (fails 1) (gives (quotient a b))
    ∷ gives (less a b)
    ∷ gives (flag (a == 1 && b == 1))
    ∷ gives (flag (a == 1 || b == 1))
    ∷ gives (flag (a == 0))
    ∷ gives (cond (a == 1) b c)
    ∷ []

-- An operator of these operands, result and unit.
abbrev operator : List ℕ → ℕ → Option ℕ → Operator
operator operands result unit = record { operands = operands; result = result; unit = unit }

-- The nine operators: add, sub, mul, quo, less, and, or, not, pick.
abbrev pub operators : List Operator
operators =
    operator (0 ∷ 0 ∷ []) 0 (Some 0)
    ∷ operator (0 ∷ 0 ∷ []) 0 None
    ∷ operator (0 ∷ 0 ∷ []) 0 (Some 1)
    ∷ operator (0 ∷ 0 ∷ []) 0 None
    ∷ operator (0 ∷ 0 ∷ []) 1 None
    ∷ operator (1 ∷ 1 ∷ []) 1 (Some 1)
    ∷ operator (1 ∷ 1 ∷ []) 1 (Some 0)
    ∷ operator (1 ∷ []) 1 None
    ∷ operator (1 ∷ 0 ∷ 0 ∷ []) 0 None
    ∷ []

-- Base type 0 holds the codes below 2^32, base type 1 the codes 0 and 1.
abbrev pub holds : ℕ → ℕ → Bool
holds b c = cond (b == 0) (nat_lt c (2 ^ 32)) (cond (b == 1) (nat_lt c 2) false)

-- The meaning of the algebra of counts.
abbrev pub counts : Meaning
counts = record {
  bases = 2;
  operators = 9;
  holds = holds;
  operator = λ op. slice_index_or operators op (operator [] 0 None);
  assign = λ op cs. slice_index_or (assigned (slice_index cs 0) (slice_index cs 1) (slice_index cs 2)) op (fails 1);
}
