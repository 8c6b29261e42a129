-- The causes of the faults, and their texts.
use Rattle.std.specs.Prelude.{ℕ, cond, List, codes, ◌==◌}
use Rattle.counts.specs.declared.Fault.{Fault}
use Rattle.counts.specs.declared.Fault.TheVariants.{Misused, DivisionByZero}

-- The number of a fault's cause: 0 for an operator that is unknown or takes other operands, 1 for a divisor 0.
abbrev pub cause : Fault → ℕ
cause Misused = 0
cause DivisionByZero = 1

-- The fault of a cause.
abbrev pub fault_of : ℕ → Fault
fault_of c = cond (c == 1) DivisionByZero Misused

-- The text of a fault.
abbrev pub fault_text : Fault → List ℕ
fault_text Misused = codes "cause 0"
fault_text DivisionByZero = codes "division by zero"
