-- The numbers of the operators.
use Rattle.std.specs.Prelude.{◌≡◌, ℕ, ◌≤◌, Ok, Err, Result}
use Rattle.counts.specs.declared.Operator.{Operator}
use Rattle.counts.specs.declared.Operator.TheVariants.{Add, Sub, Mul, Quo, Less, And, Or, Not, Pick}
use Rattle.counts.specs.declared.Fault.{Fault}
use Rattle.counts.specs.declared.Fault.TheVariants.{Misused}

-- The number of an operator: its place among the nine.
abbrev pub number : Operator → ℕ
number Add = 0
number Sub = 1
number Mul = 2
number Quo = 3
number Less = 4
number And = 5
number Or = 6
number Not = 7
number Pick = 8

-- The operator has this number, or no operator has it, which is a misuse.
abbrev pub Numbered : ℕ → Result Operator Fault → Type 0
Numbered n (Ok op) = number op ≡ n
Numbered n (Err e) = (9 ≤ n) × (e ≡ Misused)
