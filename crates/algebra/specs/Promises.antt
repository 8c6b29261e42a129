-- What an implementation of an algebra promises, stated by the algebra's meaning.
use Rattle.std.specs.Prelude.{◌≡◌, ℕ, ◌<◌, ◌≤◌, true, false, List, map, Some, None, Ok, Err, Option, Result}
use Rattle.remora.specs.Algebras.{Meaning, Operator, Sample, sample_of, Formed, Applied, value, cause}
use Rattle.algebra.specs.declared.Signature.{Signature}
use Rattle.algebra.specs.declared.Operands.{Operands}
use Rattle.algebra.specs.Operands.{listed}

-- Atoms denote samples of a well formed meaning, and equal samples are those of equal atoms.
pub record Denotes {Atom : Type 0} (m : Meaning) (sample : Atom → Sample) : Type 0 where
  pub formed : Formed m
  pub apart : (a b : Atom) → sample a ≡ sample b → a ≡ b

-- The operator that a signature describes.
abbrev pub operator_of : Signature → Operator
operator_of s = record { operands = listed s.operands; result = s.result; unit = s.unit }

-- A signature is told of exactly the known operators, and it describes the operator.
abbrev pub Described : Meaning → ℕ → Option Signature → Type 0
Described m op None = m.operators ≤ op
Described m op (Some s) = (op < m.operators) × (operator_of s ≡ m.operator op)

-- An atom is read of exactly the codes of a base type, and it denotes the sample.
abbrev pub ReadAs : {Atom : Type 0} → Meaning → (Atom → Sample) → ℕ → ℕ → Option Atom → Type 0
ReadAs m sample b c None = m.holds b c ≡ false
ReadAs m sample b c (Some a) = (m.holds b c ≡ true) × (sample a ≡ sample_of b c)

-- The samples of an operator's operands, in their order.
abbrev pub samples : {Atom : Type 0} → (Atom → Sample) → Operands Atom → List Sample
samples sample operands = map sample (listed operands)

-- The answer of an application as a sample or the number of the fault's cause.
abbrev pub answered : {Atom Fault : Type 0} → (Atom → Sample) → (Fault → ℕ) → Result Atom Fault → Applied
answered sample number (Ok a) = value (sample a)
answered sample number (Err e) = cause (number e)
