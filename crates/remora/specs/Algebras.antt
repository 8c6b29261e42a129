-- What an algebra of samples means: base types and their codes, operators and what they assign to codes.
use Rattle.std.specs.Prelude.{◌≡◌, ℕ, ◌^◌, ◌<◌, ◌≤◌, Bool, true, false, cond, ◌&&◌, List, [], ◌∷◌, length, Some, None, Option, ◌==◌, nat_lt, slice_index}

-- A sample is a code of one base type: what an atom stands for.
pub record Sample : Type 0 where
  pub base : ℕ
  pub code : ℕ

-- The sample of this base type and code.
abbrev pub sample_of : ℕ → ℕ → Sample
sample_of b c = record { base = b; code = c }

-- What an operator assigns to operand codes: a result code or a cause.
pub data Assigned : Type 0 where
  gives : ℕ → Assigned
  fails : ℕ → Assigned

-- An operator has the base types of its operands, that of its result and, perhaps, a unit.
pub record Operator : Type 0 where
  pub operands : List ℕ
  pub result : ℕ
  pub unit : Option ℕ

-- The meaning of an algebra: how many base types and operators it has, the codes of each base type, the operators and what they assign.
pub record Meaning : Type 0 where
  pub bases : ℕ
  pub operators : ℕ
  pub holds : ℕ → ℕ → Bool
  pub operator : ℕ → Operator
  pub assign : ℕ → List ℕ → Assigned

-- There are as many codes as base types, each code in the set of the base type at its place.
abbrev pub all_held : (ℕ → ℕ → Bool) → List ℕ → List ℕ → Bool
all_held holds [] [] = true
all_held holds [] (c ∷ cs) = false
all_held holds (b ∷ bs) [] = false
all_held holds (b ∷ bs) (c ∷ cs) = holds b c && all_held holds bs cs

-- What is assigned is a code of the result's base type or a cause from 1 to 255.
abbrev pub Legal : Meaning → ℕ → Assigned → Type 0
Legal m b (gives c) = m.holds b c ≡ true
Legal m b (fails e) = (1 ≤ e) × (e ≤ 255)

-- A unit is a code of the operator's one base type, of which it takes two operands.
abbrev pub UnitFits : Meaning → Operator → Option ℕ → Type 0
UnitFits m o None = Unit {0}
UnitFits m o (Some u) = (o.operands ≡ o.result ∷ o.result ∷ []) × (m.holds o.result u ≡ true)

-- A meaning is well formed: its numbers are within bounds, its types are known, its units fit and what it assigns is legal.
pub record Formed (m : Meaning) : Type 0 where
  pub some_bases : 1 ≤ m.bases
  pub few_bases : m.bases ≤ 4
  pub some_operators : 1 ≤ m.operators
  pub few_operators : m.operators ≤ 16
  pub codes_small : (b c : ℕ) → m.holds b c ≡ true → c < 2 ^ 64
  pub bases_known : (b c : ℕ) → m.holds b c ≡ true → b < m.bases
  pub some_operands : (o : ℕ) → o < m.operators → 1 ≤ length (m.operator o).operands
  pub few_operands : (o : ℕ) → o < m.operators → length (m.operator o).operands ≤ 3
  pub operand_known : (o k : ℕ) → o < m.operators → k < length (m.operator o).operands → slice_index (m.operator o).operands k < m.bases
  pub result_known : (o : ℕ) → o < m.operators → (m.operator o).result < m.bases
  pub unit_fits : (o : ℕ) → o < m.operators → UnitFits m (m.operator o) (m.operator o).unit
  pub legal : (o : ℕ) (cs : List ℕ) → o < m.operators → all_held m.holds (m.operator o).operands cs ≡ true → Legal m (m.operator o).result (m.assign o cs)

-- ---- an operator applied to samples

-- An application to samples gives a sample or a cause.
pub data Applied : Type 0 where
  value : Sample → Applied
  cause : ℕ → Applied

-- What is assigned, as a sample of the result's base type.
abbrev pub of_assigned : ℕ → Assigned → Applied
of_assigned b (gives c) = value (sample_of b c)
of_assigned b (fails e) = cause e

-- There are as many samples as base types, each of the base type at its place.
abbrev pub of_bases : List ℕ → List Sample → Bool
of_bases [] [] = true
of_bases [] (s ∷ ss) = false
of_bases (b ∷ bs) [] = false
of_bases (b ∷ bs) (s ∷ ss) = s.base == b && of_bases bs ss

-- The codes of samples.
abbrev pub codes_of : List Sample → List ℕ
codes_of [] = []
codes_of (s ∷ ss) = s.code ∷ codes_of ss

-- An operator applied to samples gives what it assigns to their codes, or cause 0 if the operator is unknown or takes other operands.
abbrev pub applying : Meaning → ℕ → List Sample → Applied
applying m o ss =
    cond (nat_lt o m.operators && of_bases (m.operator o).operands ss)
    (of_assigned (m.operator o).result (m.assign o (codes_of ss)))
    (cause 0)

-- The same, shut: proofs about all algebras cite it, proofs about one compute with the open one.
unfoldable pub applied : Meaning → ℕ → List Sample → Applied
applied m o ss = applying m o ss
