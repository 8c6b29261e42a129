-- What a word says as a name: of an algebra, a base type, an operator, a kind, or a type.
use Rattle.std.specs.Prelude.{ℕ, cond, List, [], ◌∷◌, map, Some, None, Ok, codes, Option, ◌==◌}
use Rattle.std.specs.List.{position_from}
use Rattle.std.specs.Str.{bytes_eq}
use Rattle.scripts.specs.declared.names.AlgebraName.{AlgebraName}
use Rattle.scripts.specs.declared.names.AlgebraName.TheVariants.{Counts, Amplitudes}
use Rattle.scripts.specs.Readings.{Said, and_then, or_fault, no_algebra, no_operator, no_kind, no_base, no_type}
use Rattle.scripts.specs.Numbers.{number, limit, closing}

-- What stands beside a name in a table.
abbrev pub lookup : {X : Type 0} → List (List ℕ × X) → List ℕ → Option X
lookup [] w = None
lookup (x ∷ xs) w = cond (bytes_eq w x.0) (Some x.1) (lookup xs w)

-- The names of the algebras.
abbrev pub algebras : List (List ℕ × AlgebraName)
algebras = (codes "counts", Counts) ∷ (codes "amplitudes", Amplitudes) ∷ []

-- The algebra of a name.
abbrev pub algebra_of : List ℕ → Option AlgebraName
algebra_of w = lookup algebras w

-- What a word says as an algebra.
abbrev pub algebra_said : List ℕ → Said AlgebraName
algebra_said w = or_fault (algebra_of w) (no_algebra w)

-- The place of a word in a list of names, from a number on.
abbrev pub place_in : List (List ℕ) → ℕ → List ℕ → Option ℕ
place_in names n w = position_from (bytes_eq w) n names

-- The names of the operators, in the order of their numbers.
abbrev pub operators : List (List ℕ)
operators = codes "add" ∷ codes "sub" ∷ codes "mul" ∷ codes "quo" ∷ codes "less" ∷ codes "and" ∷ codes "or" ∷ codes "not" ∷ codes "pick" ∷ []

-- The names of the kinds of lines, in the order of their numbers.
abbrev pub kinds : List (List ℕ)
kinds = codes "literal" ∷ codes "parameter" ∷ codes "frame" ∷ codes "operator" ∷ codes "call" ∷ codes "fold" ∷ codes "append" ∷ codes "reverse" ∷ []

-- The names of the base types of an algebra, in the order of their numbers.
abbrev pub bases : AlgebraName → List (List ℕ)
bases Counts = codes "count" ∷ codes "flag" ∷ []
bases Amplitudes = codes "amplitude" ∷ codes "flag" ∷ []

-- A number as one of 32 bits, if it is there.
abbrev pub limit_in : Option ℕ → Option ℕ
limit_in None = None
limit_in (Some n) = Some (limit n)

-- The number of a name, if the word is one, or else the number that the word writes.
abbrev pub or_number : Option ℕ → List ℕ → Option ℕ
or_number None w = limit_in (number w)
or_number (Some n) w = Some n

-- What a word says as an operator.
abbrev pub operator_said : List ℕ → Said ℕ
operator_said w = or_fault (or_number (place_in operators 0 w) w) (no_operator w)

-- What a word says as a kind of line.
abbrev pub kind_said : List ℕ → Said ℕ
kind_said w = or_fault (or_number (place_in kinds 0 w) w) (no_kind w)

-- What a word says as a base type of an algebra.
abbrev pub base_said : AlgebraName → List ℕ → Said ℕ
base_said a w = or_fault (or_number (place_in (bases a) 0 w) w) (no_base w)

-- A byte stands before the first of two texts.
abbrev pub grown_front : ℕ → Option (List ℕ × List ℕ) → Option (List ℕ × List ℕ)
grown_front b None = None
grown_front b (Some p) = Some (b ∷ p.0, p.1)

-- A text cut in two at the first byte that is this one.
abbrev pub cut_at : ℕ → List ℕ → Option (List ℕ × List ℕ)
cut_at c [] = None
cut_at c (b ∷ bs) = cond (b == c) (Some ([], bs)) (grown_front b (cut_at c bs))

-- A type: the number of its base type, and its axes.
pub record Typed : Type 0 where
  pub base : ℕ
  pub axes : List ℕ

-- The type that a word says: a base type up to the first `[`, and its axes behind that.
abbrev pub type_of : AlgebraName → List ℕ → Said Typed
type_of a w =
    and_then (or_fault (cut_at 91 w) (no_type w)) (λ p.
    and_then (base_said a p.0) (λ b.
    and_then (closing w p.1) (λ ns.
    Ok (record { base = b; axes = map limit ns }))))
