-- What the words of a command say as fields, in any order.
use Rattle.std.specs.Prelude.{ℕ, Bool, false, cond, List, [], ◌∷◌, Some, None, Ok, Err, codes, Option}
use Rattle.std.specs.List.{list_any}
use Rattle.std.specs.Str.{bytes_eq}
use Rattle.scripts.specs.declared.names.AlgebraName.{AlgebraName}
use Rattle.scripts.specs.declared.fields.FieldSet.{FieldSet}
use Rattle.scripts.specs.declared.fields.FieldSet.TheVariants.{OfLine, OnlySlip, OnlyCodes}
use Rattle.scripts.specs.Readings.{Said, and_then, no_field, twice}
use Rattle.scripts.specs.Numbers.{number_said, listed, places, behind}
use Rattle.scripts.specs.Names.{operator_said, kind_said, base_said, cut_at}

-- The names of the fields that a command takes.
abbrev pub field_names : FieldSet → List (List ℕ)
field_names OfLine = codes "slip" ∷ codes "kind" ∷ codes "base" ∷ codes "function" ∷ codes "shape" ∷ codes "operands" ∷ codes "codes" ∷ []
field_names OnlySlip = codes "slip" ∷ []
field_names OnlyCodes = codes "codes" ∷ []

-- A word is one of these names.
abbrev pub is_in : List (List ℕ) → List ℕ → Bool
is_in names w = list_any (bytes_eq w) names

-- A word that is cut at its first `=` gives a field of one of these names.
abbrev pub given_in : List (List ℕ) → Option (List ℕ × List ℕ) → Bool
given_in names None = false
given_in names (Some p) = is_in names p.0

-- A word gives a field of one of these names.
abbrev pub gives_field : List (List ℕ) → List ℕ → Bool
gives_field names w = given_in names (cut_at 61 w)

-- Each word gives a field of one of these names.
abbrev pub known : List (List ℕ) → List (List ℕ) → Said (Unit {0})
known names [] = Ok tt
known names (w ∷ ws) = cond (gives_field names w) (known names ws) (Err (no_field w))

-- The value of a word that is cut at its first `=`, if it gives the field of this name.
abbrev pub value_from : List ℕ → Option (List ℕ × List ℕ) → Option (List ℕ)
value_from name None = None
value_from name (Some p) = cond (bytes_eq p.0 name) (Some p.1) None

-- The value that a word gives for the field of this name.
abbrev pub value_of : List ℕ → List ℕ → Option (List ℕ)
value_of name w = value_from name (cut_at 61 w)

-- A value, if there is one, before others.
abbrev pub with_value : Option (List ℕ) → List (List ℕ) → List (List ℕ)
with_value None vs = vs
with_value (Some v) vs = v ∷ vs

-- The values that these words give for the field of this name.
abbrev pub values_of : List ℕ → List (List ℕ) → List (List ℕ)
values_of name [] = []
values_of name (w ∷ ws) = with_value (value_of name w) (values_of name ws)

-- The only value of the field of this name, if there is one at all.
abbrev pub sole : List ℕ → List (List ℕ) → Said (Option (List ℕ))
sole name [] = Ok None
sole name (v ∷ []) = Ok (Some v)
sole name (v ∷ w ∷ vs) = Err (twice name)

-- What a value says that may be left out.
abbrev pub or_absent : {X : Type 0} → (List ℕ → Said X) → X → Option (List ℕ) → Said X
or_absent reading absent None = Ok absent
or_absent reading absent (Some v) = reading v

-- What these words say for the field of this name.
abbrev pub field_of : {X : Type 0} → List ℕ → (List ℕ → Said X) → X → List (List ℕ) → Said X
field_of name reading absent ws = and_then (sole name (values_of name ws)) (or_absent reading absent)

-- The serial of a slip.
abbrev pub serial : List ℕ → Said (Option ℕ)
serial v = and_then (number_said v) (λ n. Ok (Some n))

-- The slip.
abbrev pub slip_of : List (List ℕ) → Said (Option ℕ)
slip_of ws = field_of (codes "slip") serial None ws

-- The kind.
abbrev pub kind_of : List (List ℕ) → Said ℕ
kind_of ws = field_of (codes "kind") kind_said 0 ws

-- The base type.
abbrev pub base_of : AlgebraName → List (List ℕ) → Said ℕ
base_of a ws = field_of (codes "base") (base_said a) 0 ws

-- The function.
abbrev pub function_of : List (List ℕ) → Said ℕ
function_of ws = field_of (codes "function") operator_said 0 ws

-- The shape.
abbrev pub shape_of : List (List ℕ) → Said (List ℕ)
shape_of ws = field_of (codes "shape") places [] ws

-- The operands.
abbrev pub operands_of : List (List ℕ) → Said (List ℕ)
operands_of ws = field_of (codes "operands") places [] ws

-- Codes: numbers, or the path of a file.
pub data CodesMeant : Type 0 where
  numbers : List ℕ → CodesMeant
  path : List ℕ → CodesMeant

-- The codes of a value, with the path behind its `@`, if it has one.
abbrev pub codes_from : List ℕ → Option (List ℕ) → Said CodesMeant
codes_from v (Some p) = Ok (path p)
codes_from v None = and_then (listed v) (λ ns. Ok (numbers ns))

-- The codes that a value says: a path behind `@`, or a list.
abbrev pub codes_said : List ℕ → Said CodesMeant
codes_said v = codes_from v (behind 64 v)

-- The codes.
abbrev pub codes_of : List (List ℕ) → Said CodesMeant
codes_of ws = field_of (codes "codes") codes_said (numbers []) ws

-- The fields of a line.
pub record LineMeant : Type 0 where
  pub slip : Option ℕ
  pub kind : ℕ
  pub base : ℕ
  pub function : ℕ
  pub shape : List ℕ
  pub operands : List ℕ
  pub codes : CodesMeant

-- The line that these words say by its fields.
abbrev pub line_of : AlgebraName → List (List ℕ) → Said LineMeant
line_of a ws =
    and_then (known (field_names OfLine) ws) (λ _.
    and_then (slip_of ws) (λ s.
    and_then (kind_of ws) (λ k.
    and_then (base_of a ws) (λ b.
    and_then (function_of ws) (λ f.
    and_then (shape_of ws) (λ sh.
    and_then (operands_of ws) (λ os.
    and_then (codes_of ws) (λ cs.
    Ok (record { slip = s; kind = k; base = b; function = f; shape = sh; operands = os; codes = cs })))))))))
