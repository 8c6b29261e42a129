-- Lines of the code as lines of the theory.
use Rattle.std.specs.Prelude.{◌≡◌, ℕ, ◌-◌, true, false, List, ◌++◌, map, length, take, replicate, Some, None, Ok, Err, Option, Result}
use Rattle.remora.specs.Algebras.{Meaning}
use Rattle.remora.specs.Calls.{in_order}
use Rattle.remora.specs.Formulas as theory
use Rattle.shapes.specs.Axes.{dims}
use Rattle.lines.specs.declared.given.Line.{Line}
use Rattle.lines.specs.declared.given.ParameterType.{ParameterType}
use Rattle.lines.specs.declared.given.Kind.{Kind}
use Rattle.lines.specs.declared.given.UnknownKind.{UnknownKind}
use Rattle.lines.specs.declared.given.Kind.TheVariants.{Literal, Parameter, Frame, Operator, Call, Fold, Append, Reverse}
use Rattle.lines.specs.declared.fields.Fields.{Fields}

-- A line as the theory has it.
abbrev pub line_of : Line → theory.Line
line_of l = record { kind = l.kind; base = l.base; shape = l.shape.now; function = l.function; operands = l.operands.now; codes = l.codes.now }

-- The type of a parameter as the theory has it.
abbrev pub type_of : ParameterType → theory.ArrayType
type_of t = theory.shaped t.base t.shape.now

-- The types of parameters as the theory has them.
abbrev pub types_given : List ParameterType → List theory.ArrayType
types_given ts = map type_of ts

-- The number of a kind.
abbrev pub number_for : Kind → ℕ
number_for Literal = 0
number_for Parameter = 1
number_for Frame = 2
number_for Operator = 3
number_for Call = 4
number_for Fold = 5
number_for Append = 6
number_for Reverse = 7

-- A kind as the theory has it.
abbrev pub kind_for : Kind → theory.Kind
kind_for Literal = theory.a_literal
kind_for Parameter = theory.a_parameter
kind_for Frame = theory.a_frame
kind_for Operator = theory.an_operator
kind_for Call = theory.a_call
kind_for Fold = theory.a_fold
kind_for Append = theory.an_append
kind_for Reverse = theory.a_reverse

-- The kind of a number, and none exactly where the theory has none.
abbrev pub KindOf : ℕ → Result Kind UnknownKind → Type 0
KindOf n (Ok k) = n ≡ number_for k
KindOf n (Err e) = theory.kind_of n ≡ theory.no_kind

-- Up to four numbers, with 0 in the places behind them.
abbrev pub padded : List ℕ → List ℕ
padded xs = xs ++ replicate (4 - length xs) 0

-- The line of the theory with these fields and codes.
abbrev pub line_with : Fields → List ℕ → theory.Line
line_with f cs = record { kind = number_for f.kind; base = f.base; shape = dims f.shape; function = f.function; operands = take f.count f.operands; codes = cs }

-- Fields are kept of exactly the lines that are in order, and with the line's codes they are the line.
abbrev pub InOrder : Meaning → theory.Line → Option Fields → Type 0
InOrder m l None = in_order m l ≡ false
InOrder m l (Some f) = (in_order m l ≡ true) × (line_with f l.codes ≡ l)
