-- The questions of enter, asked of a line in their order, and the typed line that a line becomes.
use Rattle.std.specs.Prelude.{◌≡◌, ℕ, ◌-◌, Bool, true, false, not, ◌&&◌, ◌||◌, List, [], ◌∷◌, ◌++◌, length, take, drop, is_some, Some, None, Option, ◌==◌, nat_eq, nat_le, nat_lt, slice_index, slice_index_or}
use Rattle.remora.specs.Shapes.{Shape, size, allowed, same, ends, frame_of, agree, principal}
use Rattle.remora.specs.Algebras.{Meaning}
use Rattle.remora.specs.Formulas.{ArrayType, shaped, no_type, Line, Kind, a_literal, a_parameter, a_frame, an_operator, a_call, a_fold, an_append, a_reverse, no_kind, kind_of, Entry, Function, primitive, formula, fold, append, reversal, cells, result_cell, TypedLine, literal, parameter, frame, application, type_of}

-- A question: its number, and whether the answer is yes.
abbrev pub Question : Type 0
Question = ℕ × Bool

-- Every question is answered by yes.
abbrev pub AllYes : List Question → Type 0
AllYes [] = Unit {0}
AllYes (q ∷ qs) = (q.1 ≡ true) × AllYes qs

-- The number, unless the answer is yes.
abbrev pub or_else : Bool → ℕ → Option ℕ → Option ℕ
or_else true n rest = rest
or_else false n rest = Some n

-- The number of the first question that is answered by no.
abbrev pub first_no : List Question → Option ℕ
first_no [] = None
first_no (q ∷ qs) = or_else q.1 q.0 (first_no qs)

-- ---- parts of the questions

-- The type of an earlier line.
abbrev pub type_at : List ArrayType → ℕ → ArrayType
type_at types o = slice_index_or types o no_type

-- Each operand names an earlier line.
abbrev pub earlier : List ArrayType → List ℕ → Bool
earlier types [] = true
earlier types (o ∷ os) = nat_lt o (length types) && earlier types os

-- Each operand's type passes a test against the type that is wanted of it.
abbrev pub each_fits : (ArrayType → ArrayType → Bool) → List ArrayType → List ArrayType → List ℕ → Bool
each_fits test types [] os = true
each_fits test types (w ∷ ws) [] = true
each_fits test types (w ∷ ws) (o ∷ os) = test (type_at types o) w && each_fits test types ws os

-- Each operand has the base type that is wanted of it.
abbrev pub bases_fit : List ArrayType → List ArrayType → List ℕ → Bool
bases_fit types ws os = each_fits (λ t w. nat_eq t.base w.base) types ws os

-- Each operand ends in the cell that is wanted of it.
abbrev pub cells_fit : List ArrayType → List ArrayType → List ℕ → Bool
cells_fit types ws os = each_fits (λ t w. ends w.shape t.shape) types ws os

-- The operands' frames.
abbrev pub frames : List ArrayType → List ArrayType → List ℕ → List Shape
frames types [] os = []
frames types (w ∷ ws) [] = []
frames types (w ∷ ws) (o ∷ os) = frame_of w.shape (type_at types o).shape ∷ frames types ws os

-- Every one of the codes is of the base type, tested.
abbrev pub in_set : (ℕ → ℕ → Bool) → ℕ → List ℕ → Bool
in_set holds b [] = true
in_set holds b (c ∷ cs) = holds b c && in_set holds b cs

-- Each operand has this base type.
abbrev pub same_base : List ArrayType → ℕ → List ℕ → Bool
same_base types b [] = true
same_base types b (o ∷ os) = (type_at types o).base == b && same_base types b os

-- Each operand has this shape.
abbrev pub same_shape : List ArrayType → Shape → List ℕ → Bool
same_shape types s [] = true
same_shape types s (o ∷ os) = same (type_at types o).shape s && same_shape types s os

-- An operator that a fold can use: its two operands and its result are of one base type.
abbrev pub foldable : List ℕ → ℕ → Bool
foldable [] r = false
foldable (a ∷ []) r = false
foldable (a ∷ b ∷ []) r = a == r && b == r
foldable (a ∷ b ∷ c ∷ bs) r = false

-- The first axis of a shape, 0 if it has none.
abbrev pub first_axis : Shape → ℕ
first_axis [] = 0
first_axis (x ∷ xs) = x

-- A shape has an axis.
abbrev pub has_axis : Shape → Bool
has_axis [] = false
has_axis (x ∷ xs) = true

-- ---- the typed line, and the questions

module _ (m : Meaning) (E : ℕ → Entry) (ps types : List ArrayType) where
  -- The base type of the first operand.
  abbrev pub first_base : Line → ℕ
  first_base l = (type_at types (slice_index l.operands 0)).base

  -- The second cell of an append: as many last axes of the second operand as the first cell has.
  abbrev pub second_cell : Line → Shape
  second_cell l = drop (length (type_at types (slice_index l.operands 1)).shape - length l.shape) (type_at types (slice_index l.operands 1)).shape

  -- The function of an application line of this kind.
  abbrev pub function_of : Kind → Line → Function
  function_of a_literal l = primitive 0
  function_of a_parameter l = primitive 0
  function_of a_frame l = primitive 0
  function_of an_operator l = primitive l.function
  function_of a_call l = formula l.function
  function_of a_fold l = fold l.function (m.operator l.function).result (first_axis l.shape) (drop 1 l.shape)
  function_of an_append l = append (first_base l) (first_axis l.shape) (first_axis (second_cell l)) (drop 1 l.shape)
  function_of a_reverse l = reversal (first_base l) (first_axis l.shape) (drop 1 l.shape)
  function_of no_kind l = primitive 0

  -- The principal frame of an application.
  abbrev pub principal_frame : Function → List ℕ → Shape
  principal_frame f os = principal (frames types (cells m E f) os)

  -- The typed line of an application.
  abbrev pub applied : Function → List ℕ → TypedLine
  applied f os = application f os (principal_frame f os) (shaped (result_cell m E f).base (principal_frame f os ++ (result_cell m E f).shape))

  -- The typed line that a line of this kind becomes.
  abbrev pub typed_as : Kind → Line → TypedLine
  typed_as a_literal l = literal (shaped l.base l.shape) l.codes
  typed_as a_parameter l = parameter l.function (slice_index_or ps l.function no_type)
  typed_as a_frame l = frame l.operands (take l.function l.shape) (shaped l.base l.shape)
  typed_as an_operator l = applied (function_of an_operator l) l.operands
  typed_as a_call l = applied (function_of a_call l) l.operands
  typed_as a_fold l = applied (function_of a_fold l) l.operands
  typed_as an_append l = applied (function_of an_append l) l.operands
  typed_as a_reverse l = applied (function_of a_reverse l) l.operands
  typed_as no_kind l = literal no_type []

  -- The typed line that a line becomes.
  abbrev pub typed : Line → TypedLine
  typed l = typed_as (kind_of l.kind) l

-- n is the number of formulas, and usable says which of them may be called.
module _ (m : Meaning) (n : ℕ) (E : ℕ → Entry) (usable : ℕ → Bool) (ps types : List ArrayType) where
  -- Questions 9 to 11, on the operands of an application.
  abbrev pub operand_questions : Function → List ℕ → List Question
  operand_questions f os =
      (9, bases_fit types (cells m E f) os)
      ∷ (10, cells_fit types (cells m E f) os)
      ∷ (11, agree (frames types (cells m E f) os))
      ∷ []

  -- Question 13, on the type of a line of this kind.
  abbrev pub shape_question : Kind → Line → List Question
  shape_question k l = (13, allowed (type_of (typed_as m E ps types k l)).shape) ∷ []

  -- The questions that are asked of a line of this kind, in their order.
  abbrev pub questions_of : Kind → Line → List Question
  questions_of a_literal l = (8, (length l.codes == size l.shape) && in_set m.holds l.base l.codes) ∷ shape_question a_literal l
  questions_of a_parameter l = (7, nat_lt l.function (length ps)) ∷ shape_question a_parameter l
  questions_of a_frame l =
      (7, earlier types l.operands)
      ∷ (8, nat_le l.function (length l.shape) && length l.operands == size (take l.function l.shape))
      ∷ (9, same_base types l.base l.operands)
      ∷ (10, same_shape types (drop l.function l.shape) l.operands)
      ∷ shape_question a_frame l
  questions_of an_operator l =
      (7, earlier types l.operands && (nat_lt l.function m.operators && length l.operands == length (m.operator l.function).operands))
      ∷ operand_questions (function_of m E ps types an_operator l) l.operands ++ shape_question an_operator l
  questions_of a_call l =
      (7, earlier types l.operands && ((nat_lt l.function n && usable l.function) && length l.operands == length (E l.function).parameters))
      ∷ operand_questions (function_of m E ps types a_call l) l.operands ++ shape_question a_call l
  questions_of a_fold l =
      (7, earlier types l.operands && ((nat_lt l.function m.operators && foldable (m.operator l.function).operands (m.operator l.function).result) && length l.operands == 1))
      ∷ (8, has_axis l.shape)
      ∷ operand_questions (function_of m E ps types a_fold l) l.operands ++ (12, not (first_axis l.shape == 0) || is_some (m.operator l.function).unit) ∷ shape_question a_fold l
  questions_of an_append l =
      (7, earlier types l.operands && length l.operands == 2)
      ∷ (8, has_axis l.shape)
      ∷ operand_questions (function_of m E ps types an_append l) l.operands ++ shape_question an_append l
  questions_of a_reverse l =
      (7, earlier types l.operands && length l.operands == 1)
      ∷ (8, has_axis l.shape)
      ∷ operand_questions (function_of m E ps types a_reverse l) l.operands ++ shape_question a_reverse l
  questions_of no_kind l = (7, false) ∷ []

  -- The questions that enter asks of a line, in their order.
  abbrev pub questions : Line → List Question
  questions l = questions_of (kind_of l.kind) l

-- ---- all lines of a draft

-- The typed lines of a draft, or the first no with its line.
pub data Verdict : Type 0 where
  all_typed : List TypedLine → Verdict
  refused_at : (number line : ℕ) → Verdict

-- One typed line before the rest.
abbrev pub before : TypedLine → Verdict → Verdict
before r (all_typed rs) = all_typed (r ∷ rs)
before r (refused_at q k) = refused_at q k

-- The verdict on a line and, unless it was refused, on the rest.
abbrev pub unless : Option ℕ → ℕ → TypedLine → Verdict → Verdict
unless (Some q) k r rest = refused_at q k
unless None k r rest = before r rest

-- The lines of a draft, lowest first: the lowest line with a no counts, and its first no.
abbrev pub judge : Meaning → ℕ → (ℕ → Entry) → (ℕ → Bool) → List ArrayType → List ArrayType → List Line → Verdict
judge m n E usable ps types [] = all_typed []
judge m n E usable ps types (l ∷ ls) =
    unless (first_no (questions m n E usable ps types l)) (length types) (typed m E ps types l)
    (judge m n E usable ps (types ++ type_of (typed m E ps types l) ∷ []) ls)

-- The typed lines of a formula's lines, whether or not a question is answered by no.
abbrev pub typed_lines : Meaning → (ℕ → Entry) → List ArrayType → List ArrayType → List Line → List TypedLine
typed_lines m E ps types [] = []
typed_lines m E ps types (l ∷ ls) =
    typed m E ps types l ∷ typed_lines m E ps (types ++ type_of (typed m E ps types l) ∷ []) ls
