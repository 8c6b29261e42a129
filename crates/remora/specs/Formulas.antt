-- Array types, lines as they are handed over, formulas, functions with the types of their cells, and typed lines.
use Rattle.std.specs.Prelude.{ℕ, ◌+◌, List, [], ◌∷◌, slice_index_or}
use Rattle.remora.specs.Shapes.{Shape}
use Rattle.remora.specs.Algebras.{Meaning}

-- The type of an array: the base type of its codes, and its shape.
pub record ArrayType : Type 0 where
  pub base : ℕ
  pub shape : Shape

-- The array type of this base type and shape.
abbrev pub shaped : ℕ → Shape → ArrayType
shaped b s = record { base = b; shape = s }

-- What a read past the end of a list of types stands for: a type without atoms.
abbrev pub no_type : ArrayType
no_type = shaped 0 (0 ∷ [])

-- ---- lines as they are handed over

-- A line as it is handed over: any numbers at all.
pub record Line : Type 0 where
  pub kind : ℕ
  pub base : ℕ
  pub shape : Shape
  pub function : ℕ
  pub operands : List ℕ
  pub codes : List ℕ

-- A formula as it is entered: its parameters' types and its lines, of which the last is the result.
pub record Formula : Type 0 where
  pub parameters : List ArrayType
  pub lines : List Line

-- The eight kinds of lines, and what is none of them.
pub data Kind : Type 0 where
  a_literal : Kind
  a_parameter : Kind
  a_frame : Kind
  an_operator : Kind
  a_call : Kind
  a_fold : Kind
  an_append : Kind
  a_reverse : Kind
  no_kind : Kind

-- The kinds are numbered from 0 to 7.
abbrev pub kind_of : ℕ → Kind
kind_of k = slice_index_or (a_literal ∷ a_parameter ∷ a_frame ∷ an_operator ∷ a_call ∷ a_fold ∷ an_append ∷ a_reverse ∷ []) k no_kind

-- ---- what is known of an entered formula

-- What is known of a formula by its number: the types of its parameters and of its result, and its forecasts.
pub record Entry : Type 0 where
  pub parameters : List ArrayType
  pub result : ArrayType
  pub steps : ℕ
  pub room : ℕ
  pub depth : ℕ

-- ---- functions

-- A function that an application line names: an operator, a formula by its number, or a fold, append or reversal of items of shape d and base type b.
pub data Function : Type 0 where
  primitive : (o : ℕ) → Function
  formula : (g : ℕ) → Function
  fold : (o b n : ℕ) (d : Shape) → Function
  append : (b m n : ℕ) (d : Shape) → Function
  reversal : (b n : ℕ) (d : Shape) → Function

-- Scalars of these base types.
abbrev pub scalars : List ℕ → List ArrayType
scalars [] = []
scalars (b ∷ bs) = shaped b [] ∷ scalars bs

-- The types of the cells that a function wants of its operands.
abbrev pub cells : Meaning → (ℕ → Entry) → Function → List ArrayType
cells m E (primitive o) = scalars (m.operator o).operands
cells m E (formula g) = (E g).parameters
cells m E (fold o b n d) = shaped b (n ∷ d) ∷ []
cells m E (append b k n d) = shaped b (k ∷ d) ∷ shaped b (n ∷ d) ∷ []
cells m E (reversal b n d) = shaped b (n ∷ d) ∷ []

-- The type of the cell that a function gives.
abbrev pub result_cell : Meaning → (ℕ → Entry) → Function → ArrayType
result_cell m E (primitive o) = shaped (m.operator o).result []
result_cell m E (formula g) = (E g).result
result_cell m E (fold o b n d) = shaped b d
result_cell m E (append b k n d) = shaped b ((k + n) ∷ d)
result_cell m E (reversal b n d) = shaped b (n ∷ d)

-- ---- typed lines

-- A line with what typing finds: for an application its function, its operands' lines, the principal frame and the type.
pub data TypedLine : Type 0 where
  literal : (t : ArrayType) (codes : List ℕ) → TypedLine
  parameter : (k : ℕ) (t : ArrayType) → TypedLine
  frame : (operands : List ℕ) (p : Shape) (t : ArrayType) → TypedLine
  application : (f : Function) (operands : List ℕ) (p : Shape) (t : ArrayType) → TypedLine

-- The type of a typed line.
abbrev pub type_of : TypedLine → ArrayType
type_of (literal t cs) = t
type_of (parameter k t) = t
type_of (frame os p t) = t
type_of (application f os p t) = t

-- The types of typed lines.
abbrev pub types_of : List TypedLine → List ArrayType
types_of [] = []
types_of (r ∷ rs) = type_of r ∷ types_of rs

-- The last of a list, or d if it is empty.
abbrev pub last_or : {X : Type 0} → X → List X → X
last_or d [] = d
last_or d (x ∷ xs) = last_or x xs

-- The type of a formula's result is that of its last line.
abbrev pub result_type : List TypedLine → ArrayType
result_type rs = type_of (last_or (literal no_type []) rs)
