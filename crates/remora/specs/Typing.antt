-- The typing relation: one rule for each form of line, one application rule for every function.
use Rattle.std.specs.Prelude.{◌≡◌, ℕ, ◌<◌, Bool, true, List, [], ◌∷◌, ◌++◌, length, is_some, slice_index_or}
use Rattle.remora.specs.Shapes.{Shape, size, allowed, Join}
use Rattle.remora.specs.Algebras.{Meaning}
use Rattle.remora.specs.Formulas.{ArrayType, shaped, no_type, Line, a_literal, a_parameter, a_frame, an_operator, a_call, a_fold, an_append, a_reverse, kind_of, Entry, Function, primitive, formula, fold, append, reversal, cells, result_cell, TypedLine, literal, parameter, frame, application, type_of}

-- Every one of the codes is of the base type.
abbrev pub InSet : (ℕ → ℕ → Bool) → ℕ → List ℕ → Type 0
InSet holds b [] = Unit {0}
InSet holds b (c ∷ cs) = (holds b c ≡ true) × InSet holds b cs

-- Each operand is an earlier line of exactly this type.
pub data Alike (types : List ArrayType) (t : ArrayType) : List ℕ → Type 0 where
  no_operand : Alike types t []
  operand : {o : ℕ} {os : List ℕ} → o < length types → slice_index_or types o no_type ≡ t → Alike types t os → Alike types t (o ∷ os)

-- Each operand is an earlier line whose shape is a frame followed by the cell that is wanted of it; the frames.
pub data Operands (types : List ArrayType) : List ArrayType → List ℕ → List Shape → Type 0 where
  no_operands : Operands types [] [] []
  and_operand : {w : ArrayType} {ws : List ArrayType} {o : ℕ} {os : List ℕ} {fs : List Shape} (f : Shape)
      → o < length types → slice_index_or types o no_type ≡ shaped w.base (f ++ w.shape) → Operands types ws os fs → Operands types (w ∷ ws) (o ∷ os) (f ∷ fs)

-- The function that an application line names. m is the algebra's meaning, n the number of formulas, usable says which of them may be called.
pub data Names (m : Meaning) (n : ℕ) (usable : ℕ → Bool) (l : Line) : Function → Type 0 where
  names_operator : kind_of l.kind ≡ an_operator → l.function < m.operators → Names m n usable l (primitive l.function)
  names_formula : kind_of l.kind ≡ a_call → l.function < n → usable l.function ≡ true → Names m n usable l (formula l.function)
  names_fold : (b k : ℕ) (d : Shape) → kind_of l.kind ≡ a_fold → l.function < m.operators
      → (m.operator l.function).operands ≡ b ∷ b ∷ [] → (m.operator l.function).result ≡ b
      → l.shape ≡ k ∷ d → (k ≡ 0 → is_some (m.operator l.function).unit ≡ true) → Names m n usable l (fold l.function b k d)
  names_append : (b j k : ℕ) (d : Shape) → kind_of l.kind ≡ an_append → l.shape ≡ j ∷ d → Names m n usable l (append b j k d)
  names_reverse : (b k : ℕ) (d : Shape) → kind_of l.kind ≡ a_reverse → l.shape ≡ k ∷ d → Names m n usable l (reversal b k d)

-- A line is typed, after lines of these types, in a formula with these parameters; E is what is known of the formulas by number.
pub data Types (m : Meaning) (n : ℕ) (E : ℕ → Entry) (usable : ℕ → Bool) (ps types : List ArrayType) (l : Line) : TypedLine → Type 0 where
  -- T-Array: a literal has as many codes as its size, all of its base type
  t_array : {t : ArrayType} {cs : List ℕ} → kind_of l.kind ≡ a_literal → t ≡ shaped l.base l.shape → cs ≡ l.codes
      → length cs ≡ size t.shape → InSet m.holds t.base cs → allowed t.shape ≡ true → Types m n E usable ps types l (literal t cs)
  -- T-Var: a parameter has its parameter's type
  t_var : {k : ℕ} {t : ArrayType} → kind_of l.kind ≡ a_parameter → k ≡ l.function → k < length ps → slice_index_or ps k no_type ≡ t → allowed t.shape ≡ true
      → Types m n E usable ps types l (parameter k t)
  -- T-Frame: as many cells of one type as the size of the first axes
  t_frame : {os : List ℕ} {p : Shape} {t : ArrayType} (cell : Shape) → kind_of l.kind ≡ a_frame → os ≡ l.operands → t ≡ shaped l.base l.shape
      → t.shape ≡ p ++ cell → length p ≡ l.function → length os ≡ size p → Alike types (shaped t.base cell) os → allowed t.shape ≡ true
      → Types m n E usable ps types l (frame os p t)
  -- T-App: each operand ends in the function's cell; the principal frame is the join of the frames, and stands before the result cell
  t_app : {f : Function} {os : List ℕ} {p : Shape} {t : ArrayType} (fs : List Shape) → Names m n usable l f → os ≡ l.operands
      → Operands types (cells m E f) os fs → Join fs p → t ≡ shaped (result_cell m E f).base (p ++ (result_cell m E f).shape) → allowed t.shape ≡ true
      → Types m n E usable ps types l (application f os p t)

-- Lines are typed one after another, each after those before it.
pub data TypesAll (m : Meaning) (n : ℕ) (E : ℕ → Entry) (usable : ℕ → Bool) (ps : List ArrayType) : List ArrayType → List Line → List TypedLine → Type 0 where
  no_lines : {types : List ArrayType} → TypesAll m n E usable ps types [] []
  and_line : {types : List ArrayType} {l : Line} {ls : List Line} {r : TypedLine} {rs : List TypedLine} → Types m n E usable ps types l r
      → TypesAll m n E usable ps (types ++ type_of r ∷ []) ls rs → TypesAll m n E usable ps types (l ∷ ls) (r ∷ rs)
