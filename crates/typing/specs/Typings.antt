-- Types of the code as types of the theory.
use Rattle.std.specs.Prelude.{◌≡◌, ℕ, true, false, ◌&&◌, List, [], ◌∷◌, ◌++◌, map, length, get_or, take, drop, Some, None, Ok, Err, Option, Result, ◌==◌, nat_le, nat_lt, slice_index_or}
use Rattle.remora.specs.Shapes.{size, allowed, agree, principal}
use Rattle.remora.specs.Algebras.{Meaning}
use Rattle.remora.specs.Questions.{Question, first_no, earlier, bases_fit, cells_fit, frames, in_set, same_base, same_shape}
use Rattle.remora.specs.Calls.{Answer, refused}
use Rattle.shapes.specs.declared.Shape.{Shape}
use Rattle.remora.specs.Formulas as theory
use Rattle.shapes.specs.declared.ArrayType.{ArrayType}
use Rattle.shapes.specs.Axes.{array_type, dims}
use Rattle.lines.specs.declared.refusals.Refusal.{Refusal}
use Rattle.lines.specs.Refusals.{answer_of}

-- The types of the theory that these stand for.
abbrev pub types_of : List ArrayType → List theory.ArrayType
types_of ts = map array_type ts

-- The principal frame of frames is told exactly where they agree.
abbrev pub Joined : List (List ℕ) → Option Shape → Type 0
Joined fs None = agree fs ≡ false
Joined fs (Some s) = (agree fs ≡ true) × (dims s ≡ principal fs)

-- The answer to a first no at a line; without a no there is none.
abbrev pub answer_at : ℕ → Option ℕ → Option Answer
answer_at line None = None
answer_at line (Some q) = Some (refused q (Some line))

-- A refusal is the one for the first no, at this line.
abbrev pub Refused : List Question → ℕ → Refusal → Type 0
Refused qs line e = answer_at line (first_no qs) ≡ Some (answer_of e)

-- These questions are all answered by yes and what is found is as it should be, or the refusal is the one for the first no.
abbrev pub Judged : {X : Type 0} → List Question → (X → Type 0) → ℕ → Result X Refusal → Type 0
Judged qs P line (Ok x) = (first_no qs ≡ None) × P x
Judged qs P line (Err e) = Refused qs line e

-- Questions 9 to 11, on operands of which these cells are wanted.
abbrev pub operands_asked : List theory.ArrayType → List theory.ArrayType → List ℕ → List Question
operands_asked types cells os = (9, bases_fit types cells os) ∷ (10, cells_fit types cells os) ∷ (11, agree (frames types cells os)) ∷ []

-- The principal frame of operands of which these cells are wanted, or the first no of questions 9 to 11.
abbrev pub Framed : List theory.ArrayType → List theory.ArrayType → List ℕ → ℕ → Result Shape Refusal → Type 0
Framed types cells os line r = Judged (operands_asked types cells os) (λ s. dims s ≡ principal (frames types cells os)) line r

-- Cells in a frame make a whole shape exactly where that is allowed.
abbrev pub Whole : List ℕ → List ℕ → Option Shape → Type 0
Whole p d None = allowed (p ++ d) ≡ false
Whole p d (Some s) = (allowed (p ++ d) ≡ true) × (dims s ≡ p ++ d)

-- Question 13, on a shape.
abbrev pub shape_asked : List ℕ → List Question
shape_asked s = (13, allowed s) ∷ []

-- The type of an array with cells of this type in this frame, or the no of question 13.
abbrev pub Spread : List ℕ → theory.ArrayType → ℕ → Result ArrayType Refusal → Type 0
Spread p cell line r = Judged (shape_asked (p ++ cell.shape)) (λ t. array_type t ≡ theory.shaped cell.base (p ++ cell.shape)) line r

-- The type of a literal, or the first no on it.
abbrev pub LiteralJudged : Meaning → ℕ → List ℕ → List ℕ → ℕ → Result ArrayType Refusal → Type 0
LiteralJudged m base s cs line r = Judged ((8, (length cs == size s) && in_set m.holds base cs) ∷ shape_asked s) (λ t. array_type t ≡ theory.shaped base s) line r

-- The type of a parameter line, or the first no on it.
abbrev pub ParameterJudged : List theory.ArrayType → ℕ → ℕ → Result ArrayType Refusal → Type 0
ParameterJudged ps k line r = Judged ((7, nat_lt k (length ps)) ∷ shape_asked (get_or ps k theory.no_type).shape) (λ t. array_type t ≡ slice_index_or ps k theory.no_type) line r

-- The questions of a frame line with a frame of so many axes.
abbrev pub frame_asked : List theory.ArrayType → ℕ → List ℕ → ℕ → List ℕ → List Question
frame_asked types base s rank os =
    (7, earlier types os)
    ∷ (8, nat_le rank (length s) && length os == size (take rank s))
    ∷ (9, same_base types base os)
    ∷ (10, same_shape types (drop rank s) os)
    ∷ shape_asked s

-- The type of a frame line, or the first no on it.
abbrev pub FrameJudged : List theory.ArrayType → ℕ → List ℕ → ℕ → List ℕ → ℕ → Result ArrayType Refusal → Type 0
FrameJudged types base s rank os line r = Judged (frame_asked types base s rank os) (λ t. array_type t ≡ theory.shaped base s) line r
