-- What typing finds of a line, as the theory's plan of the line, and the promise of the typing rule.
use Rattle.std.specs.Prelude.{◌≡◌, ℕ, suc, ◌+◌, ◌<◌, min, Bool, true, false, not, ◌||◌, List, [], ◌∷◌, ◌++◌, map, length, get_or, take, drop, is_some, Some, None, Ok, Err, Option, Result, ◌==◌, slice_index, slice_index_or}
use Rattle.remora.specs.Shapes.{size, allowed, principal}
use Rattle.remora.specs.Algebras.{Meaning}
use Rattle.remora.specs.Formulas as theory
use Rattle.remora.specs.Questions.{first_no, earlier, type_at, frames, questions_of, questions, typed_as}
use Rattle.remora.specs.Evaluation.{repeats}
use Rattle.remora.specs.Numbers.{no_entry}
use Rattle.remora.specs.Machine.{Operand, Plan, plan_of}
use Rattle.shapes.specs.Axes.{array_type}
use Rattle.lines.specs.declared.refusals.Refusal.{Refusal}
use Rattle.typing.specs.declared.found.Entry.{Entry}
use Rattle.typing.specs.declared.found.Items.{Items}
use Rattle.typing.specs.declared.found.Lift.{Lift}
use Rattle.typing.specs.declared.found.Typed.{Typed}
use Rattle.typing.specs.declared.found.Context.{Context}
use Rattle.typing.specs.declared.asked.Asked.{Asked}
use Rattle.lines.specs.declared.fields.Fields.{Fields}
use Rattle.lines.specs.Lines.{line_with}
use Rattle.typing.specs.Typings.{types_of, Refused, Judged, operands_asked, shape_asked}

-- ---- what is known of formulas

-- What is known of a formula, as the theory has it.
abbrev pub entry_of : Entry → theory.Entry
entry_of e = record { parameters = types_of (take e.parameters.count e.parameters.all); result = array_type e.result; steps = e.steps; room = e.room; depth = e.depth }

-- What is known of formula g.
abbrev pub known_in : List Entry → ℕ → theory.Entry
known_in es g = slice_index_or (map entry_of es) g no_entry

-- The mark of a formula.
abbrev pub mark_of : Entry → Bool
mark_of e = e.withdrawn

-- Formula g is not withdrawn.
abbrev pub usable_in : List Entry → ℕ → Bool
usable_in es g = not (slice_index_or (map mark_of es) g false)

-- ---- plans

-- How operand i is lifted, not at all if there are fewer.
abbrev pub lift_at : List Lift → ℕ → Lift
lift_at ls i = slice_index_or ls i (record { repeats = 0; size = 0 })

-- The operands of a plan, from operand i on: each with its repeats and the atoms of a cell.
abbrev pub planned_operands : Typed → ℕ → List ℕ → List Operand
planned_operands t i [] = []
planned_operands t i (o ∷ os) = record { line = o; repeats = (lift_at t.lifts i).repeats; size = (lift_at t.lifts i).size } ∷ planned_operands t (suc i) os

-- The number that the plan of a line of this kind names: a parameter, the rank of a frame, an operator or a formula.
abbrev pub planned_function : theory.Kind → ℕ → ℕ
planned_function theory.a_literal f = 0
planned_function theory.a_parameter f = f
planned_function theory.a_frame f = f
planned_function theory.an_operator f = f
planned_function theory.a_call f = f
planned_function theory.a_fold f = f
planned_function theory.an_append f = 0
planned_function theory.a_reverse f = 0
planned_function theory.no_kind f = 0

-- The operands that the plan of a line of this kind has.
abbrev pub operands_for : theory.Kind → List ℕ → List ℕ
operands_for theory.a_literal os = []
operands_for theory.a_parameter os = []
operands_for theory.a_frame os = os
operands_for theory.an_operator os = os
operands_for theory.a_call os = os
operands_for theory.a_fold os = os
operands_for theory.an_append os = os
operands_for theory.a_reverse os = os
operands_for theory.no_kind os = []

-- The codes that the plan of a line of this kind has.
abbrev pub codes_for : theory.Kind → List ℕ → List ℕ
codes_for theory.a_literal cs = cs
codes_for theory.a_parameter cs = []
codes_for theory.a_frame cs = []
codes_for theory.an_operator cs = []
codes_for theory.a_call cs = []
codes_for theory.a_fold cs = []
codes_for theory.an_append cs = []
codes_for theory.a_reverse cs = []
codes_for theory.no_kind cs = []

-- The plan of a line of this kind with what typing found, at this offset.
abbrev pub planned_as : theory.Kind → theory.Line → Typed → ℕ → Plan
planned_as k l t q =
    record { kind = k; function = planned_function k l.function; operands = planned_operands t 0 (operands_for k l.operands); cells = t.cells; items = t.items.number; item = t.items.atoms; type = array_type t.array; offset = q; codes = codes_for k l.codes }

-- The plan of a line with what typing found, at this offset.
abbrev pub planned : theory.Line → Typed → ℕ → Plan
planned l t q = planned_as (theory.kind_of l.kind) l t q

-- ---- the promise of the typing rule

-- Every type has an allowed shape.
abbrev pub AllAllowed : List theory.ArrayType → Type 0
AllAllowed [] = Unit {0}
AllAllowed (t ∷ ts) = (allowed t.shape ≡ true) × AllAllowed ts

-- What was found of a line of this kind after lines of these types is the typed line's type and, if the types before have allowed shapes, its plan.
pub record FoundAs (m : Meaning) (E : ℕ → theory.Entry) (ps types : List theory.ArrayType) (k : theory.Kind) (l : theory.Line) (t : Typed) : Type 0 where
  pub type : array_type t.array ≡ theory.type_of (typed_as m E ps types k l)
  pub plan : AllAllowed types → (q : ℕ) → planned_as k l t q ≡ plan_of m E types q (typed_as m E ps types k l)

-- The same of a line by its own kind.
abbrev pub Found : Meaning → (ℕ → theory.Entry) → List theory.ArrayType → List theory.ArrayType → theory.Line → Typed → Type 0
Found m E ps types l t = FoundAs m E ps types (theory.kind_of l.kind) l t

-- The rule for lines of this kind in a context of the code.
abbrev pub RuledAs : Meaning → Context → theory.Kind → theory.Line → ℕ → Result Typed Refusal → Type 0
RuledAs m x k l line r =
    Judged (questions_of m (length x.formulas.now) (known_in x.formulas.now) (usable_in x.formulas.now) (types_of x.parameters.now) (types_of x.types.now) k l)
    (FoundAs m (known_in x.formulas.now) (types_of x.parameters.now) (types_of x.types.now) k l) line r

-- The rule for a line by its own kind.
abbrev pub Ruled : Meaning → Context → theory.Line → ℕ → Result Typed Refusal → Type 0
Ruled m x l line r = RuledAs m x (theory.kind_of l.kind) l line r

-- Lines are asked on exactly where their operands name earlier lines.
abbrev pub AskedOf : Context → Fields → ℕ → Option Asked → Type 0
AskedOf x f line None = earlier (types_of x.types.now) (line_with f []).operands ≡ false
AskedOf x f line (Some a) = (a.context.now ≡ x) × (a.fields.now ≡ f) × (a.line ≡ line)

-- Typing a line: all its questions are answered by yes and what was found is written; or the refusal is the one for its first no, and nothing is written.
abbrev pub TypedAs : Meaning → ℕ → (ℕ → theory.Entry) → (ℕ → Bool) → List theory.ArrayType → List theory.ArrayType → theory.Line → ℕ → Typed → Result (Unit {0}) Refusal → Typed → Type 0
TypedAs m n E usable ps types l line before (Ok u) after = (first_no (questions m n E usable ps types l) ≡ None) × Found m E ps types l after
TypedAs m n E usable ps types l line before (Err e) after = Refused (questions m n E usable ps types l) line e × (after ≡ before)

-- The same in a context of the code.
abbrev pub TypedIn : Meaning → Context → theory.Line → ℕ → Typed → Result (Unit {0}) Refusal → Typed → Type 0
TypedIn m x l line before r after =
    TypedAs m (length x.formulas.now) (known_in x.formulas.now) (usable_in x.formulas.now) (types_of x.parameters.now) (types_of x.types.now) l line before r after

-- ---- applications

-- A number, or the largest number of 32 bits if that is less.
abbrev pub small : ℕ → ℕ
small n = min n 4294967295

-- How operand i is lifted to a frame, as numbers of 32 bits: how often a cell of it is repeated, and how many atoms a cell has.
abbrev pub LiftedBy : List theory.ArrayType → List theory.ArrayType → List ℕ → List ℕ → ℕ → Lift → Type 0
LiftedBy types ws os p i l =
    (l.repeats ≡ small (repeats p (get_or ws i theory.no_type).shape (type_at types (slice_index os i)).shape))
    × (l.size ≡ small (size (get_or ws i theory.no_type).shape))

-- How the operands, as far as they are wanted and no more than four, are lifted to a frame.
abbrev pub Lifted : List theory.ArrayType → List theory.ArrayType → List ℕ → List ℕ → List Lift → Type 0
Lifted types ws os p ls = (i : ℕ) → i < length os → i < length ws → i < 4 → LiftedBy types ws os p i (lift_at ls i)

-- What is found of an application with cells of this type in this frame: its type, its number of cells, how its operands are lifted, and the items of a first cell.
pub record Applies (types ws : List theory.ArrayType) (os p : List ℕ) (cell : theory.ArrayType) (x : Items) (t : Typed) : Type 0 where
  pub type : array_type t.array ≡ theory.shaped cell.base (p ++ cell.shape)
  pub cells : t.cells ≡ size p
  pub lifted : Lifted types ws os p t.lifts
  pub items : t.items ≡ x

-- What is found of an application that is no fold, with these cells of its operands and this one of its result, or its first no from question 9 on.
abbrev pub Applied : List theory.ArrayType → List theory.ArrayType → List ℕ → theory.ArrayType → Items → ℕ → Result Typed Refusal → Type 0
Applied types ws os cell x line r =
    let p = principal (frames types ws os) in
    Judged (operands_asked types ws os ++ shape_asked (p ++ cell.shape)) (Applies types ws os p cell x) line r

-- The items of a cell with these axes: the first axis counts them, the others are theirs.
abbrev pub items_in : List ℕ → Items
items_in s = record { number = slice_index s 0; atoms = small (size (drop 1 s)) }

-- What is found of a fold with this cell of its operand by an operator with this unit, or its first no from question 9 on.
abbrev pub Folded : List theory.ArrayType → theory.ArrayType → Option ℕ → List ℕ → ℕ → Result Typed Refusal → Type 0
Folded types w unit os line r =
    let p = principal (frames types (w ∷ []) os) in
    let d = drop 1 w.shape in
    Judged
    (operands_asked types (w ∷ []) os ++ (12, not (slice_index w.shape 0 == 0) || is_some unit) ∷ shape_asked (p ++ d))
    (Applies types (w ∷ []) os p (theory.shaped w.base d) (items_in w.shape)) line r

-- What is found of an append with this cell of its first operand and one of n items of its second, or its first no from question 9 on.
abbrev pub Appended : List theory.ArrayType → theory.ArrayType → ℕ → List ℕ → ℕ → Result Typed Refusal → Type 0
Appended types w n os line r =
    let d = drop 1 w.shape in
    Applied types (w ∷ theory.shaped w.base (n ∷ d) ∷ []) os (theory.shaped w.base ((slice_index w.shape 0 + n) ∷ d)) (items_in w.shape) line r
