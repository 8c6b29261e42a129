-- Evaluation: lift the operands to the principal frame, map the function over the cells in rising order, collapse the result cells. It knows no store, place or step.
use Rattle.std.specs.Prelude.{ℕ, zero, suc, ◌-◌, List, [], ◌∷◌, ◌++◌, map, reverse, length, get_or, take, drop, replicate, Some, None, Option, slice_index_or}
use Rattle.remora.specs.Shapes.{Shape, size, frame_of}
use Rattle.remora.specs.Algebras.{Meaning, Assigned, gives, fails}
use Rattle.remora.specs.Formulas.{ArrayType, no_type, Entry, Function, primitive, formula, fold, append, reversal, cells, TypedLine, literal, parameter, frame, application, type_of, last_or}

-- ---- lists of items

-- Split: n pieces of k items. The pieces are counted, since k may be 0.
abbrev pub split : {X : Type 0} → ℕ → ℕ → List X → List (List X)
split zero k xs = []
split (suc n) k xs = take k xs ∷ split n k (drop k xs)

-- Rep: each piece r times, one after the other.
abbrev pub rep : {X : Type 0} → ℕ → List X → List X
rep r [] = []
rep r (x ∷ xs) = replicate r x ++ rep r xs

-- Concat: the pieces one behind the other.
abbrev pub concat : {X : Type 0} → List (List X) → List X
concat [] = []
concat (x ∷ xs) = x ++ concat xs

-- ---- arrays and outcomes; items X are codes, and in proofs also samples

-- An array has a type and its items in row-major order.
pub record Array (X : Type 0) : Type 0 where
  pub type : ArrayType
  pub items : List X

-- The array of this type with these items.
abbrev pub array_of : {X : Type 0} → ArrayType → List X → Array X
array_of t xs = record { type = t; items = xs }

-- What a read past the end of a list of arrays stands for.
abbrev pub no_array : {X : Type 0} → Array X
no_array = array_of no_type []

-- The items of array number i.
abbrev pub items_at : {X : Type 0} → List (Array X) → ℕ → List X
items_at ts i = (get_or ts i no_array).items

-- A fault: its cause, the formula, line and cell, and the operator with the operands that it was applied to there.
pub record Fault (X : Type 0) : Type 0 where
  pub cause : ℕ
  pub formula : ℕ
  pub line : ℕ
  pub cell : ℕ
  pub operator : ℕ
  pub operands : List X

-- The outcome of an evaluation: the items of an array, or a fault.
pub data Outcome (X : Type 0) : Type 0 where
  yields : List X → Outcome X
  faults : Fault X → Outcome X

-- The cells of a line so far: all of them, or those before a fault.
pub data Cells (X : Type 0) : Type 0 where
  all : List X → Cells X
  upto : List X → Fault X → Cells X

-- What applying operators within one cell comes to: a value, or a cause with the operator and its operands.
pub data Attempt (X Y : Type 0) : Type 0 where
  value : Y → Attempt X Y
  failed : (cause operator : ℕ) (operands : List X) → Attempt X Y

-- The value handed on, or the cause.
abbrev pub and_then : {X Y Z : Type 0} → Attempt X Y → (Y → Attempt X Z) → Attempt X Z
and_then (value y) k = k y
and_then (failed e o xs) k = failed e o xs

-- What is done with items: apply an operator, give its unit, make the item of a base type's code.
pub record Operations (X : Type 0) : Type 0 where
  pub apply : ℕ → List X → Attempt X X
  pub unit : ℕ → X
  pub item : ℕ → ℕ → X

-- What an operator assigns to codes, as an attempt.
abbrev pub attempted : ℕ → List ℕ → Assigned → Attempt ℕ ℕ
attempted o cs (gives c) = value c
attempted o cs (fails e) = failed e o cs

-- The code of a unit.
abbrev pub unit_code : Option ℕ → ℕ
unit_code None = 0
unit_code (Some u) = u

-- The operations on codes that an algebra's meaning gives.
abbrev pub on_codes : Meaning → Operations ℕ
on_codes m = record { apply = λ o cs. attempted o cs (m.assign o cs); unit = λ o. unit_code (m.operator o).unit; item = λ b c. c }

-- ---- lift

-- How often a cell of a shape is repeated: the size of the axes of the principal frame p that its frame lacks.
abbrev pub repeats : Shape → Shape → Shape → ℕ
repeats p cell s = size (drop (length s - length cell) p)

-- Lift: the cells of an operand, each repeated in place, so that there are as many as the principal frame has.
abbrev pub lift : {X : Type 0} → Shape → Shape → Shape → List X → List (List X)
lift p cell s xs = rep (repeats p cell s) (split (size (frame_of cell s)) (size cell) xs)

-- Cell c of a lifted operand.
abbrev pub cell_at : {X : Type 0} → Shape → ArrayType → Array X → ℕ → Array X
cell_at p w a c = array_of w (slice_index_or (lift p w.shape a.type.shape a.items) c [])

-- Cell c of each operand of a line; env has the arrays of the earlier lines.
abbrev pub cells_at : {X : Type 0} → List (Array X) → Shape → ℕ → List ArrayType → List ℕ → List (Array X)
cells_at env p c [] os = []
cells_at env p c (w ∷ ws) [] = []
cells_at env p c (w ∷ ws) (o ∷ os) = cell_at p w (slice_index_or env o no_array) c ∷ cells_at env p c ws os

-- ---- functions on one cell

-- The first item of each operand.
abbrev pub firsts : {X : Type 0} → List (Array X) → List X
firsts [] = []
firsts (a ∷ ts) = take 1 a.items ++ firsts ts

-- Two items combined place by place.
abbrev pub combined : {X : Type 0} → Operations X → ℕ → List X → List X → Attempt X (List X)
combined O o [] ys = value []
combined O o (x ∷ xs) [] = value []
combined O o (x ∷ xs) (y ∷ ys) = and_then (O.apply o (x ∷ y ∷ [])) (λ z. and_then (combined O o xs ys) (λ zs. value (z ∷ zs)))

-- Items combined from the left, onto the first.
abbrev pub fold_from : {X : Type 0} → Operations X → ℕ → List X → List (List X) → Attempt X (List X)
fold_from O o first [] = value first
fold_from O o first (x ∷ xs) = and_then (combined O o first x) (λ z. fold_from O o z xs)

-- A fold of items of k places; without an item it is the unit at each place.
abbrev pub folded : {X : Type 0} → Operations X → ℕ → ℕ → List (List X) → Attempt X (List X)
folded O o k [] = value (replicate k (O.unit o))
folded O o k (x ∷ xs) = fold_from O o x xs

-- An attempt within a cell, as the outcome of the cell.
abbrev pub told : {X : Type 0} → ℕ → ℕ → ℕ → Attempt X (List X) → Outcome X
told g l c (value xs) = yields xs
told g l c (failed e o xs) = faults (record { cause = e; formula = g; line = l; cell = c; operator = o; operands = xs })

-- A function applied to one cell of each operand, at cell c of line l of formula g; V evaluates a formula by its number.
abbrev pub apply_cell : {X : Type 0} → Operations X → (ℕ → List (Array X) → Outcome X) → ℕ → ℕ → ℕ → Function → List (Array X) → Outcome X
apply_cell O V g l c (primitive o) ts = told g l c (and_then (O.apply o (firsts ts)) (λ z. value (z ∷ [])))
apply_cell O V g l c (formula h) ts = V h ts
apply_cell O V g l c (fold o b n d) ts = told g l c (folded O o (size d) (split n (size d) (items_at ts 0)))
apply_cell O V g l c (append b k n d) ts = yields (items_at ts 0 ++ items_at ts 1)
apply_cell O V g l c (reversal b n d) ts = yields (concat (reverse (split n (size d) (items_at ts 0))))

-- ---- map and collapse

-- Items before the cells that follow.
abbrev pub before : {X : Type 0} → List X → Cells X → Cells X
before xs (all ys) = all (xs ++ ys)
before xs (upto ys x) = upto (xs ++ ys) x

-- Collapse: a cell's items stand before those of the cells that follow; a fault ends the line.
abbrev pub collapse : {X : Type 0} → Outcome X → Cells X → Cells X
collapse (yields xs) rest = before xs rest
collapse (faults x) rest = upto [] x

-- Map: a function of the cell's number, over n cells from c on in rising order, collapsed.
abbrev pub map_cells : {X : Type 0} → (ℕ → Outcome X) → ℕ → ℕ → Cells X
map_cells f c zero = all []
map_cells f c (suc n) = collapse (f c) (map_cells f (suc c) n)

-- The operands of a frame line, one behind the other.
abbrev pub joined : {X : Type 0} → List (Array X) → List ℕ → List X
joined env [] = []
joined env (o ∷ os) = items_at env o ++ joined env os

-- ---- lines

-- A line of formula g, on the formula's arguments and the arrays of its earlier lines.
unfoldable pub eval_line : {X : Type 0} → Meaning → Operations X → (ℕ → Entry) → (ℕ → List (Array X) → Outcome X) → ℕ → List (Array X) → List (Array X) → TypedLine → Cells X
eval_line m O E V g args env (literal t cs) = all (map (O.item t.base) cs)
eval_line m O E V g args env (parameter k t) = all (items_at args k)
eval_line m O E V g args env (frame os p t) = all (joined env os)
eval_line m O E V g args env (application f os p t) = map_cells (λ c. apply_cell O V g (length env) c f (cells_at env p c (cells m E f) os)) 0 (size p)

-- The rest of the lines once one is evaluated, or its fault.
abbrev pub onward : {X : Type 0} → Cells X → (List X → Outcome X) → Outcome X
onward (all xs) k = k xs
onward (upto xs x) k = faults x

-- The lines of formula g in rising order; the last is the result.
unfoldable pub eval_lines : {X : Type 0} → Meaning → Operations X → (ℕ → Entry) → (ℕ → List (Array X) → Outcome X) → ℕ → List (Array X) → List (Array X) → List TypedLine → Outcome X
eval_lines m O E V g args env [] = yields (last_or no_array env).items
eval_lines m O E V g args env (r ∷ rs) =
    onward (eval_line m O E V g args env r) (λ xs. eval_lines m O E V g args (env ++ array_of (type_of r) xs ∷ []) rs)
