-- The step machine on one flat store of samples, stated by what a step reads and writes.
use Rattle.std.specs.Prelude.{ℕ, zero, suc, ◌+◌, ◌*◌, ◌/◌, Bool, true, false, cond, List, [], ◌∷◌, ◌++◌, map, reverse, length, get_or, take, drop, replicate, Some, None, Option, nat_lt, slice_index, slice_index_or}
use Rattle.remora.specs.Shapes.{Shape, size}
use Rattle.remora.specs.Algebras.{Sample, sample_of, Meaning, Applied}
use Rattle.remora.specs.Algebras as algebras
use Rattle.remora.specs.Formulas.{ArrayType, no_type, Kind, a_literal, a_parameter, a_frame, an_operator, a_call, a_fold, an_append, a_reverse, no_kind, Entry, Function, primitive, formula, fold, append, reversal, cells, TypedLine, literal, parameter, frame, application, type_of, last_or}
use Rattle.remora.specs.Questions.{type_at}
use Rattle.remora.specs.Forecasts.{atoms}
use Rattle.remora.specs.Evaluation.{split, concat, repeats, Attempt, value, failed, and_then, Operations, folded, Fault, Outcome, yields, Cells, all, upto, told, map_cells}

-- ---- the plan of a formula: what a run looks up of its lines, in numbers

-- An operand of a line: the earlier line, how often each of its cells is repeated, and the atoms of a cell.
pub record Operand : Type 0 where
  pub line : ℕ
  pub repeats : ℕ
  pub size : ℕ

-- The plan of a line: its kind and function, its operands, its number of cells, the items of a cell and the atoms of an item, its type, its offset behind the base place, a literal's codes.
pub record Plan : Type 0 where
  pub kind : Kind
  pub function : ℕ
  pub operands : List Operand
  pub cells : ℕ
  pub items : ℕ
  pub item : ℕ
  pub type : ArrayType
  pub offset : ℕ
  pub codes : List ℕ

-- What a read past the end of a plan stands for.
abbrev pub no_plan : Plan
no_plan = record { kind = a_literal; function = 0; operands = []; cells = 0; items = 0; item = 0; type = no_type; offset = 0; codes = [] }

-- The operands of an application with principal frame p, by the types of the earlier lines.
abbrev pub operands_of : List ArrayType → Shape → List ArrayType → List ℕ → List Operand
operands_of types p [] os = []
operands_of types p (w ∷ ws) [] = []
operands_of types p (w ∷ ws) (o ∷ os) =
    record { line = o; repeats = repeats p w.shape (type_at types o).shape; size = size w.shape } ∷ operands_of types p ws os

-- The operands of a frame line: each is one cell.
abbrev pub frame_operands : Shape → List ℕ → List Operand
frame_operands cell [] = []
frame_operands cell (o ∷ os) = record { line = o; repeats = 1; size = size cell } ∷ frame_operands cell os

-- The kind of line that applies a function.
abbrev pub kind_for : Function → Kind
kind_for (primitive o) = an_operator
kind_for (formula g) = a_call
kind_for (fold o b n d) = a_fold
kind_for (append b k n d) = an_append
kind_for (reversal b n d) = a_reverse

-- The number of the operator or formula.
abbrev pub number_of : Function → ℕ
number_of (primitive o) = o
number_of (formula g) = g
number_of (fold o b n d) = o
number_of (append b k n d) = 0
number_of (reversal b n d) = 0

-- The items of a first cell.
abbrev pub items_of : Function → ℕ
items_of (primitive o) = 0
items_of (formula g) = 0
items_of (fold o b n d) = n
items_of (append b k n d) = k
items_of (reversal b n d) = n

-- The atoms of an item.
abbrev pub item_of : Function → ℕ
item_of (primitive o) = 0
item_of (formula g) = 0
item_of (fold o b n d) = size d
item_of (append b k n d) = size d
item_of (reversal b n d) = size d

-- The plan of a typed line that comes after lines of these types and lies at this offset.
abbrev pub plan_of : Meaning → (ℕ → Entry) → List ArrayType → ℕ → TypedLine → Plan
plan_of m E types q (literal t cs) = record { kind = a_literal; function = 0; operands = []; cells = 0; items = 0; item = 0; type = t; offset = q; codes = cs }
plan_of m E types q (parameter k t) = record { kind = a_parameter; function = k; operands = []; cells = 0; items = 0; item = 0; type = t; offset = q; codes = [] }
plan_of m E types q (frame os p t) =
    record { kind = a_frame; function = length p; operands = frame_operands (drop (length p) t.shape) os; cells = length os; items = 0; item = 0; type = t; offset = q; codes = [] }
plan_of m E types q (application f os p t) =
    record { kind = kind_for f; function = number_of f; operands = operands_of types p (cells m E f) os; cells = size p; items = items_of f; item = item_of f; type = t; offset = q; codes = [] }

-- The plan of typed lines that come after lines of these types and lie from this offset on.
abbrev pub plans : Meaning → (ℕ → Entry) → List ArrayType → ℕ → List TypedLine → List Plan
plans m E types q [] = []
plans m E types q (r ∷ rs) = plan_of m E types q r ∷ plans m E (types ++ type_of r ∷ []) (q + atoms r) rs

-- ---- the store

-- n samples of the store from place p on.
abbrev pub part : {X : Type 0} → List X → ℕ → ℕ → List X
part S p n = take n (drop p S)

-- The store with items written from place p on.
abbrev pub put : {X : Type 0} → List X → ℕ → List X → List X
put S p xs = take p S ++ (xs ++ drop (p + length xs) S)

-- An activation: its formula, its base place, the places of its parameters, its next line and the finished cells of that line.
pub data Activation : Type 0 where
  activation : (formula base : ℕ) (parameters : List ℕ) (next finished : ℕ) → Activation

-- A plan is that of a parameter line.
abbrev pub is_parameter : Kind → Bool
is_parameter a_literal = false
is_parameter a_parameter = true
is_parameter a_frame = false
is_parameter an_operator = false
is_parameter a_call = false
is_parameter a_fold = false
is_parameter an_append = false
is_parameter a_reverse = false
is_parameter no_kind = false

-- Where a line with this plan lies: a parameter line at its parameter, any other behind the base place.
abbrev pub place_of : ℕ → List ℕ → Plan → ℕ
place_of base ps x = cond (is_parameter x.kind) (slice_index ps x.function) (base + x.offset)

-- Where the cells of an operand lie: the place of its array, the repeats and the atoms of a cell.
pub record Source : Type 0 where
  pub place : ℕ
  pub repeats : ℕ
  pub size : ℕ

-- The sources of a line's operands, in an activation of a formula with these plans.
abbrev pub sources : List Plan → ℕ → List ℕ → List Operand → List Source
sources lines base ps [] = []
sources lines base ps (x ∷ xs) =
    record { place = place_of base ps (slice_index_or lines x.line no_plan); repeats = x.repeats; size = x.size } ∷ sources lines base ps xs

-- What a read past the end of a list of sources stands for.
abbrev pub no_source : Source
no_source = record { place = 0; repeats = 0; size = 0 }

-- Where cell c of an operand lies.
abbrev pub cell_place : Source → ℕ → ℕ
cell_place s c = s.place + (c / s.repeats) * s.size

-- Where cell c of each operand lies.
abbrev pub cell_places : List Source → ℕ → List ℕ
cell_places [] c = []
cell_places (s ∷ ss) c = cell_place s c ∷ cell_places ss c

-- ---- operations on samples

-- What a read past the end of the store stands for.
abbrev pub no_sample : Sample
no_sample = sample_of 0 0

-- An operator applied to samples, as an attempt.
abbrev pub sampled : ℕ → List Sample → Applied → Attempt Sample Sample
sampled o ss (algebras.value s) = value s
sampled o ss (algebras.cause e) = failed e o ss

-- The sample of a unit.
abbrev pub unit_sample : ℕ → Option ℕ → Sample
unit_sample b None = no_sample
unit_sample b (Some u) = sample_of b u

-- The operations on samples that an algebra's meaning gives; cause 0 comes from samples of other base types.
abbrev pub on_samples : Meaning → Operations Sample
on_samples m = record { apply = λ o ss. sampled o ss (algebras.applied m o ss); unit = λ o. unit_sample (m.operator o).result (m.operator o).unit; item = sample_of }

-- ---- settling a line, cell by cell; g and l are the formula and the line

-- The first sample of cell c of each operand.
abbrev pub gathered : List Sample → List Source → ℕ → List Sample
gathered S [] c = []
gathered S (s ∷ ss) c = slice_index_or S (cell_place s c) no_sample ∷ gathered S ss c

-- Cell c of an operator line.
unfoldable pub operator_cell : Meaning → ℕ → ℕ → ℕ → List Source → List Sample → ℕ → Outcome Sample
operator_cell m o g l ss S c = told g l c (and_then ((on_samples m).apply o (gathered S ss c)) (λ z. value (z ∷ [])))

-- The unit of an operator, if it is known and has one.
abbrev pub unit_of : Meaning → ℕ → Option ℕ
unit_of m o = cond (nat_lt o m.operators) (m.operator o).unit None

-- The unit at each of k places, or cause 0 if there is none.
abbrev pub unit_places : ℕ → ℕ → ℕ → Option ℕ → Attempt Sample (List Sample)
unit_places o b k None = failed 0 o []
unit_places o b k (Some u) = value (replicate k (sample_of b u))

-- A fold of n items of k samples each.
abbrev pub fold_samples : Meaning → ℕ → ℕ → ℕ → List Sample → Attempt Sample (List Sample)
fold_samples m o zero k xs = unit_places o (m.operator o).result k (unit_of m o)
fold_samples m o (suc n) k xs = folded (on_samples m) o k (split (suc n) k xs)

-- Cell c of a fold line over n items of k samples each.
unfoldable pub fold_cell : Meaning → ℕ → ℕ → ℕ → ℕ → ℕ → Source → List Sample → ℕ → Outcome Sample
fold_cell m o n k g l s S c = told g l c (fold_samples m o n k (part S (cell_place s c) (n * k)))

-- Cell c of an append line: the cell of the first operand, then that of the second.
unfoldable pub append_cell : Source → Source → List Sample → ℕ → Outcome Sample
append_cell s t S c = yields (part S (cell_place s c) s.size ++ part S (cell_place t c) t.size)

-- Cell c of a reverse line: n items of k samples each, last first.
unfoldable pub reverse_cell : Source → ℕ → ℕ → List Sample → ℕ → Outcome Sample
reverse_cell s n k S c = yields (concat (reverse (split n k (part S (cell_place s c) (n * k)))))

-- The cells of a frame line: each operand's one cell.
abbrev pub frame_cells : List Sample → List Source → List Sample
frame_cells S [] = []
frame_cells S (s ∷ ss) = part S s.place s.size ++ frame_cells S ss

-- What a line of this kind that is no parameter and no call writes, from the samples that it finds in the store.
abbrev pub settled : Meaning → ℕ → ℕ → Plan → List Source → List Sample → Kind → Cells Sample
settled m g l x ss S a_literal = all (map (sample_of x.type.base) x.codes)
settled m g l x ss S a_parameter = all []
settled m g l x ss S a_frame = all (frame_cells S ss)
settled m g l x ss S an_operator = map_cells (operator_cell m x.function g l ss S) 0 x.cells
settled m g l x ss S a_call = all []
settled m g l x ss S a_fold = map_cells (fold_cell m x.function x.items x.item g l (slice_index_or ss 0 no_source) S) 0 x.cells
settled m g l x ss S an_append = map_cells (append_cell (slice_index_or ss 0 no_source) (slice_index_or ss 1 no_source) S) 0 x.cells
settled m g l x ss S a_reverse = map_cells (reverse_cell (slice_index_or ss 0 no_source) x.items x.item S) 0 x.cells
settled m g l x ss S no_kind = all []

-- ---- one step

-- A store and the activations of a run, the one at work first.
pub data Snapshot : Type 0 where
  at : List Sample → List Activation → Snapshot

-- What a step comes to: more steps to do, done with the place of the result, a fault, or nothing at work.
pub data Progress : Type 0 where
  more : Snapshot → Progress
  done : List Sample → (place : ℕ) → Progress
  faulted : Snapshot → Fault Sample → Progress
  idle : Progress

-- a if the test says so, else b.
unfoldable pub choose : {Z : Type 0} → Bool → Z → Z → Z
choose true a b = a
choose false a b = b

-- A settled line: its cells are written from place q on; the line is left behind, or at a fault kept.
unfoldable pub settle : List Sample → ℕ → Activation → Activation → List Activation → Cells Sample → Progress
settle S q here next below (all xs) = more (at (put S q xs) (next ∷ below))
settle S q here next below (upto xs x) = faulted (at (put S q xs) (here ∷ below)) x

-- The result of an activation, n samples at place q, is copied to where the caller's call line wants its next cell; if there is no caller, the run is done. F has the plans of the formulas by number.
unfoldable pub return : (ℕ → List Plan) → List Sample → ℕ → ℕ → List Activation → Progress
return F S q n [] = done S q
return F S q n (activation g b ps k c ∷ below) =
    more (at (put S (b + (get_or (F g) k no_plan).offset + c * n) (part S q n)) (activation g b ps k (suc c) ∷ below))

-- A step at a line of this kind: a call begins the activation of its next cell, if there is one, based behind the line's atoms; other lines are settled.
unfoldable pub step_line : Meaning → (ℕ → List Plan) → List Sample → ℕ → ℕ → List ℕ → ℕ → ℕ → List Activation → Plan → Kind → Progress
step_line m F S g b ps k c below x a_literal = settle S (b + x.offset) (activation g b ps k c) (activation g b ps (suc k) 0) below (settled m g k x (sources (F g) b ps x.operands) S a_literal)
step_line m F S g b ps k c below x a_parameter = more (at S (activation g b ps (suc k) 0 ∷ below))
step_line m F S g b ps k c below x a_frame = settle S (b + x.offset) (activation g b ps k c) (activation g b ps (suc k) 0) below (settled m g k x (sources (F g) b ps x.operands) S a_frame)
step_line m F S g b ps k c below x an_operator = settle S (b + x.offset) (activation g b ps k c) (activation g b ps (suc k) 0) below (settled m g k x (sources (F g) b ps x.operands) S an_operator)
step_line m F S g b ps k c below x a_call =
    choose (nat_lt c x.cells)
    (more (at S (activation x.function (b + x.offset + size x.type.shape) (cell_places (sources (F g) b ps x.operands) c) 0 0 ∷ activation g b ps k c ∷ below)))
    (more (at S (activation g b ps (suc k) 0 ∷ below)))
step_line m F S g b ps k c below x a_fold = settle S (b + x.offset) (activation g b ps k c) (activation g b ps (suc k) 0) below (settled m g k x (sources (F g) b ps x.operands) S a_fold)
step_line m F S g b ps k c below x an_append = settle S (b + x.offset) (activation g b ps k c) (activation g b ps (suc k) 0) below (settled m g k x (sources (F g) b ps x.operands) S an_append)
step_line m F S g b ps k c below x a_reverse = settle S (b + x.offset) (activation g b ps k c) (activation g b ps (suc k) 0) below (settled m g k x (sources (F g) b ps x.operands) S a_reverse)
step_line m F S g b ps k c below x no_kind = idle

-- One step of the activation at work: at its next line, or its return if no line is left.
unfoldable pub step : Meaning → (ℕ → List Plan) → Snapshot → Progress
step m F (at S []) = idle
step m F (at S (activation g b ps k c ∷ below)) =
    choose (nat_lt k (length (F g)))
    (step_line m F S g b ps k c below (slice_index_or (F g) k no_plan) (get_or (F g) k no_plan).kind)
    (return F S (place_of b ps (last_or no_plan (F g))) (size (last_or no_plan (F g)).type.shape) below)
