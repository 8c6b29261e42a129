-- Forecasts of a formula: its steps, its room and its depth.
use Rattle.std.specs.Prelude.{ℕ, zero, suc, ◌+◌, ◌*◌, max, Bool, ◌&&◌, List, [], ◌∷◌, nat_le}
use Rattle.remora.specs.Shapes.{size}
use Rattle.remora.specs.Formulas.{ArrayType, Entry, Function, primitive, formula, fold, append, reversal, TypedLine, literal, parameter, frame, application, result_type}

-- The atoms that a line takes in the store: the size of its type, none for a parameter.
abbrev pub atoms : TypedLine → ℕ
atoms (literal t cs) = size t.shape
atoms (parameter k t) = 0
atoms (frame os p t) = size t.shape
atoms (application f os p t) = size t.shape

-- The steps of an application over this many cells: one, and for each cell of a call one more and the formula's.
abbrev pub function_steps : (ℕ → Entry) → Function → ℕ → ℕ
function_steps E (primitive o) cells = 1
function_steps E (formula g) cells = 1 + cells * (1 + (E g).steps)
function_steps E (fold o b n d) cells = 1
function_steps E (append b k n d) cells = 1
function_steps E (reversal b n d) cells = 1

-- The steps of a line.
abbrev pub line_steps : (ℕ → Entry) → TypedLine → ℕ
line_steps E (literal t cs) = 1
line_steps E (parameter k t) = 1
line_steps E (frame os p t) = 1
line_steps E (application f os p t) = function_steps E f (size p)

-- The steps of lines.
abbrev pub lines_steps : (ℕ → Entry) → List TypedLine → ℕ
lines_steps E [] = 0
lines_steps E (r ∷ rs) = line_steps E r + lines_steps E rs

-- k, but 0 if there is no cell.
abbrev pub if_any : ℕ → ℕ → ℕ
if_any zero k = 0
if_any (suc n) k = k

-- The room that a function takes behind the line that applies it, over this many cells.
abbrev pub function_room : (ℕ → Entry) → Function → ℕ → ℕ
function_room E (primitive o) cells = 0
function_room E (formula g) cells = if_any cells (E g).room
function_room E (fold o b n d) cells = 0
function_room E (append b k n d) cells = 0
function_room E (reversal b n d) cells = 0

-- The room that a line takes behind its atoms.
abbrev pub callee_room : (ℕ → Entry) → TypedLine → ℕ
callee_room E (literal t cs) = 0
callee_room E (parameter k t) = 0
callee_room E (frame os p t) = 0
callee_room E (application f os p t) = function_room E f (size p)

-- The room of lines that begin at place q: the greatest, over the lines, of the atoms up to it and its callee's room.
abbrev pub room_from : (ℕ → Entry) → ℕ → List TypedLine → ℕ
room_from E q [] = q
room_from E q (r ∷ rs) = max (q + atoms r + callee_room E r) (room_from E (q + atoms r) rs)

-- The depth of a function: that of the formula that it calls, also where there is no cell.
abbrev pub function_depth : (ℕ → Entry) → Function → ℕ
function_depth E (primitive o) = 0
function_depth E (formula g) = (E g).depth
function_depth E (fold o b n d) = 0
function_depth E (append b k n d) = 0
function_depth E (reversal b n d) = 0

-- The depth of a line.
abbrev pub line_depth : (ℕ → Entry) → TypedLine → ℕ
line_depth E (literal t cs) = 0
line_depth E (parameter k t) = 0
line_depth E (frame os p t) = 0
line_depth E (application f os p t) = function_depth E f

-- The greatest depth that lines call.
abbrev pub deepest : (ℕ → Entry) → List TypedLine → ℕ
deepest E [] = 0
deepest E (r ∷ rs) = max (line_depth E r) (deepest E rs)

-- What is known of a formula with these parameters and typed lines.
abbrev pub entry_of : (ℕ → Entry) → List ArrayType → List TypedLine → Entry
entry_of E ps rs = record { parameters = ps; result = result_type rs; steps = 1 + lines_steps E rs; room = room_from E 0 rs; depth = 1 + deepest E rs }

-- Steps, room and depth are within the limits.
abbrev pub limited : ℕ → ℕ → ℕ → Bool
limited steps room depth = nat_le steps 4294967295 && (nat_le room 1048576 && nat_le depth 16)

-- The forecasts of a formula are within the limits.
abbrev pub within_limits : Entry → Bool
within_limits e = limited e.steps e.room e.depth
