-- The list of axes behind a shape of the code, and the answers that are stated by it.
use Rattle.std.specs.Prelude.{◌≡◌, ℕ, ◌+◌, ◌-◌, ◌*◌, ◌<◌, ◌≤◌, max, true, false, List, [], ◌∷◌, ◌++◌, length, take, replicate, Some, None, Option, nat_lt}
use Rattle.remora.specs.Shapes.{allowed, ends, frame_of, comparable, longer}
use Rattle.remora.specs.Formulas as formulas
use Rattle.shapes.specs.declared.Shape.{Shape}
use Rattle.shapes.specs.declared.ArrayType.{ArrayType}

-- The axes of a shape.
abbrev pub dims : Shape → List ℕ
dims s = take s.rank s.axes

-- The shape that has these axes, four at most: the places behind them are 0.
abbrev pub shape_of : List ℕ → Shape
shape_of xs = record { axes = xs ++ replicate (4 - length xs) 0; rank = length xs }

-- The array type of the theory that an array type of the code stands for.
abbrev pub array_type : ArrayType → formulas.ArrayType
array_type t = formulas.shaped t.base (dims t.shape)

-- The product of axes of which each counts as n if it is less: the size at 0, the extent at 1.
abbrev pub volume : ℕ → List ℕ → ℕ
volume n [] = 1
volume n (x ∷ xs) = max n x * volume n xs

-- A shape is made of axes exactly when there are at most four of them, and it has these.
abbrev pub Made : List ℕ → Option Shape → Type 0
Made xs None = 4 < length xs
Made xs (Some s) = (length xs ≤ 4) × (s ≡ shape_of xs) × (dims s ≡ xs)

-- A shape is checked of exactly the axes of an allowed shape, and it has these.
abbrev pub Checked : List ℕ → Option Shape → Type 0
Checked xs None = allowed xs ≡ false
Checked xs (Some s) = (allowed xs ≡ true) × (s ≡ shape_of xs) × (dims s ≡ xs)

-- The frame before a cell is told exactly of a shape that ends in the cell.
abbrev pub Framed : List ℕ → List ℕ → Option Shape → Type 0
Framed cell s None = ends cell s ≡ false
Framed cell s (Some f) = (ends cell s ≡ true) × (f ≡ shape_of (frame_of cell s)) × (dims f ≡ frame_of cell s)

-- Two frames are joined exactly where one is a prefix of the other, and their join is the longer of them.
abbrev pub Joined : List ℕ → List ℕ → Option Shape → Type 0
Joined f g None = comparable f g ≡ false
Joined f g (Some s) = (comparable f g ≡ true) × (dims s ≡ longer (nat_lt (length f) (length g)) f g)

-- The axes of a frame and then of a cell are put together exactly where they are at most four.
abbrev pub Followed : List ℕ → List ℕ → Option Shape → Type 0
Followed frame cell None = 4 < length frame + length cell
Followed frame cell (Some s) = (length frame + length cell ≤ 4) × (s ≡ shape_of (frame ++ cell)) × (dims s ≡ frame ++ cell)
