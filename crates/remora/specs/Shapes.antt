-- Shapes, the prefix order on them, frames before a cell, agreement of frames and the principal frame.
use Rattle.std.specs.Prelude.{◌≡◌, ℕ, ◌-◌, ◌*◌, max, Bool, true, false, ◌&&◌, ◌||◌, List, [], ◌∷◌, ◌++◌, length, take, drop, ◌==◌, nat_le, nat_lt}

-- A shape is the list of its axes.
abbrev pub Shape : Type 0
Shape = List ℕ

-- The size of a shape is the product of its axes, 1 for the empty shape.
abbrev pub size : Shape → ℕ
size [] = 1
size (x ∷ xs) = x * size xs

-- The extent of a shape is that product with an axis of 0 counted as 1.
abbrev pub extent : Shape → ℕ
extent [] = 1
extent (x ∷ xs) = max 1 x * extent xs

-- A shape is allowed if it has at most 4 axes and an extent of at most 65,536.
abbrev pub allowed : Shape → Bool
allowed s = nat_le (length s) 4 && nat_le (extent s) 65536

-- ---- the prefix order

-- f is a prefix of s.
abbrev pub Prefix : Shape → Shape → Type 0
Prefix f s = (rest : Shape) × (s ≡ f ++ rest)

-- Two shapes are the same, tested axis by axis.
abbrev pub same : Shape → Shape → Bool
same [] [] = true
same [] (y ∷ ys) = false
same (x ∷ xs) [] = false
same (x ∷ xs) (y ∷ ys) = x == y && same xs ys

-- f is a prefix of s, tested axis by axis.
abbrev pub begins : Shape → Shape → Bool
begins [] s = true
begins (x ∷ f) [] = false
begins (x ∷ f) (y ∷ s) = x == y && begins f s

-- ---- frames

-- A shape ends in a cell if its last axes are the cell's.
abbrev pub ends : Shape → Shape → Bool
ends cell s = nat_le (length cell) (length s) && same (drop (length s - length cell) s) cell

-- The frame of a shape is what stands before the cell.
abbrev pub frame_of : Shape → Shape → Shape
frame_of cell s = take (length s - length cell) s

-- Two frames compare when one is a prefix of the other.
abbrev pub comparable : Shape → Shape → Bool
comparable f g = begins f g || begins g f

-- A frame agrees with each of these.
abbrev pub agree_with : Shape → List Shape → Bool
agree_with f [] = true
agree_with f (g ∷ fs) = comparable f g && agree_with f fs

-- Frames agree when every pair of them compares.
abbrev pub agree : List Shape → Bool
agree [] = true
agree (f ∷ fs) = agree_with f fs && agree fs

-- The second of two frames if the test says so, else the first.
abbrev pub longer : Bool → Shape → Shape → Shape
longer true f g = g
longer false f g = f

-- The principal frame is the longest, the empty shape if there is none.
abbrev pub principal : List Shape → Shape
principal [] = []
principal (f ∷ fs) = longer (nat_lt (length f) (length (principal fs))) f (principal fs)

-- p is an upper bound of the frames in the prefix order.
abbrev pub Bounds : Shape → List Shape → Type 0
Bounds p [] = Unit {0}
Bounds p (f ∷ fs) = Prefix f p × Bounds p fs

-- p is the join of the frames: their least upper bound in the prefix order.
pub record Join (fs : List Shape) (p : Shape) : Type 0 where
  pub upper : Bounds p fs
  pub least : (q : Shape) → Bounds q fs → Prefix p q
