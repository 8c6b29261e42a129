-- Cells in a frame: where they have too many axes, the whole is not allowed.
use Rattle.std.proofs.Common.{◌≡◌, ℕ, ◌+◌, ◌<◌, false, leb, List, ◌++◌, length, arith, length-append}
use Rattle.std.proofs.lemmas.Bool.{and_left, lt-leb}
use Rattle.remora.specs.Shapes.{extent, allowed}

pub too_long : (p d : List ℕ) → 4 < length p + length d → allowed (p ++ d) ≡ false
too_long p d h = and_left (leb (length (p ++ d)) 4) (leb (extent (p ++ d)) 65536) (lt-leb (length (p ++ d)) 4 (omega (arith, length-append p d)))
