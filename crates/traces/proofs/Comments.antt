-- Whether a line is a comment, by its first byte that is no blank and no tab.
use Rattle.std.proofs.Common.{◌≡◌, ℕ, Bool, true, false, cond, not, List, [], ◌∷◌, Some, None, Option, ◌==◌, refl}
use Rattle.std.specs.List.{find}
use Rattle.traces.specs.Texts.{comment, indents}

-- A byte that may be wanting is `#`.
abbrev pub is_hash : Option ℕ → Bool
is_hash None = false
is_hash (Some b) = b == 35

-- A byte that indents leaves it to the rest, and any other decides.
step : (indent : Bool) (b : ℕ) (rest : Bool) (first : Option ℕ) → rest ≡ is_hash first → cond indent rest (b == 35) ≡ is_hash (cond (not indent) (Some b) first)
step true b rest first e = e
step false b rest first e = refl

-- The first byte that does not indent decides.
pub comment_found : (bs : List ℕ) → comment bs ≡ is_hash (find (λ b. not (indents b)) bs)
comment_found [] = refl
comment_found (b ∷ bs) = step (indents b) b (comment bs) (find (λ b. not (indents b)) bs) (comment_found bs)
