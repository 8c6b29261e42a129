-- The tests of the prefix order as the library's tests on slices.
use Rattle.std.proofs.Common.{◌≡◌, ◌≢◌, ℕ, suc, ◌-◌, ◌<◌, ◌≤◌, Bool, false, ◌&&◌, eqb, leb, List, [], ◌∷◌, length, take, drop, sym, refl, ap, ◌∙◌, inl, inr, arith, length-drop}
use Rattle.std.specs.Cmp.Lexicographic.{pointwise}
use Rattle.std.specs.List.{list_all}
use Rattle.std.specs.Prelude.{zip}
use Rattle.std.proofs.lemmas.Bool.{and_left, and_right, le-leb, lt-leb, cases_lt}
use Rattle.remora.specs.Shapes.{same, begins, ends}
use Rattle.shapes.specs.Equality.{same_is, same_equiv}

-- Shapes of other lengths are not the same.
pub same_uneven : (a b : List ℕ) → (length a ≡ length b → ⊥) → same a b ≡ false
same_uneven [] [] h = absurd (h refl)
same_uneven [] (y ∷ b) h = refl
same_uneven (x ∷ a) [] h = refl
same_uneven (x ∷ a) (y ∷ b) h = and_right (eqb x y) (same a b) (same_uneven a b (λ e. h (ap suc e)))

-- A shape begins another as a slice starts with one.
pub begins_is : (f s : List ℕ) → pointwise eqb f (take (length f) s) ≡ begins f s
begins_is [] s = refl
begins_is (x ∷ f) [] = refl
begins_is (x ∷ f) (y ∷ s) = ap (λ (t : Bool). eqb x y && t) (begins_is f s)

-- A shape begins one that is no shorter where each of its axes is that beside it.
pub begins_zip : (f s : List ℕ) → length f ≤ length s → list_all (λ (p : ℕ × ℕ). eqb p.0 p.1) (zip f s) ≡ begins f s
begins_zip [] [] h = refl
begins_zip [] (y ∷ s) h = refl
begins_zip (x ∷ f) [] h = absurd (omega arith)
begins_zip (x ∷ f) (y ∷ s) h = ap (λ (t : Bool). eqb x y && t) (begins_zip f s (omega arith))

-- It does not begin a shorter one.
pub begins_long : (f s : List ℕ) → length s < length f → begins f s ≡ false
begins_long [] s h = absurd (omega arith)
begins_long (x ∷ f) [] h = refl
begins_long (x ∷ f) (y ∷ s) h = and_right (eqb x y) (begins f s) (begins_long f s (omega arith))

-- Shapes of equal length are the same if one begins the other.
pub same_level : (a b : List ℕ) → length a ≡ length b → same a b ≡ begins a b
same_level [] [] h = refl
same_level [] (y ∷ b) h = absurd (omega arith)
same_level (x ∷ a) [] h = refl
same_level (x ∷ a) (y ∷ b) h = ap (λ (t : Bool). eqb x y && t) (same_level a b (omega arith))

-- A shape ends in a cell as a slice has one for its suffix.
pub suffix_is : (cell s : List ℕ) → pointwise eqb (drop (length s - length cell) s) cell ≡ ends cell s
suffix_is cell s = elim (cases_lt (length s) (length cell)) [
  | inl l ↦
      let apart : length (drop (length s - length cell) s) ≢ length cell = omega (arith, length-drop (length s - length cell) s) in
      same_is _ cell ∙ same_uneven _ cell apart ∙ sym (and_left (leb (length cell) (length s)) _ (lt-leb (length cell) (length s) l))
  | inr l ↦ same_is _ cell ∙ sym (ap (λ (t : Bool). t && same (drop (length s - length cell) s) cell) (le-leb (length cell) (length s) l))
]

-- A shape ends in a cell as a slice ends with one.
pub ends_is : (cell s : List ℕ) → pointwise eqb cell (drop (length s - length cell) s) ≡ ends cell s
ends_is cell s =
    let part : List ℕ = drop (length s - length cell) s in
    same_is cell part ∙ same_equiv.symm cell part ∙ sym (same_is part cell) ∙ suffix_is cell s
