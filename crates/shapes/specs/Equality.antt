-- The test for the same shape is an equivalence, as `==` of shapes has to be.
use Rattle.std.specs.Prelude.{◌≡◌, List, ℕ, nat_eq, refl}
use Rattle.std.proofs.Common.{[], ◌∷◌, Bool, ◌&&◌, ap, subst}
use Rattle.std.specs.Cmp.{IsEquivalence}
use Rattle.std.specs.Cmp.Lexicographic.{pointwise, nat_list_eq_equiv}
use Rattle.remora.specs.Shapes.{same}

-- Two shapes are the same as lists are equal.
pub same_is : (a b : List ℕ) → pointwise nat_eq a b ≡ same a b
same_is [] [] = refl
same_is [] (y ∷ b) = refl
same_is (x ∷ a) [] = refl
same_is (x ∷ a) (y ∷ b) = ap (λ (t : Bool). nat_eq x y && t) (same_is a b)

-- The law of equality.
pub same_equiv : IsEquivalence same
same_equiv = subst IsEquivalence (λ i a b. same_is a b i) nat_list_eq_equiv
