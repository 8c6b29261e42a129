-- How operands are lifted: the numbers of 32 bits are exact where shapes are allowed.
use Rattle.std.proofs.Common.{◌≡◌, ℕ, zero, suc, ◌+◌, ◌-◌, ◌*◌, ◌<◌, ◌≤◌, max, Bool, true, leb, List, [], ◌∷◌, ◌++◌, length, get_or, take, drop, sym, refl, ap, ◌∙◌, add-zero, mul-le-mul_right, mul-le-mul_left, one-mul, mul-one, arith, length-append}
use Rattle.std.proofs.lemmas.List.{take-append-drop}
use Rattle.std.proofs.lemmas.Bool.{and_parts, and_from, leb-true, le-leb}
use Rattle.remora.specs.Formulas as theory
use Rattle.remora.specs.Shapes.{size, extent, allowed, same, ends}
use Rattle.remora.specs.Evaluation.{repeats}
use Rattle.remora.specs.Machine.{Operand, operands_of}
use Rattle.remora.specs.Questions.{type_at, each_fits, cells_fit}
use Rattle.remora.proofs.Prefixes.{same_equal}
use Rattle.shapes.proofs.Products.{product_append, size_allowed}
use Rattle.typing.specs.declared.found.Typed.{Typed}
use Rattle.typing.specs.Plans.{AllAllowed, small, lift_at, Lifted, planned_operands}

-- ---- allowed shapes and their parts

extent_some : (xs : List ℕ) → 1 ≤ extent xs
extent_some [] = omega arith
extent_some (x ∷ xs) =
    let one : 1 ≤ max 1 x = omega arith in
    let more : max 1 x * 1 ≤ max 1 x * extent xs = mul-le-mul_left (max 1 x) (extent_some xs) in
    omega (arith, one, more, mul-one (max 1 x))

extent_append : (xs ys : List ℕ) → extent (xs ++ ys) ≡ extent xs * extent ys
extent_append = product_append extent (max 1) refl (λ x xs. refl)

-- both parts of an allowed shape are allowed
pub allowed_parts : (a b : List ℕ) → allowed (a ++ b) ≡ true → (allowed a ≡ true) × (allowed b ≡ true)
allowed_parts a b h =
    let u = and_parts (leb (length (a ++ b)) 4) (leb (extent (a ++ b)) 65536) h in
    let few : length (a ++ b) ≤ 4 = leb-true (length (a ++ b)) 4 u.0 in
    let within : extent (a ++ b) ≤ 65536 = leb-true (extent (a ++ b)) 65536 u.1 in
    let long = length-append a b in
    let whole = extent_append a b in
    let left : extent a * 1 ≤ extent a * extent b = mul-le-mul_left (extent a) (extent_some b) in
    let right : 1 * extent b ≤ extent a * extent b = mul-le-mul_right (extent b) (extent_some a) in
    let units = mul-one (extent a) in
    let units' = one-mul (extent b) in (
      and_from (leb (length a) 4) (leb (extent a) 65536) (le-leb (length a) 4 (omega arith)) (le-leb (extent a) 65536 (omega arith)),
      and_from (leb (length b) 4) (leb (extent b) 65536) (le-leb (length b) 4 (omega arith)) (le-leb (extent b) 65536 (omega arith)),
    )

pub allowed_back : (n : ℕ) (s : List ℕ) → allowed s ≡ true → allowed (drop n s) ≡ true
allowed_back n s h = (allowed_parts (take n s) (drop n s) (ap allowed (take-append-drop n s) ∙ h)).1

-- a cell in which an allowed shape ends is allowed
pub allowed_cell : (cell s : List ℕ) → allowed s ≡ true → ends cell s ≡ true → allowed cell ≡ true
allowed_cell cell s h e =
    let back : drop (length s - length cell) s ≡ cell = same_equal (drop (length s - length cell) s) cell (and_parts (leb (length cell) (length s)) (same (drop (length s - length cell) s) cell) e).1 in
    sym (ap allowed back) ∙ allowed_back (length s - length cell) s h

-- the size of an allowed shape is exact in 32 bits
pub small_is : (s : List ℕ) → allowed s ≡ true → small (size s) ≡ size s
small_is s h = let k = size_allowed s h in omega arith

pub type_allowed : (types : List theory.ArrayType) (o : ℕ) → AllAllowed types → allowed (type_at types o).shape ≡ true
type_allowed [] o a = refl
type_allowed (t ∷ types) zero a = a.0
type_allowed (t ∷ types) (suc o) a = type_allowed types o a.1

-- ---- the operands of a plan

-- operand i ends in the cell that is wanted of it
fit_at : (test : theory.ArrayType → theory.ArrayType → Bool) (types ws : List theory.ArrayType) (os : List ℕ) (i : ℕ) → i < length ws → i < length os → each_fits test types ws os ≡ true
    → test (type_at types (get_or os i 0)) (get_or ws i theory.no_type) ≡ true
fit_at test types [] os i h k e = absurd (omega arith)
fit_at test types (w ∷ ws) [] i h k e = absurd (omega arith)
fit_at test types (w ∷ ws) (o ∷ os) zero h k e = (and_parts (test (type_at types o) w) (each_fits test types ws os) e).0
fit_at test types (w ∷ ws) (o ∷ os) (suc i) h k e = fit_at test types ws os i (omega arith) (omega arith) (and_parts (test (type_at types o) w) (each_fits test types ws os) e).1

-- operands from number i on, each lifted as the theory has it
planned_from : (types ws : List theory.ArrayType) (p os : List ℕ) (t : Typed) (i : ℕ) → length os ≤ length ws
    → ((j : ℕ) → j < length os → ((lift_at t.lifts (i + j)).repeats ≡ repeats p (get_or ws j theory.no_type).shape (type_at types (get_or os j 0)).shape) × ((lift_at t.lifts (i + j)).size ≡ size (get_or ws j theory.no_type).shape))
    → planned_operands t i os ≡ operands_of types p ws os
planned_from types [] p [] t i h each = refl
planned_from types (w ∷ ws) p [] t i h each = refl
planned_from types [] p (o ∷ os) t i h each = absurd (omega arith)
planned_from types (w ∷ ws) p (o ∷ os) t i h each =
    let here = each 0 (omega arith) in
    let r-is : (lift_at t.lifts i).repeats ≡ repeats p w.shape (type_at types o).shape = ap (λ (n : ℕ). (lift_at t.lifts n).repeats) (sym (add-zero i)) ∙ here.0 in
    let s_is : (lift_at t.lifts i).size ≡ size w.shape = ap (λ (n : ℕ). (lift_at t.lifts n).size) (sym (add-zero i)) ∙ here.1 in
    let next : (j : ℕ) → suc i + j ≡ i + suc j = λ j. omega arith in
    let rest = planned_from types ws p os t (suc i) (omega arith) (λ j l. let u = each (suc j) (omega arith) in (ap (λ (n : ℕ). (lift_at t.lifts n).repeats) (next j) ∙ u.0, ap (λ (n : ℕ). (lift_at t.lifts n).size) (next j) ∙ u.1)) in
    ap (λ (n : ℕ). record { line = o; repeats = n; size = (lift_at t.lifts i).size } ∷ planned_operands t (suc i) os) r-is
    ∙ ap (λ (n : ℕ). record { line = o; repeats = repeats p w.shape (type_at types o).shape; size = n } ∷ planned_operands t (suc i) os) s_is
    ∙ ap (λ (us : List Operand). record { line = o; repeats = repeats p w.shape (type_at types o).shape; size = size w.shape } ∷ us) rest

-- the operands of an application of which all is allowed
pub planned_lifted : (types ws : List theory.ArrayType) (p os : List ℕ) (t : Typed) → AllAllowed types → allowed p ≡ true → cells_fit types ws os ≡ true → length os ≤ length ws → length os ≤ 4
    → Lifted types ws os p t.lifts → planned_operands t 0 os ≡ operands_of types p ws os
planned_lifted types ws p os t all h fit l m lifted =
    planned_from types ws p os t 0 l (λ j k.
    let shape : List ℕ = (type_at types (get_or os j 0)).shape in
    let cell : List ℕ = (get_or ws j theory.no_type).shape in
    let u = lifted j k (omega arith) (omega arith) in
    let fits : ends cell shape ≡ true = fit_at (λ t w. ends w.shape t.shape) types ws os j (omega arith) k fit in
    let plain : 0 + j ≡ j = omega arith in (
      ap (λ (n : ℕ). (lift_at t.lifts n).repeats) plain ∙ u.0 ∙ small_is (drop (length shape - length cell) p) (allowed_back (length shape - length cell) p h),
      ap (λ (n : ℕ). (lift_at t.lifts n).size) plain ∙ u.1 ∙ small_is cell (allowed_cell cell shape (type_allowed types (get_or os j 0) all) fits),
    ))
