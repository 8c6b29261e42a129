-- The volume of a shape as a product that grows by one axis at a time; the size and the extent as volumes.
use Rattle.std.proofs.Common.{◌≡◌, ℕ, ◌+◌, ◌*◌, ◌^◌, ◌<◌, ◌≤◌, max, true, leb, List, [], ◌∷◌, ◌++◌, length, get_or, take, sym, refl, ap, ◌∙◌, mul_assoc, mul-le-mul, one-mul, mul-one, arith, pow-add}
use Rattle.std.proofs.lemmas.List.{take_more}
use Rattle.std.proofs.lemmas.Bool.{and_parts, leb-true}
use Rattle.remora.specs.Shapes.{size, extent, allowed}
use Rattle.shapes.specs.Axes.{volume}

-- A product of numbers that are each found from an axis.
module _ (product : List ℕ → ℕ) (factor : ℕ → ℕ) (none : product [] ≡ 1) (one : (x : ℕ) (xs : List ℕ) → product (x ∷ xs) ≡ factor x * product xs) where
  -- The product over two lists is that of their products.
  pub product_append : (xs ys : List ℕ) → product (xs ++ ys) ≡ product xs * product ys
  product_append [] ys = sym (one-mul (product ys)) ∙ ap (λ (n : ℕ). n * product ys) (sym none)
  product_append (x ∷ xs) ys =
      one x (xs ++ ys)
      ∙ ap (λ (n : ℕ). factor x * n) (product_append xs ys)
      ∙ sym (mul_assoc (factor x) (product xs) (product ys))
      ∙ ap (λ (n : ℕ). n * product ys) (sym (one x xs))

  -- One axis more multiplies by its factor, as a loop has it.
  pub product_next : (xs : List ℕ) (i p q : ℕ) → i < length xs → p ≡ product (take i xs) → q ≡ factor (get_or xs i 0) → p * q ≡ product (take (i + 1) xs)
  product_next xs i p q h ep eq =
      let x : ℕ = get_or xs i 0 in
      let single : product (x ∷ []) ≡ factor x = one x [] ∙ ap (λ (n : ℕ). factor x * n) none ∙ mul-one (factor x) in
      ap (λ (n : ℕ). n * q) ep
      ∙ ap (λ (n : ℕ). product (take i xs) * n) (eq ∙ sym single)
      ∙ sym (ap product (take_more xs i 0 h) ∙ product_append (take i xs) (x ∷ []))

-- The volume after one axis more.
pub volume_next : (n : ℕ) (xs : List ℕ) (i p q : ℕ) → i < length xs → p ≡ volume n (take i xs) → q ≡ max n (get_or xs i 0) → p * q ≡ volume n (take (i + 1) xs)
volume_next n = product_next (volume n) (max n) refl (λ x xs. refl)

-- With every axis as it is, the volume is the size.
pub volume_size : (xs : List ℕ) → volume 0 xs ≡ size xs
volume_size [] = refl
volume_size (x ∷ xs) = let own : max 0 x ≡ x = omega arith in ap (λ (n : ℕ). n * volume 0 xs) own ∙ ap (λ (n : ℕ). x * n) (volume_size xs)

-- With an axis of 0 counted as 1, the volume is the extent.
pub volume_extent : (xs : List ℕ) → volume 1 xs ≡ extent xs
volume_extent [] = refl
volume_extent (x ∷ xs) = ap (λ (n : ℕ). max 1 x * n) (volume_extent xs)

-- A size is at most the extent.
size_extent : (xs : List ℕ) → size xs ≤ extent xs
size_extent [] = omega arith
size_extent (x ∷ xs) = let one : x ≤ max 1 x = omega arith in mul-le-mul one (size_extent xs)

-- The size of an allowed shape is at most 65,536.
pub size_allowed : (xs : List ℕ) → allowed xs ≡ true → size xs ≤ 65536
size_allowed xs h =
    let few : extent xs ≤ 65536 = leb-true (extent xs) 65536 (and_parts (leb (length xs) 4) (leb (extent xs) 65536) h).1 in
    omega (arith, few, size_extent xs)

-- A product of numbers below 2^32 is bounded by a power of it.
pub power_next : (i p q : ℕ) → p ≤ 2 ^ (32 * i) → q < 2 ^ 32 → p * q ≤ 2 ^ (32 * (i + 1))
power_next i p q h l =
    let more : 32 * (i + 1) ≡ 32 * i + 32 = omega arith in
    let power : 2 ^ (32 * (i + 1)) ≡ 2 ^ (32 * i) * 2 ^ 32 = ap (λ (n : ℕ). 2 ^ n) more ∙ pow-add 2 (32 * i) 32 in
    let small : q ≤ 2 ^ 32 = omega arith in
    omega (arith, power, mul-le-mul h small)
