-- Wrapped numbers: they are codes, and operations on codes modulo 2^32 are the wrapped operations on signed numbers.
use Rattle.std.specs.Prelude.{◌≡◌, ℕ, ◌+◌, ◌-◌, ◌*◌, ◌%◌, ◌^◌, ◌<◌, ℤ, pos, negsuc, ◌+ℤ◌, ◌-ℤ◌, ◌*ℤ◌, refl}
use Rattle.std.proofs.Common.{sym, ap, ◌∙◌, arith, of_z}
use Rattle.std.specs.Int.{int_wrap as wrapped_signed, w32}
use Rattle.std.proofs.lemmas.Int.{of_z-to_z, wrapping_add-bits, wrapping_sub-bits, wrapping_mul-bits}
use Rattle.counts.specs.Tables.{signed, wrapped, sum, difference, product}

-- A wrapped number is a code.
pub wrapped_small : (z : ℤ) → wrapped z < 2 ^ 32
wrapped_small (pos n) = omega arith
wrapped_small (negsuc n) = omega arith

-- The library's wrapped signed number is the signed number of the wrapped code.
signed_wrapped : (z : ℤ) → wrapped_signed w32 z ≡ signed (wrapped z)
unfolding wrapped_signed
signed_wrapped (pos n) = refl
signed_wrapped (negsuc n) = refl

-- Codes of equal signed numbers are equal.
code_from_signed : (c : ℕ) (z : ℤ) → c < 2 ^ 32 → signed c ≡ wrapped_signed w32 z → c ≡ wrapped z
code_from_signed c z h e = sym (of_z-to_z w32 c h) ∙ ap (of_z w32) (e ∙ signed_wrapped z) ∙ of_z-to_z w32 (wrapped z) (wrapped_small z)

-- The sum of codes modulo 2^32 is the wrapped sum.
pub sum_wraps : (a b : ℕ) → a < 2 ^ 32 → b < 2 ^ 32 → (a + b) % 2 ^ 32 ≡ sum a b
sum_wraps a b p q = code_from_signed ((a + b) % 2 ^ 32) (signed a +ℤ signed b) (omega arith) (wrapping_add-bits w32 a b p q)

-- The difference of codes modulo 2^32 is the wrapped difference.
pub difference_wraps : (a b : ℕ) → a < 2 ^ 32 → b < 2 ^ 32 → (a + (2 ^ 32 - b)) % 2 ^ 32 ≡ difference a b
difference_wraps a b p q = code_from_signed ((a + (2 ^ 32 - b)) % 2 ^ 32) (signed a -ℤ signed b) (omega arith) (wrapping_sub-bits w32 a b p q)

-- The product of codes modulo 2^32 is the wrapped product.
pub product_wraps : (a b : ℕ) → a < 2 ^ 32 → b < 2 ^ 32 → (a * b) % 2 ^ 32 ≡ product a b
product_wraps a b p q = code_from_signed ((a * b) % 2 ^ 32) (signed a *ℤ signed b) (omega arith) (wrapping_mul-bits w32 a b p q)
