-- Case distinctions that the laws of an algebra share: over its operators, over the codes of their operands, over their base types.
use Rattle.std.proofs.Common.{◌≡◌, ℕ, zero, suc, ◌<◌, Bool, true, false, List, [], ◌∷◌, length, get_or, arith}
use Rattle.std.proofs.lemmas.Bool.{false≢true, and_parts}
use Rattle.remora.specs.Algebras.{all_held}

-- One case for each of nine operators.
pub each : (P : ℕ → Type 0) → P 0 → P 1 → P 2 → P 3 → P 4 → P 5 → P 6 → P 7 → P 8 → (op : ℕ) → op < 9 → P op
each P a b c d e f g h i zero l = a
each P a b c d e f g h i (suc zero) l = b
each P a b c d e f g h i (suc (suc zero)) l = c
each P a b c d e f g h i (suc (suc (suc zero))) l = d
each P a b c d e f g h i (suc (suc (suc (suc zero)))) l = e
each P a b c d e f g h i (suc (suc (suc (suc (suc zero))))) l = f
each P a b c d e f g h i (suc (suc (suc (suc (suc (suc zero)))))) l = g
each P a b c d e f g h i (suc (suc (suc (suc (suc (suc (suc zero))))))) l = h
each P a b c d e f g h i (suc (suc (suc (suc (suc (suc (suc (suc zero)))))))) l = i
each P a b c d e f g h i (suc (suc (suc (suc (suc (suc (suc (suc (suc op))))))))) l = absurd (omega arith)

-- Held codes for one base type are one code, which the base type holds.
pub one_code : (holds : ℕ → ℕ → Bool) (P : List ℕ → Type 0) (b : ℕ) → ((x : ℕ) → holds b x ≡ true → P (x ∷ [])) → (cs : List ℕ) → all_held holds (b ∷ []) cs ≡ true → P cs
one_code holds P b f [] e = absurd (false≢true e)
one_code holds P b f (x ∷ []) e = f x (and_parts (holds b x) true e).0
one_code holds P b f (x ∷ y ∷ cs) e = absurd (false≢true (and_parts (holds b x) false e).1)

-- Held codes for two base types are two codes, each of its base type.
pub two_codes : (holds : ℕ → ℕ → Bool) (P : List ℕ → Type 0) (b c : ℕ) → ((x y : ℕ) → holds b x ≡ true → holds c y ≡ true → P (x ∷ y ∷ [])) → (cs : List ℕ) → all_held holds (b ∷ c ∷ []) cs ≡ true → P cs
two_codes holds P b c f [] e = absurd (false≢true e)
two_codes holds P b c f (x ∷ cs) e =
    let p = and_parts (holds b x) _ e in
    one_code holds (λ ds. P (x ∷ ds)) c (λ y h. f x y p.0 h) cs p.1

-- Held codes for three base types are three codes, each of its base type.
pub three_codes : (holds : ℕ → ℕ → Bool) (P : List ℕ → Type 0) (b c d : ℕ) → ((x y z : ℕ) → holds b x ≡ true → holds c y ≡ true → holds d z ≡ true → P (x ∷ y ∷ z ∷ [])) → (cs : List ℕ) → all_held holds (b ∷ c ∷ d ∷ []) cs ≡ true → P cs
three_codes holds P b c d f [] e = absurd (false≢true e)
three_codes holds P b c d f (x ∷ cs) e =
    let p = and_parts (holds b x) _ e in
    two_codes holds (λ ds. P (x ∷ ds)) c d (λ y z h k. f x y z p.0 h k) cs p.1

-- Each of these base types is below a number.
unfoldable pub Known : ℕ → List ℕ → Type 0
Known n [] = Unit {0}
Known n (b ∷ bs) = (b < n) × Known n bs

-- Then so is the base type at each place.
pub known_at : (n : ℕ) (bs : List ℕ) → Known n bs → (k : ℕ) → k < length bs → get_or bs k 0 < n
unfolding Known
known_at n [] h k l = absurd (omega arith)
known_at n (b ∷ bs) h zero l = h.0
known_at n (b ∷ bs) h (suc k) l = known_at n bs h.1 k (omega arith)
