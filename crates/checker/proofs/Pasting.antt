-- Lists with others written over a part of them.
use Rattle.std.proofs.Common.{◌≡◌, ℕ, ◌+◌, ◌≤◌, List, ◌++◌, length, take, drop, sym, refl, ap, ◌∙◌, arith, length-append, length-drop, length-take-le}
use Rattle.std.proofs.lemmas.List.{take-take, take_at, drop_at, drop-take}
use Rattle.checker.specs.Changes.{pasted}

module _ {X : Type 0} where
  -- lists that begin alike have the same parts there
  pub same_part : (xs ys : List X) (n start k : ℕ) → take n xs ≡ take n ys → start + k ≤ n → take k (drop start xs) ≡ take k (drop start ys)
  same_part xs ys n start k e h =
      sym (drop-take start k xs) ∙ ap (drop start) (sym (take-take (start + k) n xs h) ∙ ap (take (start + k)) e ∙ take-take (start + k) n ys h) ∙ drop-take start k ys

  -- what is written over a part leaves what stands before it
  pub pasted_before : (xs : List X) (n : ℕ) (ys : List X) → n ≤ length xs → take n (pasted xs n ys) ≡ take n xs
  pasted_before xs n ys h = take_at (take n xs) (ys ++ drop (n + length ys) xs) n (length-take-le n xs h)

  -- and is found in its place
  pub pasted_there : (xs : List X) (n : ℕ) (ys : List X) → n ≤ length xs → take (length ys) (drop n (pasted xs n ys)) ≡ ys
  pasted_there xs n ys h =
      ap (take (length ys)) (drop_at (take n xs) (ys ++ drop (n + length ys) xs) n (length-take-le n xs h)) ∙ take_at ys (drop (n + length ys) xs) (length ys) refl

  -- a part has its length
  pub length_part : (xs : List X) (start k : ℕ) → start + k ≤ length xs → length (take k (drop start xs)) ≡ k
  length_part xs start k h = length-take-le k (drop start xs) (omega (arith, length-drop start xs))

  -- what is written over a part leaves the length
  pub length_pasted : (xs : List X) (n : ℕ) (ys : List X) → n + length ys ≤ length xs → length (pasted xs n ys) ≡ length xs
  length_pasted xs n ys h =
      length-append (take n xs) (ys ++ drop (n + length ys) xs)
      ∙ (λ i. length-take-le n xs (omega arith) i + (length-append ys (drop (n + length ys) xs) ∙ ap (λ (k : ℕ). length ys + k) (length-drop (n + length ys) xs)) i)
      ∙ omega arith
