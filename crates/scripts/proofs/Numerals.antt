-- The numbers that words say, and the lists of them.
use Rattle.std.proofs.Common.{◌≡◌, ℕ, ◌^◌, Bool, true, false, cond, eqb, ltb, List, [], ◌∷◌, ◌++◌, length, get_or, Some, None, Ok, Err, Option, Result, Bor, MatchOption, sym, refl, ap, ◌∙◌, arith, rules}
use Rattle.std.specs.Str.Parse.{ParsesUnsigned}
use Rattle.std.specs.Str.{all_ascii_digits}
use Rattle.std.specs.Result.{result_ok}
use Rattle.std.proofs.lemmas.Str.Parse.{IsNumeralModel, numerals_by_fold, parse_plain}
use Rattle.std.proofs.lemmas.Result.{OkIff-at_ok, OkIff-at_err}
use Rattle.std.proofs.lemmas.Bool.{and_from, and_parts, lt-ltb, ltb-true, eqb-true, eq-eqb, ne_eqb}
use Rattle.scripts.specs.Numbers.{read_on, is_number, number, closed, on_front, behind}

-- Digits and their number are as the shelf has them.
own : IsNumeralModel (λ ds. all_ascii_digits ds ≡ true) (read_on 0)
own = numerals_by_fold _ (search rules) read_on (search rules)

module _ {E : Type 0} (bs : List ℕ) (plain : get_or bs 0 0 ≡ 43 → ⊥) (r : Result ℕ E) (h : ParsesUnsigned 64 10 bs r) where
  -- What was parsed is the number said.
  pub number_said_lem : (n : ℕ) → r ≡ Ok n → Some n ≡ number bs
  number_said_lem n e =
      let p = OkIff-at_ok r _ _ n (parse_plain own 64 bs r h plain) e in
      let yes : is_number bs ≡ true = and_from (all_ascii_digits bs) _ p.0.0 (and_from (ltb 0 (length bs)) _ (lt-ltb 0 (length bs) p.0.1) (lt-ltb (read_on 0 bs) (2 ^ 64) p.0.2)) in
      ap Some p.1 ∙ sym (ap (λ v. cond v (Some (read_on 0 bs)) None) yes)

  -- Where nothing was parsed, no number is said.
  pub number_unsaid : (d : E) → r ≡ Err d → None ≡ number bs
  number_unsaid d k = sym (go (is_number bs) refl)
    where
      go : (v : Bool) → is_number bs ≡ v → cond v (Some (read_on 0 bs)) None ≡ None
      go false e = refl
      go true e =
          let p = and_parts (all_ascii_digits bs) _ e in
          let q = and_parts (ltb 0 (length bs)) _ p.1 in
          absurd (OkIff-at_err r _ _ d (parse_plain own 64 bs r h plain) k (p.0, ltb-true 0 (length bs) q.0, ltb-true (read_on 0 bs) (2 ^ 64) q.1))

  -- What was parsed is the number said, if one is.
  pub number_parsed : result_ok r ≡ number bs
  number_parsed = go r refl
    where
      go : (o : Result ℕ E) → r ≡ o → result_ok o ≡ number bs
      go (Ok n) e = number_said_lem n e
      go (Err d) e = number_unsaid d e

-- A text that ends with `]` is closed.
pub closed_text : (t : List ℕ) → closed (t ++ (93 ∷ [])) ≡ Some t
closed_text [] = refl
closed_text (b ∷ []) = refl
closed_text (b ∷ c ∷ t) = ap (on_front b) (closed_text (c ∷ t))

-- What is closed ends with `]`.
closed_end : (s t : List ℕ) → closed s ≡ Some t → s ≡ t ++ (93 ∷ [])
closed_end [] t e = let z : ◌≡◌ {A = ℕ} 0 1 = cc in absurd (omega arith)
closed_end (b ∷ []) t e = go (eqb b 93) refl e
  where
    go : (v : Bool) → eqb b 93 ≡ v → cond v (Some []) None ≡ Some t → b ∷ [] ≡ t ++ (93 ∷ [])
    go true v h = let same : [] ≡ t = cc in ap (λ c. c ∷ []) (eqb-true b 93 v) ∙ ap (λ l. l ++ (93 ∷ [])) same
    go false v h = let z : ◌≡◌ {A = ℕ} 0 1 = cc in absurd (omega arith)
closed_end (b ∷ c ∷ s) t e = go (closed (c ∷ s)) (closed_end (c ∷ s)) refl e
  where
    go : (o : Option (List ℕ)) → ((u : List ℕ) → closed (c ∷ s) ≡ Some u → c ∷ s ≡ u ++ (93 ∷ [])) → closed (c ∷ s) ≡ o → on_front b o ≡ Some t → b ∷ c ∷ s ≡ t ++ (93 ∷ [])
    go None ends v h = let z : ◌≡◌ {A = ℕ} 0 1 = cc in absurd (omega arith)
    go (Some u) ends v h = let same : b ∷ u ≡ t = cc in ap (λ l. b ∷ l) (ends u v) ∙ ap (λ l. l ++ (93 ∷ [])) same

-- A text that does not end with `]` is not closed.
pub closed_none : (s : List ℕ) → ((front : List ℕ) → s ≡ front ++ (93 ∷ []) → ⊥) → closed s ≡ None
closed_none s h = go (closed s) refl
  where
    go : (o : Option (List ℕ)) → closed s ≡ o → o ≡ None
    go None e = refl
    go (Some t) e = absurd (h t (closed_end s t e))

-- A text that does not begin with this byte has nothing behind it.
pub behind_none : (c : ℕ) (w : List ℕ) → ((rest : List ℕ) → w ≡ c ∷ rest → ⊥) → behind c w ≡ None
behind_none c [] h = refl
behind_none c (b ∷ bs) h = ap (λ v. cond v (Some bs) None) (ne_eqb b c (λ e. h bs (ap (λ d. d ∷ bs) e)))

-- What is behind a byte that a text begins with.
pub behind_some : (c : ℕ) (w rest : List ℕ) → w ≡ c ∷ rest → behind c w ≡ Some rest
behind_some c w rest e = ap (behind c) e ∙ ap (λ v. cond v (Some rest) None) (eq-eqb c c refl)

-- What a `]` at the end is taken off from is closed there.
pub closed_seen : (s : List ℕ) (r : Option (Bor (List ℕ))) → MatchOption r ((front : List ℕ) → s ≡ front ++ (93 ∷ []) → ⊥) (λ x. s ≡ x.now ++ (93 ∷ [])) → MatchOption r (closed s ≡ None) (λ x. closed s ≡ Some x.now)
closed_seen s None h = closed_none s h
closed_seen s (Some x) h = ap closed h ∙ closed_text x.now

-- What a byte at the front is taken off from has the rest behind that byte.
pub behind_seen : (c : ℕ) (s : List ℕ) (r : Option (Bor (List ℕ))) → MatchOption r ((rest : List ℕ) → s ≡ c ∷ rest → ⊥) (λ x. s ≡ c ∷ x.now) → MatchOption r (behind c s ≡ None) (λ x. behind c s ≡ Some x.now)
behind_seen c s None h = behind_none c s h
behind_seen c s (Some x) h = behind_some c s x.now h
