-- Names that a word is not, and where a text is cut.
use Rattle.std.proofs.Common.{◌≡◌, ℕ, ◌+◌, ◌<◌, Bool, true, false, cond, ◌||◌, List, [], ◌∷◌, ◌++◌, map, length, get_or, Some, None, Option, sym, refl, ap, ◌∙◌, Bor, MatchOption, IfSome, arith}
use Rattle.std.specs.List.{AllByRecursion, list_any, position_from}
use Rattle.std.specs.Str.{bytes_eq}
use Rattle.std.proofs.ByRecursion.{All-from_get_or}
use Rattle.std.proofs.lemmas.Slice.Eq.{bytes_eq-Decides}
use Rattle.std.proofs.lemmas.Str.Pattern.{IsSplitOnceResult, split_parts}
use Rattle.std.specs.Bool.{one_answer}
use Rattle.std.proofs.lemmas.Bool.{ne_eqb, eq-eqb}
use Rattle.scripts.specs.Names.{place_in, lookup, cut_at, grown_front}
use Rattle.scripts.specs.Fields.{is_in}

-- Two texts that are not the same are told apart.
pub differs : (w x : List ℕ) → (w ≡ x → ⊥) → bytes_eq w x ≡ false
differs w x h = go (bytes_eq w x) refl
  where
    go : (v : Bool) → bytes_eq w x ≡ v → v ≡ false
    go false e = refl
    go true e = absurd (h ((bytes_eq-Decides w x).0 e))

-- The place of a word among the texts of these names is that of the first name that it equals.
pub place_of_parts : (w : List ℕ) (n : ℕ) (names : List (Bor (List ℕ))) → position_from (λ name. bytes_eq w name.now) n names ≡ place_in (map (λ name. name.now) names) n w
place_of_parts w n [] = refl
place_of_parts w n (x ∷ xs) = ap (λ later. cond (bytes_eq w x.now) (Some n) later) (place_of_parts w (n + 1) xs)

-- A word that has a place among these names has one below their end.
pub place_below : (w : List ℕ) (n : ℕ) (names : List (List ℕ)) → IfSome (place_in names n w) (λ i. i < n + length names)
place_below w n [] = tt
place_below w n (x ∷ xs) = go (bytes_eq w x) (place_in xs (n + 1) w) (place_below w (n + 1) xs)
  where
    go : (v : Bool) (o : Option ℕ) → IfSome o (λ i. i < n + 1 + length xs) → IfSome (cond v (Some n) o) (λ i. i < n + length (x ∷ xs))
    go true o h = omega arith
    go false None h = tt
    go false (Some i) h = omega arith

-- A text with no such byte is not cut.
cut_none : (c : ℕ) (bs : List ℕ) → AllByRecursion (λ b. b ≡ c → ⊥) bs → cut_at c bs ≡ None
cut_none c [] h = refl
cut_none c (b ∷ bs) h = ap (λ v. cond v (Some ([], bs)) (grown_front b (cut_at c bs))) (ne_eqb b c h.0) ∙ ap (grown_front b) (cut_none c bs h.1)

-- The first such byte cuts the text.
cut_some : (c : ℕ) (xs ys : List ℕ) → AllByRecursion (λ b. b ≡ c → ⊥) xs → cut_at c (xs ++ (c ∷ ys)) ≡ Some (xs, ys)
cut_some c [] ys h = ap (λ v. cond v (Some ([], ys)) (grown_front c (cut_at c ys))) (eq-eqb c c refl)
cut_some c (b ∷ xs) ys h =
    ap (λ v. cond v (Some ([], xs ++ (c ∷ ys))) (grown_front b (cut_at c (xs ++ (c ∷ ys))))) (ne_eqb b c h.0)
    ∙ ap (grown_front b) (cut_some c xs ys h.1)

-- What is cut at the first match of a character is cut at its byte.
pub cut_split : (c : ℕ) (bs : List ℕ) (r : Option (Bor (List ℕ) × Bor (List ℕ))) → IsSplitOnceResult c bs r → c < 128 → MatchOption r (cut_at c bs ≡ None) (λ x. cut_at c bs ≡ Some (x.0.now, x.1.now))
cut_split c bs r h l = go r (split_parts c bs r h l)
  where
    go : (o : Option (Bor (List ℕ) × Bor (List ℕ))) → MatchOption o ((i : ℕ) → i < length bs → get_or bs i 0 ≡ c → ⊥) (λ x. (bs ≡ x.0.now ++ (c ∷ x.1.now)) × ((i : ℕ) → i < length x.0.now → get_or x.0.now i 0 ≡ c → ⊥)) → MatchOption o (cut_at c bs ≡ None) (λ x. cut_at c bs ≡ Some (x.0.now, x.1.now))
    go None f = cut_none c bs (All-from_get_or (λ b. b ≡ c → ⊥) bs 0 f)
    go (Some x) f = ap (cut_at c) f.0 ∙ cut_some c x.0.now x.1.now (All-from_get_or (λ b. b ≡ c → ⊥) x.0.now 0 f.1)

-- Two texts are told apart in either order alike.
bytes_eq_turned : (x w : List ℕ) → bytes_eq x w ≡ bytes_eq w x
bytes_eq_turned x w =
    let there = bytes_eq-Decides x w in
    let back = bytes_eq-Decides w x in
    one_answer _ _ there ((λ e. sym (back.0 e)), (λ e. back.1 (sym e)))

-- A word that one of these parts equals is one of their texts.
pub is_in_parts : (w : List ℕ) (names : List (Bor (List ℕ))) → list_any (λ name. bytes_eq name.now w) names ≡ is_in (map (λ name. name.now) names) w
is_in_parts w [] = refl
is_in_parts w (x ∷ xs) = ap (λ v. v || list_any (λ name. bytes_eq name.now w) xs) (bytes_eq_turned x.now w) ∙ ap (λ later. bytes_eq w x.now || later) (is_in_parts w xs)

-- A word that is none of the names of a table has nothing there.
pub lookup_none : {X : Type 0} (xs : List (List ℕ × X)) (w : List ℕ) → AllByRecursion (λ x. w ≡ x.0 → ⊥) xs → lookup xs w ≡ None
lookup_none [] w h = refl
lookup_none (x ∷ xs) w h = ap (λ v. cond v (Some x.1) (lookup xs w)) (differs w x.0 h.0) ∙ lookup_none xs w h.1
