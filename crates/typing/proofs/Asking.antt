-- The questions on operands as tests of all their items, and the principal frame as it is joined together.
use Rattle.std.proofs.Common.{◌≡◌, ℕ, ◌+◌, ◌<◌, Bool, true, false, ◌&&◌, ltb, List, [], ◌∷◌, ◌++◌, map, length, get_or, take, drop, sym, refl, ap, ◌∙◌}
use Rattle.std.specs.List.{list_all}
use Rattle.std.specs.Prelude.{zip}
use Rattle.std.proofs.lemmas.List.{length-map, map-append, take_more, take-append-drop}
use Rattle.std.proofs.lemmas.Bool.{and_parts, and_from, both_ways}
use Rattle.remora.specs.Formulas as theory
use Rattle.remora.specs.Shapes.{frame_of, comparable, longer, agree_with, agree, principal}
use Rattle.remora.proofs.Prefixes.{join_snoc}
use Rattle.remora.specs.Questions.{type_at, each_fits, frames}
use Rattle.shapes.specs.declared.ArrayType.{ArrayType}
use Rattle.shapes.specs.Axes.{array_type, dims}
use Rattle.typing.specs.Typings.{types_of}

pub types_length : (ts : List ArrayType) → length (types_of ts) ≡ length ts
types_length ts = length-map ts array_type

-- ---- questions on each item of a list

-- a question that goes through a list item by item is a test of all of them
pub asked_of_all : {X : Type 0} (test : X → Bool) (question : List X → Bool) → question [] ≡ true → ((x : X) (xs : List X) → question (x ∷ xs) ≡ (test x && question xs))
    → (xs : List X) → list_all test xs ≡ question xs
asked_of_all test question none more [] = sym none
asked_of_all test question none more (x ∷ xs) = ap (λ (b : Bool). test x && b) (asked_of_all test question none more xs) ∙ sym (more x xs)

-- ---- questions on each operand and the cell that is wanted of it

pub fits_all : (test : theory.ArrayType → theory.ArrayType → Bool) (types : List theory.ArrayType) (ws : List ArrayType) (os : List ℕ)
    → list_all (λ (p : ℕ × ArrayType). test (type_at types p.0) (array_type p.1)) (zip os ws) ≡ each_fits test types (types_of ws) os
fits_all test types [] [] = refl
fits_all test types [] (o ∷ os) = refl
fits_all test types (w ∷ ws) [] = refl
fits_all test types (w ∷ ws) (o ∷ os) = ap (λ (b : Bool). test (type_at types o) (array_type w) && b) (fits_all test types ws os)

-- ---- frames

-- The frame of an operand before the cell that is wanted of it.
abbrev pub frame_at : List theory.ArrayType → ℕ → ArrayType → List ℕ
frame_at types o w = frame_of (dims w.shape) (type_at types o).shape

pub frames_zip : (types : List theory.ArrayType) (ws : List ArrayType) (os : List ℕ) → map (λ (p : ℕ × ArrayType). frame_at types p.0 p.1) (zip os ws) ≡ frames types (types_of ws) os
frames_zip types [] [] = refl
frames_zip types [] (o ∷ os) = refl
frames_zip types (w ∷ ws) [] = refl
frames_zip types (w ∷ ws) (o ∷ os) = ap (λ (fs : List (List ℕ)). frame_at types o w ∷ fs) (frames_zip types ws os)

-- Frames do not agree if the first of them do not.
agree_with_front : (f : List ℕ) (fs gs : List (List ℕ)) → agree_with f (fs ++ gs) ≡ true → agree_with f fs ≡ true
agree_with_front f [] gs e = refl
agree_with_front f (g ∷ fs) gs e = let u = and_parts (comparable f g) (agree_with f (fs ++ gs)) e in and_from _ _ u.0 (agree_with_front f fs gs u.1)

agree_front : (fs gs : List (List ℕ)) → agree (fs ++ gs) ≡ true → agree fs ≡ true
agree_front [] gs e = refl
agree_front (f ∷ fs) gs e = let u = and_parts (agree_with f (fs ++ gs)) (agree (fs ++ gs)) e in and_from _ _ (agree_with_front f fs gs u.0) (agree_front fs gs u.1)

pub agree_not : (fs gs : List (List ℕ)) → agree fs ≡ false → agree (fs ++ gs) ≡ false
agree_not fs gs n = go (agree (fs ++ gs)) refl
  where
    go : (b : Bool) → agree (fs ++ gs) ≡ b → b ≡ false
    go true a = absurd (both_ways (agree fs) n (agree_front fs gs a))
    go false a = refl

-- p is the principal frame of the frames f of the first n items of xs, and x is the next item
module _ {X : Type 0} (f : X → List ℕ) (xs : List X) (n : ℕ) (x : X) (p : List ℕ) (h : n < length xs) (x-is : x ≡ get_or xs n x) (a : agree (map f (take n xs)) ≡ true) (p-is : p ≡ principal (map f (take n xs))) where
  fs : List (List ℕ)
  fs = map f (take n xs)

  more : map f (take (n + 1) xs) ≡ fs ++ f x ∷ []
  unfolding fs
  more = ap (map f) (take_more xs n x h) ∙ map-append f (take n xs) (get_or xs n x ∷ []) ∙ ap (λ (y : X). map f (take n xs) ++ f y ∷ []) (sym x-is)

  compares : (g : List ℕ) → g ≡ f x → comparable p g ≡ comparable (principal fs) (f x)
  unfolding fs
  compares g g-is = ap (λ (q : List ℕ). comparable q g) p-is ∙ ap (comparable (principal (map f (take n xs)))) g-is

  -- where the two compare, the longer is the principal frame of one more
  pub joins : (g q : List ℕ) → g ≡ f x → comparable p g ≡ true → q ≡ longer (ltb (length p) (length g)) p g
      → (agree (map f (take (n + 1) xs)) ≡ true) × (q ≡ principal (map f (take (n + 1) xs)))
  unfolding fs
  joins g q g-is c q-is =
      let u = join_snoc fs (f x) a in
      let d : comparable (principal fs) (f x) ≡ true = sym (compares g g-is) ∙ c in (
        ap agree more ∙ u.0 ∙ d,
        q-is ∙ ap (λ (v : List ℕ). longer (ltb (length v) (length g)) v g) p-is ∙ ap (λ (v : List ℕ). longer (ltb (length (principal fs)) (length v)) (principal fs) v) g-is ∙ sym (u.1 d) ∙ ap principal (sym more),
      )

  -- where they do not, the frames of all do not agree
  pub differs : (g : List ℕ) → g ≡ f x → comparable p g ≡ false → agree (map f xs) ≡ false
  unfolding fs
  differs g g-is c =
      let no : agree (fs ++ f x ∷ []) ≡ false = (join_snoc fs (f x) a).0 ∙ sym (compares g g-is) ∙ c in
      ap (λ (ys : List X). agree (map f ys)) (sym (take-append-drop (n + 1) xs)) ∙ ap agree (map-append f (take (n + 1) xs) (drop (n + 1) xs))
      ∙ agree_not (map f (take (n + 1) xs)) (map f (drop (n + 1) xs)) (ap agree more ∙ no)
