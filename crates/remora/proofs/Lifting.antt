-- Lists that are split and repeated: a lifted operand's cells, by their places.
use Rattle.std.proofs.Common.{◌≡◌, ℕ, zero, suc, ◌+◌, ◌-◌, ◌*◌, ◌/◌, ◌<◌, ◌≤◌, ◌⊎◌, List, [], ◌∷◌, ◌++◌, length, get_or, take, drop, replicate, sym, refl, ap, ◌∙◌, inl, inr, mul-le-mul_right, mul_assoc, suc-mul, div-lt_iff_lt-mul, one-mul, mul-zero, zero-mul, add-one, arith, length-drop, length-take-le, drop-drop, drop_at}
use native.Mathlib.Nat.{div-eq_of_lt, div-eq-sub-div}
use lib.ListN.{length-replicate, get_or-replicate}
use Rattle.std.proofs.lemmas.List.{get_or_append_left, get_or-append_right}
use Rattle.std.proofs.lemmas.Bool.{cases_lt}
use Rattle.remora.specs.Shapes.{Shape, size}
use Rattle.remora.specs.Formulas.{last_or}
use Rattle.remora.specs.Evaluation.{split, rep, repeats, lift}
use Rattle.remora.proofs.Prefixes.{frame_length, frame_is}

pub size_append : (a b : Shape) → size (a ++ b) ≡ size a * size b
size_append [] b = sym (one-mul (size b))
size_append (x ∷ a) b = rw (size_append a b) (sym (mul_assoc x (size a) (size b)))

pub length_split : {X : Type 0} (m k : ℕ) (xs : List X) → length (split m k xs) ≡ m
length_split zero k xs = refl
length_split (suc m) k xs = ap suc (length_split m k (drop k xs))

get_or_split : {X : Type 0} (m k i : ℕ) (xs : List X) → i < m → get_or (split m k xs) i [] ≡ take k (drop (i * k) xs)
get_or_split zero k i xs h = absurd (omega arith)
get_or_split (suc m) k zero xs h = rw zero-mul
get_or_split (suc m) k (suc i) xs h =
    let e : i * k + k ≡ k + i * k = omega arith in
    get_or_split m k i (drop k xs) (omega arith) ∙ rw (suc-mul, e, drop-drop)

pub pos_right : (a b c : ℕ) → c < a * b → 0 < b
pos_right a zero c h = let e : c < 0 = rw mul-zero at h in omega arith
pos_right a (suc b) c h = omega arith

get_or_rep : {X : Type 0} (r c : ℕ) (d : X) (L : List X) → c < length L * r → get_or (rep r L) c d ≡ get_or L (c / r) d
get_or_rep r c d [] h = refl
get_or_rep {X} r c d (x ∷ L) h = go (cases_lt c r) (get_or_rep r (c - r) d L)
  where
    z : 0 < r
    z = pos_right (suc (length L)) r c h

    go : (c < r) ⊎ (r ≤ c) → (c - r < length L * r → get_or (rep r L) (c - r) d ≡ get_or L ((c - r) / r) d) → get_or (rep r (x ∷ L)) c d ≡ get_or (x ∷ L) (c / r) d
    go (inl l) ih = rw (div-eq_of_lt l) (get_or_append_left (replicate r x) (rep r L) d c (rw length-replicate l) ∙ get_or-replicate r c x d l)
    go (inr l) ih = rw (div-eq-sub-div z l, add-one)
        (get_or-append_right (replicate r x) (rep r L) r c d (length-replicate r x) l ∙ ih (let e = suc-mul (length L) r in omega arith))

pub repeats_is : (f r w : Shape) → repeats (f ++ r) w (f ++ w) ≡ size r
repeats_is f r w = rw (frame_length f w) (ap size (drop_at f r (length f) refl))

-- cell c of a lifted operand is a piece of its items
pub lift_at : {X : Type 0} (f r w : Shape) (xs : List X) (c : ℕ) → c < size (f ++ r)
    → get_or (lift (f ++ r) w (f ++ w) xs) c [] ≡ take (size w) (drop ((c / size r) * size w) xs)
lift_at f r w xs c h =
    let k : c < size f * size r = rw size_append at h in
    let q : c / size r < size f = (div-lt_iff_lt-mul (pos_right (size f) (size r) c k)).1 k in
    rw (repeats_is f r w, frame_is f w)
    (get_or_rep (size r) c [] (split (size f) (size w) xs) (rw length_split k) ∙ get_or_split (size f) (size w) (c / size r) xs q)

pub cell_within : (f r w : Shape) (c : ℕ) → c < size (f ++ r) → (c / size r) * size w + size w ≤ size (f ++ w)
cell_within f r w c h =
    let k : c < size f * size r = rw size_append at h in
    let q : c / size r < size f = (div-lt_iff_lt-mul (pos_right (size f) (size r) c k)).1 k in
    let e : suc (c / size r) * size w ≤ size f * size w = mul-le-mul_right (size w) q in
    let g : suc (c / size r) * size w ≤ size (f ++ w) = rw size_append e in
    rw suc-mul at g

pub length_part : {X : Type 0} (p n : ℕ) (xs : List X) → p + n ≤ length xs → length (take n (drop p xs)) ≡ n
length_part p n xs h = length-take-le n (drop p xs) (rw length-drop (omega arith))

pub last_or_snoc : {X : Type 0} (d : X) (xs : List X) (x : X) → last_or d (xs ++ x ∷ []) ≡ x
last_or_snoc d [] x = refl
last_or_snoc d (y ∷ xs) x = last_or_snoc y xs x
