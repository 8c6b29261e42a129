-- Reading and writing the flat store; where the lines of an activation lie.
use Rattle.std.proofs.Common.{◌≡◌, ℕ, zero, suc, ◌+◌, ◌-◌, ◌*◌, ◌/◌, ◌<◌, ◌≤◌, List, [], ◌∷◌, ◌++◌, length, get_or, take, drop, sym, refl, ap, ◌∙◌, append_assoc, add_assoc, arith, length-append, length-drop, length-take-le, take-take, drop-drop, take_at, take-add, drop_at}
use lib.Seq.{take-append-le}
use Rattle.std.proofs.lemmas.List.{drop-take}
use Rattle.remora.specs.Shapes.{Shape, size}
use Rattle.remora.specs.Formulas.{ArrayType, shaped, no_type, TypedLine, literal, parameter, frame, application, type_of, last_or}
use Rattle.remora.specs.Evaluation.{Array, array_of, no_array, repeats, cell_at, cells_at}
use Rattle.remora.specs.Forecasts.{atoms}
use Rattle.remora.specs.Machine.{part, put, Source, cell_place, cell_places}
use Rattle.remora.proofs.Lifting.{length_part, lift_at, cell_within, repeats_is}
use Rattle.remora.proofs.Sizes.{Fit, Lifts, none, one}

-- ---- stores that differ only in a part

-- T differs from S only from place lo up to place hi
pub record Same {X : Type 0} (lo hi : ℕ) (S T : List X) : Type 0 where
  pub low : take lo T ≡ take lo S
  pub high : drop hi T ≡ drop hi S
  pub long : length T ≡ length S

pub same_refl : {X : Type 0} (lo hi : ℕ) (S : List X) → Same lo hi S S
same_refl lo hi S = record { low = refl; high = refl; long = refl }

pub same_trans : {X : Type 0} {lo hi : ℕ} {S T U : List X} → Same lo hi S T → Same lo hi T U → Same lo hi S U
same_trans a b = record { low = b.low ∙ a.low; high = b.high ∙ a.high; long = b.long ∙ a.long }

take_less : {X : Type 0} (m n : ℕ) (S T : List X) → m ≤ n → take n T ≡ take n S → take m T ≡ take m S
take_less m n S T h e = sym (take-take m n T h) ∙ ap (take m) e ∙ take-take m n S h

pub same_widen : {X : Type 0} {lo hi lo' hi' : ℕ} {S T : List X} → lo ≤ lo' → hi' ≤ hi → Same lo' hi' S T → Same lo hi S T
same_widen {lo} {hi} {lo'} {hi'} {S} {T} h k a =
    let e : hi' + (hi - hi') ≡ hi = omega arith in
    record {
      low = take_less lo lo' S T h a.low;
      high = rw (← e) (sym (drop-drop (hi - hi') hi' T) ∙ ap (drop (hi - hi')) a.high ∙ drop-drop (hi - hi') hi' S);
      long = a.long;
    }

pub put_same : {X : Type 0} (lo hi : ℕ) (S : List X) (p : ℕ) (xs : List X) → lo ≤ p → p + length xs ≤ hi → p + length xs ≤ length S → Same lo hi S (put S p xs)
put_same lo hi S p xs a b c =
    let l : length (take p S) ≡ p = length-take-le p S (omega arith) in
    let d : length (drop (p + length xs) S) ≡ length S - (p + length xs) = length-drop (p + length xs) S in
    let e : drop (p + length xs) (put S p xs) ≡ drop (p + length xs) S =
    rw (← (append_assoc (take p S) xs (drop (p + length xs) S))) (drop_at (take p S ++ xs) (drop (p + length xs) S) (p + length xs) (rw (length-append, l))) in
    let f : (p + length xs) + (hi - (p + length xs)) ≡ hi = omega arith in
    record {
      low = take-append-le lo (take p S) (xs ++ drop (p + length xs) S) (omega arith) ∙ take-take lo p S a;
      high = rw (← f) (sym (drop-drop (hi - (p + length xs)) (p + length xs) (put S p xs)) ∙ ap (drop (hi - (p + length xs))) e ∙ drop-drop (hi - (p + length xs)) (p + length xs) S);
      long = simp (length-append, l, d) (omega arith);
    }

pub put_part : {X : Type 0} (S : List X) (p n : ℕ) (xs : List X) → length xs ≡ n → p + length xs ≤ length S → part (put S p xs) p n ≡ xs
put_part S p n xs e h =
    ap (take n) (drop_at (take p S) (xs ++ drop (p + length xs) S) p (length-take-le p S (omega arith))) ∙ take_at xs (drop (p + length xs) S) n e

pub part_same : {X : Type 0} (lo hi : ℕ) (S T : List X) (p n : ℕ) → Same lo hi S T → p + n ≤ lo → part T p n ≡ part S p n
part_same lo hi S T p n a h = sym (drop-take p n T) ∙ ap (drop p) (take_less (p + n) lo S T h a.low) ∙ drop-take p n S

pub part_add : {X : Type 0} (S : List X) (p m n : ℕ) → part S p (m + n) ≡ part S p m ++ part S (p + m) n
part_add {X} S p m n = take-add m n (drop p S) ∙ ap (λ (T : List X). take m (drop p S) ++ take n T) (drop-drop m p S)

part_part : {X : Type 0} (S : List X) (p n j k : ℕ) → j + k ≤ n → part (part S p n) j k ≡ part S (p + j) k
part_part S p n j k h =
    sym (drop-take j k (part S p n)) ∙ ap (drop j) (take-take (j + k) n (drop p S) h) ∙ drop-take j k (drop p S) ∙ ap (take k) (drop-drop j p S)

-- ---- regions: an array in the store

pub record Region : Type 0 where
  pub type : ArrayType
  pub place : ℕ

abbrev pub region : ArrayType → ℕ → Region
region t q = record { type = t; place = q }

abbrev pub no_region : Region
no_region = region no_type 0

abbrev pub long : Region → ℕ
long r = size r.type.shape

abbrev pub read : {X : Type 0} → List X → Region → Array X
read S r = array_of r.type (part S r.place (long r))

abbrev pub reads : {X : Type 0} → List X → List Region → List (Array X)
reads S [] = []
reads S (r ∷ rs) = read S r ∷ reads S rs

-- regions of these types at these places
abbrev pub regions : List ArrayType → List ℕ → List Region
regions [] qs = []
regions (t ∷ ts) [] = []
regions (t ∷ ts) (q ∷ qs) = region t q ∷ regions ts qs

abbrev pub region_types : List Region → List ArrayType
region_types [] = []
region_types (r ∷ rs) = r.type ∷ region_types rs

-- regions that end at or before place q
abbrev pub Below : ℕ → List Region → Type 0
Below q [] = Unit {0}
Below q (r ∷ rs) = (r.place + long r ≤ q) × Below q rs

pub below_mono : (p q : ℕ) (L : List Region) → p ≤ q → Below p L → Below q L
below_mono p q [] h k = tt
below_mono p q (s ∷ L) h k = (omega arith, below_mono p q L h k.1)

pub below_snoc : (q : ℕ) (L : List Region) (s : Region) → Below q L → s.place + long s ≤ q → Below q (L ++ s ∷ [])
below_snoc q [] s h k = (k, tt)
below_snoc q (t ∷ L) s h k = (h.0, below_snoc q L s h.1 k)

pub below_at : (q : ℕ) (L : List Region) (i : ℕ) → Below q L → (get_or L i no_region).place + long (get_or L i no_region) ≤ q
below_at q [] i h = omega arith
below_at q (s ∷ L) zero h = h.0
below_at q (s ∷ L) (suc i) h = below_at q L i h.1

pub types_at : (L : List Region) (i : ℕ) → (get_or L i no_region).type ≡ get_or (region_types L) i no_type
types_at [] i = refl
types_at (s ∷ L) zero = refl
types_at (s ∷ L) (suc i) = types_at L i

pub types_snoc : (L : List Region) (s : Region) → region_types (L ++ s ∷ []) ≡ region_types L ++ s.type ∷ []
types_snoc [] s = refl
types_snoc (t ∷ L) s = ap (λ (r : List ArrayType). t.type ∷ r) (types_snoc L s)

pub types_length : (L : List Region) → length (region_types L) ≡ length L
types_length [] = refl
types_length (s ∷ L) = ap suc (types_length L)

pub reads_same : {X : Type 0} (lo hi : ℕ) (S T : List X) (L : List Region) → Same lo hi S T → Below lo L → reads T L ≡ reads S L
reads_same lo hi S T [] a h = refl
reads_same lo hi S T (s ∷ L) a h = rw (part_same lo hi S T s.place (long s) a h.0, reads_same lo hi S T L a h.1)

pub reads_snoc : {X : Type 0} (S : List X) (L : List Region) (s : Region) → reads S (L ++ s ∷ []) ≡ reads S L ++ read S s ∷ []
reads_snoc {X} S [] s = refl
reads_snoc {X} S (t ∷ L) s = ap (λ (r : List (Array X)). read S t ∷ r) (reads_snoc S L s)

pub reads_at : {X : Type 0} (S : List X) (L : List Region) (i : ℕ) → get_or (reads S L) i no_array ≡ read S (get_or L i no_region)
reads_at S [] i = refl
reads_at S (s ∷ L) zero = refl
reads_at S (s ∷ L) (suc i) = reads_at S L i

pub reads_last : {X : Type 0} (S : List X) (d : Region) (L : List Region) → last_or (read S d) (reads S L) ≡ read S (last_or d L)
reads_last S d [] = refl
reads_last S d (s ∷ L) = reads_last S s L

pub reads_length : {X : Type 0} (S : List X) (L : List Region) → length (reads S L) ≡ length L
reads_length S [] = refl
reads_length S (s ∷ L) = ap suc (reads_length S L)

pub reads_fit : {X : Type 0} (S : List X) (q : ℕ) (L : List Region) → Below q L → q ≤ length S → Fit (region_types L) (reads S L)
reads_fit S q [] h k = tt
reads_fit S q (s ∷ L) h k = (refl, length_part s.place (long s) S (let u = h.0 in omega arith), reads_fit S q L h.1 k)

pub regions_place : (ts : List ArrayType) (qs : List ℕ) (k : ℕ) → k < length ts → (get_or (regions ts qs) k no_region).place ≡ get_or qs k 0
regions_place [] qs k h = absurd (omega arith)
regions_place (t ∷ ts) [] k h = refl
regions_place (t ∷ ts) (q ∷ qs) zero h = refl
regions_place (t ∷ ts) (q ∷ qs) (suc k) h = regions_place ts qs k (omega arith)

-- ---- the layout of an activation: P are its parameters' regions

abbrev pub region_of : List Region → ℕ → TypedLine → Region
region_of P q (literal t cs) = region t q
region_of P q (parameter k t) = region t (get_or P k no_region).place
region_of P q (frame os p t) = region t q
region_of P q (application f os p t) = region t q

abbrev pub layout : List Region → ℕ → List TypedLine → List Region
layout P q [] = []
layout P q (r ∷ rs) = region_of P q r ∷ layout P (q + atoms r) rs

abbrev pub behind : ℕ → List TypedLine → ℕ
behind q [] = q
behind q (r ∷ rs) = behind (q + atoms r) rs

pub region_type : (P : List Region) (q : ℕ) (r : TypedLine) → (region_of P q r).type ≡ type_of r
region_type P q (literal s xs) = refl
region_type P q (parameter k s) = refl
region_type P q (frame os p s) = refl
region_type P q (application f os p s) = refl

pub layout_append : (P : List Region) (b : ℕ) (past rest : List TypedLine) → layout P b (past ++ rest) ≡ layout P b past ++ layout P (behind b past) rest
layout_append P b [] rest = refl
layout_append P b (s ∷ past) rest = ap (λ (l : List Region). region_of P b s ∷ l) (layout_append P (b + atoms s) past rest)

pub layout_length : (P : List Region) (b : ℕ) (rs : List TypedLine) → length (layout P b rs) ≡ length rs
layout_length P b [] = refl
layout_length P b (r ∷ rs) = ap suc (layout_length P (b + atoms r) rs)

pub behind_snoc : (b : ℕ) (past : List TypedLine) (r : TypedLine) → behind b (past ++ r ∷ []) ≡ behind b past + atoms r
behind_snoc b [] r = refl
behind_snoc b (s ∷ past) r = behind_snoc (b + atoms s) past r

pub behind_le : (b : ℕ) (past : List TypedLine) → b ≤ behind b past
behind_le b [] = omega arith
behind_le b (s ∷ past) = let h = behind_le (b + atoms s) past in omega arith

pub behind_add : (a b : ℕ) (rs : List TypedLine) → behind (a + b) rs ≡ a + behind b rs
behind_add a b [] = refl
behind_add a b (r ∷ rs) = ap (λ (q : ℕ). behind q rs) (add_assoc a b (atoms r)) ∙ behind_add a (b + atoms r) rs

pub layout_last : (P : List Region) (b : ℕ) (rs : List TypedLine) (d : Region) (x : TypedLine) → d.type ≡ type_of x → (last_or d (layout P b rs)).type ≡ type_of (last_or x rs)
layout_last P b [] d x e = e
layout_last P b (r ∷ rs) d x e = layout_last P (b + atoms r) rs (region_of P b r) r (region_type P b r)

-- ---- an operand's cells, by their places

-- where the cells of an operand lie that has this region
abbrev pub source_of : Region → Shape → ArrayType → Source
source_of r p w = record { place = r.place; repeats = repeats p w.shape r.type.shape; size = size w.shape }

abbrev pub sources_of : List Region → Shape → List ArrayType → List ℕ → List Source
sources_of L p [] os = []
sources_of L p (w ∷ ws) [] = []
sources_of L p (w ∷ ws) (o ∷ os) = source_of (get_or L o no_region) p w ∷ sources_of L p ws os

cell_read : {X : Type 0} (S : List X) (r : Region) (p : Shape) (w : ArrayType) (f s : Shape) (c : ℕ) → r.type ≡ shaped w.base (f ++ w.shape) → p ≡ f ++ s → c < size p
    → read S (region w (cell_place (source_of r p w) c)) ≡ cell_at p w (read S r) c
cell_read S r p w f s c e u k =
    let k' : c < size (f ++ s) = rw u at k in
    rw (u, e) (ap (array_of w) (ap (λ (n : ℕ). part S (r.place + (c / n) * size w.shape) (size w.shape)) (repeats_is f s w.shape)
    ∙ sym (lift_at f s w.shape (part S r.place (size (f ++ w.shape))) c k'
    ∙ part_part S r.place (size (f ++ w.shape)) ((c / size s) * size w.shape) (size w.shape) (cell_within f s w.shape c k'))))

pub cell_below : (r : Region) (p : Shape) (w : ArrayType) (f s : Shape) (c q : ℕ) → r.type ≡ shaped w.base (f ++ w.shape) → p ≡ f ++ s → c < size p → r.place + long r ≤ q
    → cell_place (source_of r p w) c + size w.shape ≤ q
cell_below r p w f s c q e u k h =
    let k' : c < size (f ++ s) = rw u at k in
    let h' : r.place + size (f ++ w.shape) ≤ q = rw e at h in
    let b = cell_within f s w.shape c k' in
    rw (u, e, repeats_is f s w.shape) (omega arith)

-- the operands' cells number c, read at their places
pub cells_read : {X : Type 0} (S : List X) (L : List Region) (p : Shape) (c : ℕ) (ws : List ArrayType) (os : List ℕ) → c < size p → Lifts (region_types L) p ws os
    → reads S (regions ws (cell_places (sources_of L p ws os) c)) ≡ cells_at (reads S L) p c ws os
cells_read S L p c ws os k none = refl
cells_read {X} S L p c ws os k (one {w = w} {ws = ws'} {o = o} {os = os'} f r i e u t) =
    rw (cells_read S L p c ws' os' k t, reads_at S L o)
    (ap (λ (z : Array X). z ∷ cells_at (reads S L) p c ws' os') (cell_read S (get_or L o no_region) p w f r c (types_at L o ∙ e) u k))

pub cells_below : (L : List Region) (q : ℕ) (p : Shape) (c : ℕ) (ws : List ArrayType) (os : List ℕ) → Below q L → c < size p → Lifts (region_types L) p ws os
    → Below q (regions ws (cell_places (sources_of L p ws os) c))
cells_below L q p c ws os h k none = tt
cells_below L q p c ws os h k (one {w = w} {ws = ws'} {o = o} {os = os'} f r i e u t) =
    (cell_below (get_or L o no_region) p w f r c q (types_at L o ∙ e) u k (below_at q L o h), cells_below L q p c ws' os' h k t)

pub cells_types : (L : List Region) (p : Shape) (c : ℕ) (ws : List ArrayType) (os : List ℕ) → Lifts (region_types L) p ws os → region_types (regions ws (cell_places (sources_of L p ws os) c)) ≡ ws
cells_types L p c ws os none = refl
cells_types L p c ws os (one {w = w} {ws = ws'} {o = o} {os = os'} f r i e u t) = ap (λ (z : List ArrayType). w ∷ z) (cells_types L p c ws' os' t)
