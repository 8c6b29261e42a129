-- A typed line, and a typed formula, gives as many items as its shape's size.
use Rattle.std.proofs.Common.{◌≡◌, ℕ, zero, suc, ◌+◌, ◌*◌, ◌/◌, ◌<◌, ◌≤◌, Bool, true, ◌⊎◌, List, [], ◌∷◌, ◌++◌, reverse, length, get_or, drop, is_some, sym, refl, ap, ◌∙◌, inl, inr, append_assoc, append-nil, suc-mul, add-mul, zero-mul, arith, length-append, length-drop}
use lib.ListN.{length-replicate}
use Rattle.std.proofs.lemmas.Bool.{eq-eqb, ne_eqb, cases_eq}
use Rattle.std.proofs.lemmas.List.{length-map, reverse-append}
use Rattle.remora.specs.Shapes.{Shape, size, Bounds}
use Rattle.remora.specs.Algebras.{Meaning}
use Rattle.remora.specs.Formulas.{ArrayType, shaped, no_type, Line, Formula, Entry, Function, primitive, formula, fold, append, reversal, cells, result_cell, TypedLine, literal, parameter, frame, application, type_of, last_or}
use Rattle.remora.specs.Typing.{InSet, Alike, no_operand, operand, Operands, no_operands, and_operand, Names, names_operator, names_formula, names_fold, names_append, names_reverse, Types, t_array, t_var, t_frame, t_app, TypesAll, no_lines, and_line}
use Rattle.remora.specs.Evaluation.{split, concat, Array, array_of, no_array, items_at, Outcome, yields, faults, Cells, all, upto, Attempt, value, failed, and_then, Operations, cell_at, cells_at, firsts, combined, fold_from, folded, told, apply_cell, collapse, map_cells, joined, eval_line, onward, eval_lines}
use Rattle.remora.specs.Forecasts.{entry_of}
use Rattle.remora.specs.Numbers.{lines_of, known, eval, any_number, AllTyped}
use Rattle.remora.proofs.Lifting.{size_append, lift_at, cell_within, length_part, length_split, last_or_snoc}

-- ---- what typing says of a typed line alone

-- each operand ends in its cell, and its frame is a prefix of p
pub data Lifts (types : List ArrayType) (p : Shape) : List ArrayType → List ℕ → Type 0 where
  none : Lifts types p [] []
  one : {w : ArrayType} {ws : List ArrayType} {o : ℕ} {os : List ℕ} (f rest : Shape) → o < length types → get_or types o no_type ≡ shaped w.base (f ++ w.shape) → p ≡ f ++ rest
      → Lifts types p ws os → Lifts types p (w ∷ ws) (o ∷ os)

pub operands_lift : (types : List ArrayType) (p : Shape) (ws : List ArrayType) (os : List ℕ) (fs : List Shape) → Operands types ws os fs → Bounds p fs → Lifts types p ws os
operands_lift types p ws os fs no_operands b = none
operands_lift types p ws os fs (and_operand {ws = ws'} {os = os'} {fs = fs'} f i e t) b = one f b.0.0 i e b.0.1 (operands_lift types p ws' os' fs' t b.1)

-- the function is known, and a fold's operator takes two operands of its one base type and has a unit where it needs one
abbrev pub FunctionFits : Meaning → ℕ → Function → Type 0
FunctionFits m n (primitive o) = o < m.operators
FunctionFits m n (formula g) = g < n
FunctionFits m n (fold o b k d) = (o < m.operators) × ((m.operator o).operands ≡ b ∷ b ∷ []) × ((m.operator o).result ≡ b) × (k ≡ 0 → is_some (m.operator o).unit ≡ true)
FunctionFits m n (append b j k d) = Unit {0}
FunctionFits m n (reversal b k d) = Unit {0}

pub data Sound (m : Meaning) (n : ℕ) (E : ℕ → Entry) (ps types : List ArrayType) : TypedLine → Type 0 where
  s_literal : {t : ArrayType} {cs : List ℕ} → length cs ≡ size t.shape → InSet m.holds t.base cs → Sound m n E ps types (literal t cs)
  s_parameter : {k : ℕ} {t : ArrayType} → k < length ps → get_or ps k no_type ≡ t → Sound m n E ps types (parameter k t)
  s_frame : {os : List ℕ} {p : Shape} {t : ArrayType} (cell : Shape) → t.shape ≡ p ++ cell → length os ≡ size p → Alike types (shaped t.base cell) os → Sound m n E ps types (frame os p t)
  s_application : {f : Function} {os : List ℕ} {p : Shape} {t : ArrayType} → FunctionFits m n f → Lifts types p (cells m E f) os
      → t ≡ shaped (result_cell m E f).base (p ++ (result_cell m E f).shape) → Sound m n E ps types (application f os p t)

pub data SoundAll (m : Meaning) (n : ℕ) (E : ℕ → Entry) (ps : List ArrayType) : List ArrayType → List TypedLine → Type 0 where
  end : {types : List ArrayType} → SoundAll m n E ps types []
  then : {types : List ArrayType} {r : TypedLine} {rs : List TypedLine} → Sound m n E ps types r → SoundAll m n E ps (types ++ type_of r ∷ []) rs → SoundAll m n E ps types (r ∷ rs)

names_fit : (m : Meaning) (n : ℕ) (usable : ℕ → Bool) (l : Line) (f : Function) → Names m n usable l f → FunctionFits m n f
names_fit m n usable l f (names_operator k i) = i
names_fit m n usable l f (names_formula k i u) = i
names_fit m n usable l f (names_fold b k d e i w r s u) = (i, w, r, u)
names_fit m n usable l f (names_append b j k d e s) = tt
names_fit m n usable l f (names_reverse b k d e s) = tt

module _ (m : Meaning) (n : ℕ) (E : ℕ → Entry) (usable : ℕ → Bool) (ps : List ArrayType) where
  types_sound : (types : List ArrayType) (l : Line) (r : TypedLine) → Types m n E usable ps types l r → Sound m n E ps types r
  types_sound types l r (t_array k e u c i s) = s_literal c i
  types_sound types l r (t_var k e i u s) = s_parameter i u
  types_sound types l r (t_frame cell k e u w c i a s) = s_frame cell w i a
  types_sound types l r (t_app fs names e ok j u s) = s_application (names_fit m n usable l _ names) (operands_lift types _ _ _ fs ok j.upper) u

  pub all_sound : (types : List ArrayType) (ls : List Line) (rs : List TypedLine) → TypesAll m n E usable ps types ls rs → SoundAll m n E ps types rs
  all_sound types ls rs no_lines = end
  all_sound types ls rs (and_line {l = l} {ls = ls'} {r = r} {rs = rs'} t ts) = then (types_sound types l r t) (all_sound (types ++ type_of r ∷ []) ls' rs' ts)

-- ---- lengths

abbrev pub LengthA : {X : Type 0} → ℕ → Attempt X (List X) → Type 0
LengthA n (value xs) = length xs ≡ n
LengthA n (failed e o ys) = Unit {0}

abbrev pub LengthO : {X : Type 0} → ℕ → Outcome X → Type 0
LengthO n (yields xs) = length xs ≡ n
LengthO n (faults x) = Unit {0}

abbrev pub LengthC : {X : Type 0} → ℕ → Cells X → Type 0
LengthC n (all xs) = length xs ≡ n
LengthC n (upto xs x) = length xs ≤ n

-- arrays of these types, with as many items as their sizes
abbrev pub Fit : {X : Type 0} → List ArrayType → List (Array X) → Type 0
Fit [] [] = Unit {0}
Fit [] (a ∷ ts) = ⊥
Fit (s ∷ ss) [] = ⊥
Fit (s ∷ ss) (a ∷ ts) = (a.type ≡ s) × (length a.items ≡ size s.shape) × Fit ss ts

module _ {X : Type 0} where
  pub fit_at : (ss : List ArrayType) (ts : List (Array X)) → Fit ss ts → (i : ℕ)
      → ((get_or ts i no_array).type ≡ get_or ss i no_type) × (length (get_or ts i no_array).items ≡ size (get_or ss i no_type).shape)
  fit_at [] [] h i = (refl, refl)
  fit_at [] (a ∷ ts) h i = absurd h
  fit_at (s ∷ ss) [] h i = absurd h
  fit_at (s ∷ ss) (a ∷ ts) h zero = (h.0, h.1)
  fit_at (s ∷ ss) (a ∷ ts) h (suc i) = fit_at ss ts h.2 i

  pub fit_snoc : (ss : List ArrayType) (ts : List (Array X)) (s : ArrayType) (xs : List X) → Fit ss ts → length xs ≡ size s.shape → Fit (ss ++ s ∷ []) (ts ++ array_of s xs ∷ [])
  fit_snoc [] [] s xs h e = (refl, e, tt)
  fit_snoc [] (a ∷ ts) s xs h e = absurd h
  fit_snoc (s₁ ∷ ss) [] s xs h e = absurd h
  fit_snoc (s₁ ∷ ss) (a ∷ ts) s xs h e = (h.0, h.1, fit_snoc ss ts s xs h.2 e)

  fit_last : (d : Array X) (e : ArrayType) (ss : List ArrayType) (ts : List (Array X)) → length d.items ≡ size e.shape → Fit ss ts → length (last_or d ts).items ≡ size (last_or e ss).shape
  fit_last d e [] [] k h = k
  fit_last d e [] (a ∷ ts) k h = absurd h
  fit_last d e (s ∷ ss) [] k h = absurd h
  fit_last d e (s ∷ ss) (a ∷ ts) k h = fit_last a s ss ts h.1 h.2

  then_length : {Y : Type 0} (n : ℕ) (t : Attempt X Y) (k : Y → Attempt X (List X)) → ((x : Y) → LengthA n (k x)) → LengthA n (and_then t k)
  then_length n (value x) k h = h x
  then_length n (failed e o ys) k h = tt

  then_length₂ : (m n : ℕ) (t : Attempt X (List X)) (k : List X → Attempt X (List X)) → LengthA m t → ((xs : List X) → length xs ≡ m → LengthA n (k xs)) → LengthA n (and_then t k)
  then_length₂ m n (value x) k e h = h x e
  then_length₂ m n (failed c o ys) k e h = tt

  combined_length : (O : Operations X) (o : ℕ) (n : ℕ) (xs ys : List X) → length xs ≡ n → length ys ≡ n → LengthA n (combined O o xs ys)
  combined_length O o n [] ys h k = h
  combined_length O o n (x ∷ xs) [] h k = k
  combined_length O o n (x ∷ xs) (y ∷ ys) h k =
      then_length n (O.apply o (x ∷ y ∷ [])) _ (λ z. then_length₂ (length xs) n (combined O o xs ys) _ (combined_length O o (length xs) xs ys refl (omega arith)) (λ zs e. omega arith))

  abbrev AllLong : ℕ → List (List X) → Type 0
  AllLong n [] = Unit {0}
  AllLong n (x ∷ xs) = (length x ≡ n) × AllLong n xs

  split_long : (m k : ℕ) (xs : List X) → length xs ≡ m * k → AllLong k (split m k xs)
  split_long zero k xs h = tt
  split_long (suc m) k xs h =
      let e = suc-mul m k in
      (length_part 0 k xs (omega arith), split_long m k (drop k xs) (simp length-drop (omega arith)))

  fold_from_length : (O : Operations X) (o n : ℕ) (acc : List X) (xs : List (List X)) → length acc ≡ n → AllLong n xs → LengthA n (fold_from O o acc xs)
  fold_from_length O o n acc [] h k = h
  fold_from_length O o n acc (x ∷ xs) h k = then_length₂ n n (combined O o acc x) _ (combined_length O o n acc x h k.0) (λ zs e. fold_from_length O o n zs xs e k.1)

  folded_length : (O : Operations X) (o n : ℕ) (xs : List (List X)) → AllLong n xs → LengthA n (folded O o n xs)
  folded_length O o n [] k = length-replicate n (O.unit o)
  folded_length O o n (x ∷ xs) k = fold_from_length O o n x xs k.0 k.1

  concat_append : (xs ys : List (List X)) → concat (xs ++ ys) ≡ concat xs ++ concat ys
  concat_append [] ys = refl
  concat_append (x ∷ xs) ys = rw (concat_append xs ys) (sym (append_assoc x (concat xs) (concat ys)))

  reverse_cons : (x : List X) (xs : List (List X)) → reverse (x ∷ xs) ≡ reverse xs ++ x ∷ []
  reverse_cons x xs = reverse-append (x ∷ []) xs

  reversed_length : (n : ℕ) (xs : List (List X)) → AllLong n xs → length (concat (reverse xs)) ≡ length xs * n
  reversed_length n [] k = sym (zero-mul n)
  reversed_length n (x ∷ xs) k =
      let e : length (concat (reverse xs ++ x ∷ [])) ≡ length xs * n + n = rw (concat_append (reverse xs) (x ∷ []), length-append, reversed_length n xs k.1, append-nil, k.0) in
      rw (reverse_cons x xs, e) (sym (suc-mul (length xs) n))

  told_length : (g l c n : ℕ) (t : Attempt X (List X)) → LengthA n t → LengthO n (told g l c t)
  told_length g l c n (value xs) h = h
  told_length g l c n (failed e o ys) h = tt

  -- cells
  cell_at_length : (p : Shape) (w : ArrayType) (a : Array X) (s : ArrayType) (f r : Shape) (c : ℕ) → a.type ≡ s → length a.items ≡ size s.shape → s ≡ shaped w.base (f ++ w.shape) → p ≡ f ++ r → c < size p
      → length (cell_at p w a c).items ≡ size w.shape
  cell_at_length p w a s f r c e l q u h =
      let h' : c < size (f ++ r) = rw u at h in
      let l' : length a.items ≡ size (f ++ w.shape) = l ∙ ap (λ (z : ArrayType). size z.shape) q in
      let b : (c / size r) * size w.shape + size w.shape ≤ size (f ++ w.shape) = cell_within f r w.shape c h' in
      rw (u, e, q) (ap length (lift_at f r w.shape a.items c h') ∙ length_part ((c / size r) * size w.shape) (size w.shape) a.items (omega arith))

  pub cells_at_fit : (types : List ArrayType) (env : List (Array X)) (p : Shape) (c : ℕ) (ws : List ArrayType) (os : List ℕ)
      → Fit types env → c < size p → Lifts types p ws os → Fit ws (cells_at env p c ws os)
  cells_at_fit types env p c ws os h k none = tt
  cells_at_fit types env p c ws os h k (one {w = w} {ws = ws'} {o = o} {os = os'} f r i q u t) =
      (refl, cell_at_length p w (get_or env o no_array) (get_or types o no_type) f r c (fit_at types env h o).0 (fit_at types env h o).1 q u k, cells_at_fit types env p c ws' os' h k t)

  joined_length : (types : List ArrayType) (env : List (Array X)) (t : ArrayType) (os : List ℕ) → Fit types env → Alike types t os → length (joined env os) ≡ length os * size t.shape
  joined_length types env t os h no_operand = sym (zero-mul (size t.shape))
  joined_length types env t os h (operand {o = o} {os = os'} i e a) =
      let u : length (items_at env o) ≡ size t.shape = (fit_at types env h o).1 ∙ ap (λ (z : ArrayType). size z.shape) e in
      let v = joined_length types env t os' h a in
      let w = suc-mul (length os') (size t.shape) in
      length-append (items_at env o) (joined env os') ∙ omega arith

  collapse_length : (m n : ℕ) (x : Outcome X) (g : Cells X) → LengthO m x → LengthC n g → LengthC (m + n) (collapse x g)
  collapse_length m n (yields xs) (all ys) h k = rw length-append (omega arith)
  collapse_length m n (yields xs) (upto ys x) h k = rw length-append (omega arith)
  collapse_length m n (faults x) g h k = omega arith

  pub map_cells_length : (f : ℕ → Outcome X) (k N c n : ℕ) → ((i : ℕ) → i < N → LengthO k (f i)) → c + n ≤ N → LengthC (n * k) (map_cells f c n)
  map_cells_length f k N c zero h l = sym (zero-mul k)
  map_cells_length f k N c (suc n) h l =
      let e : k + n * k ≡ suc n * k = omega (arith, suc-mul n k) in
      rw (← e) (collapse_length k (n * k) (f c) (map_cells f (suc c) n) (h c (omega arith)) (map_cells_length f k N (suc c) n h (omega arith)))

  onward_length : (m n : ℕ) (g : Cells X) (k : List X → Outcome X) → LengthC m g → ((xs : List X) → length xs ≡ m → LengthO n (k xs)) → LengthO n (onward g k)
  onward_length m n (all xs) k h f = f xs h
  onward_length m n (upto xs x) k h f = tt

abbrev pub result_from : List ArrayType → List TypedLine → ArrayType
result_from ss [] = last_or no_type ss
result_from ss (r ∷ rs) = result_from (ss ++ type_of r ∷ []) rs

pub result_is : (ss : List ArrayType) (rs : List TypedLine) (x : TypedLine) → type_of x ≡ last_or no_type ss → result_from ss rs ≡ type_of (last_or x rs)
result_is ss [] x h = sym h
result_is ss (r ∷ rs) x h = result_is (ss ++ type_of r ∷ []) rs r (sym (last_or_snoc no_type ss (type_of r)))

-- an evaluation gives as many items as its result's size
abbrev pub Keeps : {X : Type 0} → Entry → (List (Array X) → Outcome X) → Type 0
Keeps {X} e v = (ts : List (Array X)) → Fit e.parameters ts → LengthO (size e.result.shape) (v ts)

module _ {X : Type 0} (m : Meaning) (O : Operations X) (n : ℕ) (E : ℕ → Entry) (V : ℕ → List (Array X) → Outcome X) (keeps : (h : ℕ) → h < n → Keeps (E h) (V h)) where
  apply_cell_length : (g l c : ℕ) (f : Function) (ts : List (Array X)) → FunctionFits m n f → Fit (cells m E f) ts → LengthO (size (result_cell m E f).shape) (apply_cell O V g l c f ts)
  apply_cell_length g l c (primitive o) ts fits h = told_length g l c 1 _ (then_length 1 (O.apply o (firsts ts)) _ (λ z. refl))
  apply_cell_length g l c (formula k) ts fits h = keeps k fits ts h
  apply_cell_length g l c (fold o b n d) ts fits h =
      told_length g l c (size d) _ (folded_length O o (size d) (split n (size d) (items_at ts 0)) (split_long n (size d) (items_at ts 0) (fit_at (cells m E (fold o b n d)) ts h 0).1))
  apply_cell_length g l c (append b j n d) ts fits h =
      let u = (fit_at (cells m E (append b j n d)) ts h 0).1 in
      let v = (fit_at (cells m E (append b j n d)) ts h 1).1 in
      length-append (items_at ts 0) (items_at ts 1) ∙ rw (u, v) (sym (add-mul j n (size d)))
  apply_cell_length g l c (reversal b n d) ts fits h =
      reversed_length (size d) (split n (size d) (items_at ts 0)) (split_long n (size d) (items_at ts 0) (fit_at (cells m E (reversal b n d)) ts h 0).1) ∙ rw length_split

  module _ (g : ℕ) (ps : List ArrayType) (args : List (Array X)) (fits : Fit ps args) where
    pub eval_line_length : (types : List ArrayType) (env : List (Array X)) (r : TypedLine) → Fit types env → Sound m n E ps types r → LengthC (size (type_of r).shape) (eval_line m O E V g args env r)
    unfolding eval_line
    eval_line_length types env (literal t xs) h (s_literal e i) = length-map xs (O.item t.base) ∙ e
    eval_line_length types env (parameter k t) h (s_parameter l e) = rw (← e) (fit_at ps args fits k).1
    eval_line_length types env (frame os p t) h (s_frame cell e l a) = joined_length types env (shaped t.base cell) os h a ∙ rw (e, size_append, l)
    eval_line_length types env (application f os p t) h (s_application fn ok e) =
        rw (e, size_append) (map_cells_length _ (size (result_cell m E f).shape) (size p) 0 (size p)
        (λ i l. apply_cell_length g (length env) i f _ fn (cells_at_fit types env p i (cells m E f) os h l ok)) (omega arith))

    eval_lines_length : (types : List ArrayType) (env : List (Array X)) (rs : List TypedLine) → Fit types env → SoundAll m n E ps types rs
        → LengthO (size (result_from types rs).shape) (eval_lines m O E V g args env rs)
    unfolding eval_lines
    eval_lines_length types env [] h end = fit_last no_array no_type types env refl h
    eval_lines_length types env (r ∷ rs) h (then t u) =
        onward_length (size (type_of r).shape) _ (eval_line m O E V g args env r) _ (eval_line_length types env r h t)
        (λ xs e. eval_lines_length (types ++ type_of r ∷ []) (env ++ array_of (type_of r) xs ∷ []) rs (fit_snoc types env (type_of r) xs h e) u)

-- ---- formulas by number

abbrev pub entry_here : Meaning → Formula → List Formula → Entry
entry_here m f fs = entry_of (known m fs) f.parameters (lines_of m (known m fs) f)

pub known_here : (m : Meaning) (f : Formula) (fs : List Formula) → known m (f ∷ fs) (length fs) ≡ entry_here m f fs
unfolding known
known_here m f fs = rw (eq-eqb (length fs) (length fs) refl)

pub known_below : (m : Meaning) (f : Formula) (fs : List Formula) (g : ℕ) → g < length fs → known m (f ∷ fs) g ≡ known m fs g
unfolding known
known_below m f fs g h = rw (ne_eqb g (length fs) (λ e. omega arith))

pub eval_here : {X : Type 0} (m : Meaning) (O : Operations X) (f : Formula) (fs : List Formula) (ts : List (Array X))
    → eval m O (f ∷ fs) (length fs) ts ≡ eval_lines m O (known m fs) (eval m O fs) (length fs) ts [] (lines_of m (known m fs) f)
unfolding eval
eval_here m O f fs ts = rw (eq-eqb (length fs) (length fs) refl)

pub eval_below : {X : Type 0} (m : Meaning) (O : Operations X) (f : Formula) (fs : List Formula) (g : ℕ) (ts : List (Array X)) → g < length fs → eval m O (f ∷ fs) g ts ≡ eval m O fs g ts
unfolding eval
eval_below m O f fs g ts h = rw (ne_eqb g (length fs) (λ e. omega arith))

pub known_later : (m : Meaning) (fs newer : List Formula) (g : ℕ) → g < length fs → known m (newer ++ fs) g ≡ known m fs g
known_later m fs [] g l = refl
known_later m fs (f ∷ newer) g l = known_below m f (newer ++ fs) g (simp length-append (omega arith)) ∙ known_later m fs newer g l

pub eval_later : {X : Type 0} (m : Meaning) (O : Operations X) (fs newer : List Formula) (g : ℕ) (ts : List (Array X)) → g < length fs → eval m O (newer ++ fs) g ts ≡ eval m O fs g ts
eval_later m O fs [] g ts l = refl
eval_later m O fs (f ∷ newer) g ts l = eval_below m O f (newer ++ fs) g ts (simp length-append (omega arith)) ∙ eval_later m O fs newer g ts l

-- each formula's typed lines are sound
abbrev pub Sounds : Meaning → List Formula → Type 0
Sounds m [] = Unit {0}
Sounds m (f ∷ fs) = SoundAll m (length fs) (known m fs) f.parameters [] (lines_of m (known m fs) f) × Sounds m fs

pub typed_sounds : (m : Meaning) (fs : List Formula) → AllTyped m fs → Sounds m fs
typed_sounds m [] t = tt
typed_sounds m (f ∷ fs) t = (all_sound m (length fs) (known m fs) any_number f.parameters [] f.lines _ t.0, typed_sounds m fs t.1)

-- evaluation of a typed formula gives as many items as the size of its result
pub keeps_all : {X : Type 0} (m : Meaning) (O : Operations X) (fs : List Formula) → Sounds m fs → (g : ℕ) → g < length fs → Keeps (known m fs g) (eval m O fs g)
keeps_all m O [] t g l = absurd (omega arith)
keeps_all {X} m O (f ∷ fs) t g l = go (cases_eq g (length fs)) (keeps_all m O fs t.1)
  where
    go : (g ≡ length fs) ⊎ (g ≡ length fs → ⊥) → ((h : ℕ) → h < length fs → Keeps (known m fs h) (eval m O fs h)) → Keeps (known m (f ∷ fs) g) (eval m O (f ∷ fs) g)
    go (inl e) k = rw (e, known_here m f fs) (λ ts fit. rw (eval_here m O f fs ts, ← (result_is [] (lines_of m (known m fs) f) (literal no_type []) refl))
        (eval_lines_length m O (length fs) (known m fs) (eval m O fs) k (length fs) f.parameters ts fit [] [] (lines_of m (known m fs) f) tt t.0))
    go (inr n) k = rw (known_below m f fs g (omega arith)) (λ ts fit. rw (eval_below m O f fs g ts (omega arith)) (k g (omega arith) ts fit))
