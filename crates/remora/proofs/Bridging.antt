-- From the plan's numbers to typed lines: what a step settles is what evaluation of the line gives on the arrays in the store.
use Rattle.std.proofs.Common.{◌≡◌, ℕ, zero, suc, ◌+◌, ◌*◌, ◌<◌, ◌≤◌, true, false, ltb, List, [], ◌∷◌, ◌++◌, length, get_or, take, drop, is_some, Some, None, Option, sym, refl, ap, ◌∙◌, subst, append_assoc, append-nil, add-zero, add_assoc, arith, length-append, drop-cons, drop_at}
use Rattle.std.proofs.lemmas.List.{get_or_append_left}
use Rattle.std.proofs.lemmas.Bool.{lt-ltb, both_ways}
use Rattle.remora.specs.Shapes.{Shape, size}
use Rattle.remora.specs.Algebras.{Sample, Meaning}
use Rattle.remora.specs.Formulas.{ArrayType, shaped, no_type, Kind, Entry, primitive, formula, fold, append, reversal, scalars, TypedLine, literal, parameter, frame, application, type_of, types_of, last_or}
use Rattle.remora.specs.Typing.{Alike, no_operand, operand}
use Rattle.remora.specs.Questions.{type_at}
use Rattle.remora.specs.Evaluation.{split, Array, items_at, Outcome, Cells, all, value, and_then, repeats, cells_at, firsts, folded, told, apply_cell, map_cells, joined, eval_line}
use Rattle.remora.specs.Forecasts.{atoms}
use Rattle.remora.specs.Machine.{Plan, no_plan, operands_of, frame_operands, plan_of, plans, part, Activation, activation, is_parameter, place_of, Source, sources, no_source, cell_place, cell_places, no_sample, unit_sample, on_samples, gathered, operator_cell, unit_places, fold_samples, fold_cell, append_cell, reverse_cell, frame_cells, settled, at, choose, settle, step_line, step}
use Rattle.remora.proofs.Sizes.{Lifts, none, one, FunctionFits, Sound, s_parameter, s_frame, s_application, SoundAll, then}
use Rattle.remora.proofs.Regions.{Region, no_region, reads, regions, region_types, Below, below_at, types_at, types_length, reads_at, reads_length, regions_place, region_of, layout, behind, region_type, layout_append, layout_length, behind_add, source_of, sources_of, cell_below, cells_read}

-- ---- plans

module _ (m : Meaning) (E : ℕ → Entry) where
  pub plans_length : (types : List ArrayType) (q : ℕ) (rs : List TypedLine) → length (plans m E types q rs) ≡ length rs
  plans_length types q [] = refl
  plans_length types q (r ∷ rs) = ap suc (plans_length (types ++ type_of r ∷ []) (q + atoms r) rs)

  -- the plan at the line behind past
  pub plan_at_lem : (types : List ArrayType) (q : ℕ) (past rest : List TypedLine) (r : TypedLine)
      → get_or (plans m E types q (past ++ r ∷ rest)) (length past) no_plan ≡ plan_of m E (types ++ types_of past) (behind q past) r
  plan_at_lem types q [] rest r = ap (λ (ts : List ArrayType). plan_of m E ts q r) (sym (append-nil types))
  plan_at_lem types q (s ∷ past) rest r =
      plan_at_lem (types ++ type_of s ∷ []) (q + atoms s) past rest r ∙ ap (λ (ts : List ArrayType). plan_of m E ts (behind (q + atoms s) past) r) (append_assoc types (type_of s ∷ []) (types_of past))

  -- where a line with a plan lies, by what it is
  place_one : (n : ℕ) (params types : List ArrayType) (b : ℕ) (ps : List ℕ) (q : ℕ) (r : TypedLine) → Sound m n E params types r
      → place_of b ps (plan_of m E types q r) ≡ (region_of (regions params ps) (b + q) r).place
  place_one n params types b ps q (literal t cs) s = refl
  place_one n params types b ps q (parameter k t) (s_parameter l e) = sym (regions_place params ps k l)
  place_one n params types b ps q (frame os p t) s = refl
  place_one n params types b ps q (application (primitive o) os p t) s = refl
  place_one n params types b ps q (application (formula o) os p t) s = refl
  place_one n params types b ps q (application (fold o c k d) os p t) s = refl
  place_one n params types b ps q (application (append c j k d) os p t) s = refl
  place_one n params types b ps q (application (reversal c k d) os p t) s = refl

  -- each line lies where the layout has it
  place_at : (n : ℕ) (params types : List ArrayType) (b : ℕ) (ps : List ℕ) (q : ℕ) (rs : List TypedLine) (o : ℕ) → SoundAll m n E params types rs → o < length rs
      → place_of b ps (get_or (plans m E types q rs) o no_plan) ≡ (get_or (layout (regions params ps) (b + q) rs) o no_region).place
  place_at n params types b ps q [] o s h = absurd (omega arith)
  place_at n params types b ps q (r ∷ rs) zero (then s ss) h = place_one n params types b ps q r s
  place_at n params types b ps q (r ∷ rs) (suc o) (then s ss) h =
      place_at n params (types ++ type_of r ∷ []) b ps (q + atoms r) rs o ss (omega arith)
      ∙ ap (λ (i : ℕ). (get_or (layout (regions params ps) i rs) o no_region).place) (sym (add_assoc b q (atoms r)))

  -- the last line lies where the layout has it
  pub place_last : (n : ℕ) (params types : List ArrayType) (b : ℕ) (ps : List ℕ) (q : ℕ) (rs : List TypedLine) (x : Plan) (d : Region) → SoundAll m n E params types rs → place_of b ps x ≡ d.place
      → place_of b ps (last_or x (plans m E types q rs)) ≡ (last_or d (layout (regions params ps) (b + q) rs)).place
  place_last n params types b ps q [] x d s e = e
  place_last n params types b ps q (r ∷ rs) x d (then s ss) e =
      place_last n params (types ++ type_of r ∷ []) b ps (q + atoms r) rs (plan_of m E types q r) (region_of (regions params ps) (b + q) r) ss (place_one n params types b ps q r s)
      ∙ ap (λ (i : ℕ). (last_or (region_of (regions params ps) (b + q) r) (layout (regions params ps) i rs)).place) (sym (add_assoc b q (atoms r)))

  plan_of_type : (types : List ArrayType) (q : ℕ) (r : TypedLine) → (plan_of m E types q r).type ≡ type_of r
  plan_of_type types q (literal t cs) = refl
  plan_of_type types q (parameter k t) = refl
  plan_of_type types q (frame os p t) = refl
  plan_of_type types q (application f os p t) = refl

  pub plans_last : (types : List ArrayType) (q : ℕ) (rs : List TypedLine) (x : Plan) (y : TypedLine) → x.type ≡ type_of y → (last_or x (plans m E types q rs)).type ≡ type_of (last_or y rs)
  plans_last types q [] x y e = e
  plans_last types q (r ∷ rs) x y e = plans_last (types ++ type_of r ∷ []) (q + atoms r) rs (plan_of m E types q r) r (plan_of_type types q r)

pub layout_types : (P : List Region) (b : ℕ) (rs : List TypedLine) → region_types (layout P b rs) ≡ types_of rs
layout_types P b [] = refl
layout_types P b (r ∷ rs) = rw (region_type P b r) (ap (λ (ts : List ArrayType). type_of r ∷ ts) (layout_types P (b + atoms r) rs))

-- ---- the activation at line r of a formula with typed lines past ++ r ∷ rest

map_cells_same : {X : Type 0} (F G : ℕ → Outcome X) (c n : ℕ) → ((i : ℕ) → c ≤ i → i < c + n → F i ≡ G i) → map_cells F c n ≡ map_cells G c n
map_cells_same F G c zero h = refl
map_cells_same F G c (suc n) h = rw (h c (omega arith) (omega arith), map_cells_same F G (suc c) n (λ i a b. h i (omega arith) (omega arith)))

-- cell c of each operand begins below place q
abbrev Readable : List Source → ℕ → ℕ → Type 0
Readable ss c q = (j : ℕ) → j < length ss → cell_place (get_or ss j no_source) c < q

readable : (L : List Region) (q : ℕ) (p : Shape) (c : ℕ) (bs os : List ℕ) → Below q L → c < size p → Lifts (region_types L) p (scalars bs) os → Readable (sources_of L p (scalars bs) os) c q
readable L q p c [] [] low h none = λ j k. absurd (omega arith)
readable L q p c [] (o ∷ os) low h x = elim x [ ]
readable L q p c (b ∷ bs) [] low h x = elim x [ ]
readable L q p c (b ∷ bs) (o ∷ os) low h (one f r i e u t) = go (readable L q p c bs os low h t)
  where
    s : cell_place (source_of (get_or L o no_region) p (shaped b [])) c + 1 ≤ q
    s = cell_below (get_or L o no_region) p (shaped b []) f r c q (types_at L o ∙ e) u h (below_at q L o low)

    go : Readable (sources_of L p (scalars bs) os) c q → Readable (sources_of L p (scalars (b ∷ bs)) (o ∷ os)) c q
    go ih zero k = let v = s in omega arith
    go ih (suc j) k = ih j (omega arith)

first_at : (S : List Sample) (p : ℕ) → p < length S → take 1 (take 1 (drop p S)) ≡ get_or S p no_sample ∷ []
first_at S p h = rw (drop-cons S p no_sample h)

firsts_read : (S : List Sample) (L : List Region) (p : Shape) (c : ℕ) (bs os : List ℕ) → Readable (sources_of L p (scalars bs) os) c (length S)
    → firsts (reads S (regions (scalars bs) (cell_places (sources_of L p (scalars bs) os) c))) ≡ gathered S (sources_of L p (scalars bs) os) c
firsts_read S L p c [] os h = refl
firsts_read S L p c (b ∷ bs) [] h = refl
firsts_read S L p c (b ∷ bs) (o ∷ os) h =
    rw (first_at S (cell_place (source_of (get_or L o no_region) p (shaped b [])) c) (h 0 (omega arith)))
    (ap (λ (r : List Sample). get_or S (cell_place (source_of (get_or L o no_region) p (shaped b [])) c) no_sample ∷ r) (firsts_read S L p c bs os (λ j k. h (suc j) (omega arith))))

lifts_sources : (m : Meaning) (E : ℕ → Entry) (b : ℕ) (ps : List ℕ) (Q : List Plan) (L : List Region) (types : List ArrayType) (p : Shape) (ws : List ArrayType) (os : List ℕ)
    → region_types L ≡ types → ((o : ℕ) → o < length L → place_of b ps (get_or Q o no_plan) ≡ (get_or L o no_region).place) → Lifts types p ws os
    → sources Q b ps (operands_of types p ws os) ≡ sources_of L p ws os
lifts_sources m E b ps Q L types p ws os e h none = refl
lifts_sources m E b ps Q L types p ws os e h (one {w = w} {ws = ws'} {o = o} {os = os'} f r i u v t) =
    let l : o < length L = let k = ap length e in let k' = types_length L in omega arith in
    let w-is : type_at types o ≡ (get_or L o no_region).type = ap (λ (ts : List ArrayType). get_or ts o no_type) (sym e) ∙ sym (types_at L o) in
    ap (λ (x : ℕ). record { place = x; repeats = repeats p w.shape (type_at types o).shape; size = size w.shape } ∷ sources Q b ps (operands_of types p ws' os')) (h o l)
    ∙ ap (λ (x : ArrayType). record { place = (get_or L o no_region).place; repeats = repeats p w.shape x.shape; size = size w.shape } ∷ sources Q b ps (operands_of types p ws' os')) w-is
    ∙ ap (λ (ss : List Source). source_of (get_or L o no_region) p w ∷ ss) (lifts_sources m E b ps Q L types p ws' os' e h t)

module _ (m : Meaning) (n : ℕ) (E : ℕ → Entry) (V : ℕ → List (Array Sample) → Outcome Sample) (g l b : ℕ) (ps : List ℕ) (args : List (Array Sample)) (S : List Sample) (q : ℕ)
    (Q : List Plan) (L : List Region) (low : Below q L) (room : q ≤ length S) (here : l ≡ length L) (places : (o : ℕ) → o < length L → place_of b ps (get_or Q o no_plan) ≡ (get_or L o no_region).place) where
  line_is : l ≡ length (reads S L)
  line_is = here ∙ sym (reads_length S L)

  operator_cells : (o : ℕ) (os : List ℕ) (p : Shape) → Lifts (region_types L) p (scalars (m.operator o).operands) os
      → map_cells (operator_cell m o g l (sources_of L p (scalars (m.operator o).operands) os) S) 0 (size p)
      ≡ map_cells (λ c. apply_cell (on_samples m) V g (length (reads S L)) c (primitive o) (cells_at (reads S L) p c (scalars (m.operator o).operands) os)) 0 (size p)
  unfolding operator_cell
  operator_cells o os p ok =
      rw line_is (map_cells_same _ _ 0 (size p) (λ c a d.
      let h : c < size p = omega arith in
      let wide : Readable (sources_of L p (scalars (m.operator o).operands) os) c (length S) = λ j k. let v = readable L q p c (m.operator o).operands os low h ok j k in omega arith in
      ap (λ (ss : List Sample). told g (length (reads S L)) c (and_then ((on_samples m).apply o ss) (λ z. value (z ∷ []))))
      (sym (firsts_read S L p c (m.operator o).operands os wide) ∙ ap firsts (cells_read S L p c (scalars (m.operator o).operands) os h ok))))

  -- a fold without items finds its unit
  fold_samples_lem : (o b' k : ℕ) (d : Shape) (xs : List Sample) → FunctionFits m n (fold o b' k d) → fold_samples m o k (size d) xs ≡ folded (on_samples m) o (size d) (split k (size d) xs)
  fold_samples_lem o b' zero d xs fits = rw (lt-ltb o m.operators fits.0) (go (m.operator o).unit (fits.3 refl))
    where
      go : (u : Option ℕ) → is_some u ≡ true → unit_places o (m.operator o).result (size d) u ≡ value (lib.ListN.replicate (size d) (unit_sample (m.operator o).result u))
      go None e = absurd (both_ways false refl e)
      go (Some u) e = refl
  fold_samples_lem o b' (suc k) d xs fits = refl

  fold_cells : (o b' k i : ℕ) (d : Shape) (p : Shape) → FunctionFits m n (fold o b' k d) → Lifts (region_types L) p (shaped b' (k ∷ d) ∷ []) (i ∷ [])
      → map_cells (fold_cell m o k (size d) g l (source_of (get_or L i no_region) p (shaped b' (k ∷ d))) S) 0 (size p)
      ≡ map_cells (λ c. apply_cell (on_samples m) V g (length (reads S L)) c (fold o b' k d) (cells_at (reads S L) p c (shaped b' (k ∷ d) ∷ []) (i ∷ []))) 0 (size p)
  unfolding fold_cell
  fold_cells o b' k i d p fits ok =
      rw line_is (map_cells_same _ _ 0 (size p) (λ c x y.
      let h : c < size p = omega arith in
      ap (told g (length (reads S L)) c) (fold_samples_lem o b' k d (part S (cell_place (source_of (get_or L i no_region) p (shaped b' (k ∷ d))) c) (k * size d)) fits)
      ∙ ap (λ (ts : List (Array Sample)). apply_cell (on_samples m) V g (length (reads S L)) c (fold o b' k d) ts) (cells_read S L p c (shaped b' (k ∷ d) ∷ []) (i ∷ []) h ok)))

  append_cells : (b' j k i i' : ℕ) (d : Shape) (p : Shape) → Lifts (region_types L) p (shaped b' (j ∷ d) ∷ shaped b' (k ∷ d) ∷ []) (i ∷ i' ∷ [])
      → map_cells (append_cell (source_of (get_or L i no_region) p (shaped b' (j ∷ d))) (source_of (get_or L i' no_region) p (shaped b' (k ∷ d))) S) 0 (size p)
      ≡ map_cells (λ c. apply_cell (on_samples m) V g (length (reads S L)) c (append b' j k d) (cells_at (reads S L) p c (shaped b' (j ∷ d) ∷ shaped b' (k ∷ d) ∷ []) (i ∷ i' ∷ []))) 0 (size p)
  unfolding append_cell
  append_cells b' j k i i' d p ok =
      map_cells_same _ _ 0 (size p) (λ c x y.
      let h : c < size p = omega arith in
      ap (λ (ts : List (Array Sample)). apply_cell (on_samples m) V g (length (reads S L)) c (append b' j k d) ts) (cells_read S L p c (shaped b' (j ∷ d) ∷ shaped b' (k ∷ d) ∷ []) (i ∷ i' ∷ []) h ok))

  reverse_cells : (b' k i : ℕ) (d : Shape) (p : Shape) → Lifts (region_types L) p (shaped b' (k ∷ d) ∷ []) (i ∷ [])
      → map_cells (reverse_cell (source_of (get_or L i no_region) p (shaped b' (k ∷ d))) k (size d) S) 0 (size p)
      ≡ map_cells (λ c. apply_cell (on_samples m) V g (length (reads S L)) c (reversal b' k d) (cells_at (reads S L) p c (shaped b' (k ∷ d) ∷ []) (i ∷ []))) 0 (size p)
  unfolding reverse_cell
  reverse_cells b' k i d p ok =
      map_cells_same _ _ 0 (size p) (λ c x y.
      let h : c < size p = omega arith in
      ap (λ (ts : List (Array Sample)). apply_cell (on_samples m) V g (length (reads S L)) c (reversal b' k d) ts) (cells_read S L p c (shaped b' (k ∷ d) ∷ []) (i ∷ []) h ok))

  frame_cells_lem : (t : ArrayType) (os : List ℕ) → Alike (region_types L) t os → frame_cells S (sources Q b ps (frame_operands t.shape os)) ≡ joined (reads S L) os
  frame_cells_lem t os no_operand = refl
  frame_cells_lem t os (operand {o = o} {os = os'} i e a) =
      let lo : o < length L = let k' = types_length L in omega arith in
      let type-is : (get_or L o no_region).type ≡ t = types_at L o ∙ e in
      ap (λ (x : ℕ). part S x (size t.shape) ++ frame_cells S (sources Q b ps (frame_operands t.shape os'))) (places o lo)
      ∙ ap (λ (x : ArrayType). part S (get_or L o no_region).place (size x.shape) ++ frame_cells S (sources Q b ps (frame_operands t.shape os'))) (sym type-is)
      ∙ ap (λ (x : Array Sample). x.items ++ frame_cells S (sources Q b ps (frame_operands t.shape os'))) (sym (reads_at S L o))
      ∙ ap (λ (xs : List Sample). items_at (reads S L) o ++ xs) (frame_cells_lem t os' a)

  abbrev Settles : TypedLine → Plan → Kind → Type 0
  Settles r x k = settled m g l x (sources Q b ps x.operands) S k ≡ eval_line m (on_samples m) E V g args (reads S L) r

  -- what is settled at a line is what its evaluation gives
  pub settles : (params types : List ArrayType) (off : ℕ) (r : TypedLine) → region_types L ≡ types → Sound m n E params types r
      → (is_parameter (plan_of m E types off r).kind ≡ false) → ((h : ℕ) (os : List ℕ) (p : Shape) (t : ArrayType) → r ≡ application (formula h) os p t → ⊥)
      → Settles r (plan_of m E types off r) (plan_of m E types off r).kind
  unfolding eval_line
  settles params types off (literal t cs) e s np nc = refl
  settles params types off (parameter k t) e s np nc = absurd (both_ways true np refl)
  settles params types off (frame os p t) e (s_frame cell w c a) np nc =
      let cell_is : drop (length p) t.shape ≡ cell = ap (drop (length p)) w ∙ drop_at p cell (length p) refl in
      ap (λ (x : Shape). all (frame_cells S (sources Q b ps (frame_operands x os)))) cell_is
      ∙ ap all (frame_cells_lem (shaped t.base cell) os (subst (λ (ts : List ArrayType). Alike ts (shaped t.base cell) os) (sym e) a))
  settles params types off (application (primitive o) os p t) e (s_application fits ok u) np nc =
      let ok' : Lifts (region_types L) p (scalars (m.operator o).operands) os = subst (λ (ts : List ArrayType). Lifts ts p (scalars (m.operator o).operands) os) (sym e) ok in
      ap (λ (ss : List Source). map_cells (operator_cell m o g l ss S) 0 (size p)) (lifts_sources m E b ps Q L types p (scalars (m.operator o).operands) os e places ok) ∙ operator_cells o os p ok'
  settles params types off (application (formula h) os p t) e s np nc = absurd (nc h os p t refl)
  settles params types off (application (fold o b' k d) os p t) e (s_application fits ok u) np nc = go os ok
    where
      go : (js : List ℕ) → Lifts types p (shaped b' (k ∷ d) ∷ []) js
          → map_cells (fold_cell m o k (size d) g l (get_or (sources Q b ps (operands_of types p (shaped b' (k ∷ d) ∷ []) js)) 0 no_source) S) 0 (size p)
          ≡ map_cells (λ c. apply_cell (on_samples m) V g (length (reads S L)) c (fold o b' k d) (cells_at (reads S L) p c (shaped b' (k ∷ d) ∷ []) js)) 0 (size p)
      go [] x = elim x [ ]
      go (i ∷ []) x =
          ap (λ (ss : List Source). map_cells (fold_cell m o k (size d) g l (get_or ss 0 no_source) S) 0 (size p)) (lifts_sources m E b ps Q L types p (shaped b' (k ∷ d) ∷ []) (i ∷ []) e places x)
          ∙ fold_cells o b' k i d p fits (subst (λ (ts : List ArrayType). Lifts ts p (shaped b' (k ∷ d) ∷ []) (i ∷ [])) (sym e) x)
      go (i ∷ j ∷ js) (one f r' i' u' v x) = elim x [ ]
  settles params types off (application (append b' j k d) os p t) e (s_application fits ok u) np nc = go os ok
    where
      go : (js : List ℕ) → Lifts types p (shaped b' (j ∷ d) ∷ shaped b' (k ∷ d) ∷ []) js
          → map_cells (append_cell (get_or (sources Q b ps (operands_of types p (shaped b' (j ∷ d) ∷ shaped b' (k ∷ d) ∷ []) js)) 0 no_source) (get_or (sources Q b ps (operands_of types p (shaped b' (j ∷ d) ∷ shaped b' (k ∷ d) ∷ []) js)) 1 no_source) S) 0 (size p)
          ≡ map_cells (λ c. apply_cell (on_samples m) V g (length (reads S L)) c (append b' j k d) (cells_at (reads S L) p c (shaped b' (j ∷ d) ∷ shaped b' (k ∷ d) ∷ []) js)) 0 (size p)
      go [] x = elim x [ ]
      go (i ∷ []) (one f r' i' u' v x) = elim x [ ]
      go (i ∷ i₂ ∷ []) x =
          ap (λ (ss : List Source). map_cells (append_cell (get_or ss 0 no_source) (get_or ss 1 no_source) S) 0 (size p)) (lifts_sources m E b ps Q L types p (shaped b' (j ∷ d) ∷ shaped b' (k ∷ d) ∷ []) (i ∷ i₂ ∷ []) e places x)
          ∙ append_cells b' j k i i₂ d p (subst (λ (ts : List ArrayType). Lifts ts p (shaped b' (j ∷ d) ∷ shaped b' (k ∷ d) ∷ []) (i ∷ i₂ ∷ [])) (sym e) x)
      go (i ∷ i₂ ∷ i₃ ∷ js) (one f r' i' u' v (one f₂ r₂ i₄ u₂ v₂ x)) = elim x [ ]
  settles params types off (application (reversal b' k d) os p t) e (s_application fits ok u) np nc = go os ok
    where
      go : (js : List ℕ) → Lifts types p (shaped b' (k ∷ d) ∷ []) js
          → map_cells (reverse_cell (get_or (sources Q b ps (operands_of types p (shaped b' (k ∷ d) ∷ []) js)) 0 no_source) k (size d) S) 0 (size p)
          ≡ map_cells (λ c. apply_cell (on_samples m) V g (length (reads S L)) c (reversal b' k d) (cells_at (reads S L) p c (shaped b' (k ∷ d) ∷ []) js)) 0 (size p)
      go [] x = elim x [ ]
      go (i ∷ []) x =
          ap (λ (ss : List Source). map_cells (reverse_cell (get_or ss 0 no_source) k (size d) S) 0 (size p)) (lifts_sources m E b ps Q L types p (shaped b' (k ∷ d) ∷ []) (i ∷ []) e places x)
          ∙ reverse_cells b' k i d p (subst (λ (ts : List ArrayType). Lifts ts p (shaped b' (k ∷ d) ∷ []) (i ∷ [])) (sym e) x)
      go (i ∷ j ∷ js) (one f r' i' u' v x) = elim x [ ]

-- ---- one step

module _ (m : Meaning) (n : ℕ) (E : ℕ → Entry) (params : List ArrayType) (rows : List TypedLine) (sound : SoundAll m n E params [] rows) (F : ℕ → List Plan) (g : ℕ) (here : F g ≡ plans m E [] 0 rows)
    (b : ℕ) (ps : List ℕ) (below : List Activation) (past rest : List TypedLine) (r : TypedLine) (split-is : rows ≡ past ++ r ∷ rest) where
  abbrev x : Plan
  x = plan_of m E (types_of past) (behind 0 past) r

  abbrev L : List Region
  L = layout (regions params ps) b past

  pub plan_here : get_or (F g) (length past) no_plan ≡ x
  plan_here = ap (λ (Q : List Plan). get_or Q (length past) no_plan) here ∙ ap (λ (rs : List TypedLine). get_or (plans m E [] 0 rs) (length past) no_plan) split-is ∙ plan_at_lem m E [] 0 past rest r

  long_here : ltb (length past) (length (F g)) ≡ true
  long_here = lt-ltb (length past) (length (F g)) (let e : length (F g) ≡ length past + suc (length rest) = ap length here ∙ plans_length m E [] 0 rows ∙ ap length split-is ∙ length-append past (r ∷ rest) in omega arith)

  pub place_here : b + x.offset ≡ behind b past
  place_here = go r
    where
      go : (r' : TypedLine) → b + (plan_of m E (types_of past) (behind 0 past) r').offset ≡ behind b past
      go (literal t cs) = sym (behind_add b 0 past) ∙ ap (λ (i : ℕ). behind i past) (add-zero b)
      go (parameter k t) = sym (behind_add b 0 past) ∙ ap (λ (i : ℕ). behind i past) (add-zero b)
      go (frame os p t) = sym (behind_add b 0 past) ∙ ap (λ (i : ℕ). behind i past) (add-zero b)
      go (application f os p t) = sym (behind_add b 0 past) ∙ ap (λ (i : ℕ). behind i past) (add-zero b)

  pub places_here : (o : ℕ) → o < length L → place_of b ps (get_or (F g) o no_plan) ≡ (get_or L o no_region).place
  places_here o h =
      let p' : length L ≡ length past = layout_length (regions params ps) b past in
      let k : length rows ≡ length past + suc (length rest) = ap length split-is ∙ length-append past (r ∷ rest) in
      ap (λ (Q : List Plan). place_of b ps (get_or Q o no_plan)) here
      ∙ place_at m E n params [] b ps 0 rows o sound (omega arith)
      ∙ ap (λ (i : ℕ). (get_or (layout (regions params ps) i rows) o no_region).place) (add-zero b)
      ∙ ap (λ (rs : List TypedLine). (get_or (layout (regions params ps) b rs) o no_region).place) split-is
      ∙ ap (λ (l : List Region). (get_or l o no_region).place) (layout_append (regions params ps) b past (r ∷ rest))
      ∙ ap (λ (y : Region). y.place) (get_or_append_left L (layout (regions params ps) (behind b past) (r ∷ rest)) no_region o h)

  pub step_here : (S : List Sample) (c : ℕ) → step m F (at S (activation g b ps (length past) c ∷ below)) ≡ step_line m F S g b ps (length past) c below x x.kind
  unfolding step choose
  step_here S c = rw (long_here) (ap (λ (y : Plan). step_line m F S g b ps (length past) c below y y.kind) plan_here)

  pub sources_here : (p : Shape) (ws : List ArrayType) (os : List ℕ) → Lifts (types_of past) p ws os → sources (F g) b ps (operands_of (types_of past) p ws os) ≡ sources_of L p ws os
  sources_here p ws os ok = lifts_sources m E b ps (F g) L (types_of past) p ws os (layout_types (regions params ps) b past) places_here ok

  -- a line that is no parameter and no call is settled as evaluation says
  pub step_settles : (V : ℕ → List (Array Sample) → Outcome Sample) (S : List Sample) (c : ℕ) → Below (behind b past) L → behind b past ≤ length S → Sound m n E params (types_of past) r
      → (is_parameter x.kind ≡ false) → ((h : ℕ) (os : List ℕ) (p : Shape) (t : ArrayType) → r ≡ application (formula h) os p t → ⊥)
      → step m F (at S (activation g b ps (length past) c ∷ below))
      ≡ settle S (behind b past) (activation g b ps (length past) c) (activation g b ps (suc (length past)) 0) below (eval_line m (on_samples m) E V g (reads S (regions params ps)) (reads S L) r)
  unfolding step_line
  step_settles V S c low room s np nc =
      step_here S c ∙ go r s np nc (settles m n E V g (length past) b ps (reads S (regions params ps)) S (behind b past) (F g) L low room (sym (layout_length (regions params ps) b past)) places_here
      params (types_of past) (behind 0 past) r (layout_types (regions params ps) b past) s np nc) place_here
    where
      E' : TypedLine → Cells Sample
      E' r' = eval_line m (on_samples m) E V g (reads S (regions params ps)) (reads S L) r'

      y : TypedLine → Plan
      y r' = plan_of m E (types_of past) (behind 0 past) r'

      go : (r' : TypedLine) → Sound m n E params (types_of past) r' → is_parameter (y r').kind ≡ false → ((h : ℕ) (os : List ℕ) (p : Shape) (t : ArrayType) → r' ≡ application (formula h) os p t → ⊥)
          → settled m g (length past) (y r') (sources (F g) b ps (y r').operands) S (y r').kind ≡ E' r' → b + (y r').offset ≡ behind b past
          → step_line m F S g b ps (length past) c below (y r') (y r').kind ≡ settle S (behind b past) (activation g b ps (length past) c) (activation g b ps (suc (length past)) 0) below (E' r')
      go (literal t cs) s np nc e u = rw (e, u)
      go (parameter k t) s np nc e u = absurd (both_ways true np refl)
      go (frame os p t) s np nc e u = rw (e, u)
      go (application (primitive o) os p t) s np nc e u = rw (e, u)
      go (application (formula o) os p t) s np nc e u = absurd (nc o os p t refl)
      go (application (fold o b' k d) os p t) s np nc e u = rw (e, u)
      go (application (append b' j k d) os p t) s np nc e u = rw (e, u)
      go (application (reversal b' k d) os p t) s np nc e u = rw (e, u)
