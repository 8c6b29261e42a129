-- The machine ends as evaluation does: at the forecast step, within its room, and with no more activations than its depth.
use Rattle.std.proofs.Common.{◌≡◌, ℕ, zero, suc, ◌+◌, ◌-◌, ◌*◌, ◌<◌, ◌≤◌, false, eqb, ◌⊎◌, List, [], ◌∷◌, ◌++◌, length, get_or, drop, sym, refl, ap, ◌∙◌, subst, inl, inr, append_assoc, append-nil, add-zero, mul-le-mul_right, suc-mul, suc-add, zero-add, zero-mul, add-one, arith, length-append, length-drop, drop-drop}
use lib.Seq.{take-append-le, drop-append-le}
use Rattle.std.proofs.lemmas.Bool.{lt-ltb, le-ltb, cases_eq, eq-eqb, ne_eqb}
use Rattle.remora.specs.Shapes.{Shape, size}
use Rattle.remora.specs.Algebras.{Sample, Meaning}
use Rattle.remora.specs.Formulas.{ArrayType, shaped, no_type, Formula, Entry, primitive, formula, fold, append, reversal, TypedLine, literal, parameter, frame, application, type_of, types_of, last_or, result_type}
use Rattle.remora.specs.Evaluation.{Array, array_of, no_array, Fault, Outcome, yields, faults, Cells, all, upto, collapse, map_cells, cells_at, eval_line, onward, eval_lines}
use Rattle.remora.specs.Forecasts.{atoms, line_steps, lines_steps, if_any, callee_room, room_from, line_depth, deepest}
use Rattle.remora.specs.Numbers.{pick, lines_of, known, eval, arguments}
use Rattle.remora.specs.Machine.{Plan, no_plan, plan_of, plans, part, put, Activation, activation, is_parameter, place_of, sources, cell_places, on_samples, Snapshot, at, more, done, faulted, choose, settle, return, step_line, step}
use Rattle.remora.specs.Calls.{parameter_atoms, parameter_places, needs, first_activation}
use Rattle.remora.proofs.Lifting.{size_append}
use Rattle.remora.proofs.Sizes.{Lifts, Sound, s_parameter, s_application, SoundAll, then, Fit, LengthO, LengthC, Keeps, cells_at_fit, eval_line_length, keeps_all, known_here, known_below, eval_here, eval_below, entry_here, Sounds}
use Rattle.remora.proofs.Regions.{Same, same_refl, same_trans, same_widen, put_same, put_part, part_same, part_add, Region, region, no_region, long, reads, regions, region_types, Below, below_mono, below_snoc, below_at, types_at, reads_same, reads_snoc, reads_at, reads_last, reads_fit, region_of, layout, behind, region_type, layout_append, behind_snoc, behind_le, layout_last, sources_of, cells_read, cells_below, cells_types}
use Rattle.remora.proofs.Bridging.{plans_length, place_last, plans_last, layout_types, plan_here, place_here, sources_here, step_here, step_settles}

abbrev pub store_of : Snapshot → List Sample
store_of (at S ts) = S

abbrev pub activations_of : Snapshot → List Activation
activations_of (at S ts) = ts

-- ---- stretches of steps; Ok says which plans the formulas may have

abbrev pub Plans : Type 0
Plans = ℕ → List Plan

-- n steps, each answering more, each writing only from lo up to hi, and with at most d activations after it
pub data Runs (m : Meaning) (Ok : Plans → Type 0) (d lo hi : ℕ) : ℕ → Snapshot → Snapshot → Type 0 where
  stay : {s : Snapshot} → Runs m Ok d lo hi 0 s s
  move : {n : ℕ} {s t u : Snapshot} → ((F : Plans) → Ok F → step m F s ≡ more t) → Same lo hi (store_of s) (store_of t) → length (activations_of t) ≤ d
      → Runs m Ok d lo hi n t u → Runs m Ok d lo hi (suc n) s u

-- after j steps, fewer than n, the first answer that is not more is this fault
pub record Fails (m : Meaning) (Ok : Plans → Type 0) (d lo hi n j : ℕ) (s : Snapshot) (x : Fault Sample) : Type 0 where
  pub before : Snapshot
  pub after : Snapshot
  pub early : j < n
  pub runs : Runs m Ok d lo hi j s before
  pub fails : (F : Plans) → Ok F → step m F before ≡ faulted after x
  pub kept : Same lo hi (store_of before) (store_of after)

module _ {m : Meaning} {Ok : Plans → Type 0} {d : ℕ} where
  pub runs_same : {lo hi n : ℕ} {s t : Snapshot} → Runs m Ok d lo hi n s t → Same lo hi (store_of s) (store_of t)
  runs_same {lo} {hi} (stay {s = s}) = same_refl lo hi (store_of s)
  runs_same (move e k l r) = same_trans k (runs_same r)

  runs_widen : {lo hi lo' hi' n : ℕ} {s t : Snapshot} → lo ≤ lo' → hi' ≤ hi → Runs m Ok d lo' hi' n s t → Runs m Ok d lo hi n s t
  runs_widen h k stay = stay
  runs_widen h k (move e a l r) = move e (same_widen h k a) l (runs_widen h k r)

  runs_join : {lo hi j n : ℕ} {s t u : Snapshot} → Runs m Ok d lo hi j s t → Runs m Ok d lo hi n t u → Runs m Ok d lo hi (j + n) s u
  runs_join stay q = rw zero-add q
  runs_join (move e a l r) q = rw suc-add (move e a l (runs_join r q))

  runs_count : {lo hi j n : ℕ} {s t : Snapshot} → j ≡ n → Runs m Ok d lo hi j s t → Runs m Ok d lo hi n s t
  runs_count {lo} {hi} {j} {n} {s} {t} e r = subst (λ k. Runs m Ok d lo hi k s t) e r

  runs_one : {lo hi : ℕ} {s t : Snapshot} → ((F : Plans) → Ok F → step m F s ≡ more t) → Same lo hi (store_of s) (store_of t) → length (activations_of t) ≤ d → Runs m Ok d lo hi 1 s t
  runs_one e a l = move e a l stay

  fails_area : {lo hi lo' hi' n j : ℕ} {s : Snapshot} {x : Fault Sample} → lo ≤ lo' → hi' ≤ hi → Fails m Ok d lo' hi' n j s x → Fails m Ok d lo hi n j s x
  fails_area h k f = record { before = f.before; after = f.after; early = f.early; runs = runs_widen h k f.runs; fails = f.fails; kept = same_widen h k f.kept }

  fails_more : {lo hi n j k : ℕ} {s : Snapshot} {x : Fault Sample} → n ≤ k → Fails m Ok d lo hi n j s x → Fails m Ok d lo hi k j s x
  fails_more l f = record { before = f.before; after = f.after; early = let e = f.early in omega arith; runs = f.runs; fails = f.fails; kept = f.kept }

  fails_later : {lo hi i n j k : ℕ} {s t : Snapshot} {x : Fault Sample} → Runs m Ok d lo hi i s t → Fails m Ok d lo hi n j t x → i + n ≤ k → Fails m Ok d lo hi k (i + j) s x
  fails_later r f l = record { before = f.before; after = f.after; early = let e = f.early in omega arith; runs = runs_join r f.runs; fails = f.fails; kept = f.kept }

-- how a stretch of n steps ends: in a snapshot of this form with the items at this place, or after j steps in the fault
abbrev pub Ends : Meaning → (Plans → Type 0) → ℕ → ℕ → ℕ → ℕ → ℕ → Snapshot → (List Sample → Snapshot) → ℕ → ℕ → Outcome Sample → Type 0
Ends m Ok d lo hi n j s final q k (yields xs) = (T : List Sample) × Runs m Ok d lo hi n s (final T) × (part T q k ≡ xs)
Ends m Ok d lo hi n j s final q k (faults x) = Fails m Ok d lo hi n j s x

abbrev EndsC : Meaning → (Plans → Type 0) → ℕ → ℕ → ℕ → ℕ → ℕ → Snapshot → (List Sample → Snapshot) → ℕ → ℕ → Cells Sample → Type 0
EndsC m Ok d lo hi n j s final q k (all xs) = (T : List Sample) × Runs m Ok d lo hi n s (final T) × (part T q k ≡ xs)
EndsC m Ok d lo hi n j s final q k (upto xs x) = Fails m Ok d lo hi n j s x

-- ---- how many steps come before a fault

abbrev pub by_outcome : {X Z : Type 0} → Outcome X → Z → Z → Z
by_outcome (yields xs) at_fault onward = onward
by_outcome (faults x) at_fault onward = at_fault

-- over the cells of a call: w are the steps before a fault within a cell, k those of the callee
abbrev pub fault_cells : (ℕ → Outcome Sample) → (ℕ → ℕ) → ℕ → ℕ → ℕ → ℕ
fault_cells f w k c zero = 0
fault_cells f w k c (suc n) = by_outcome (f c) (1 + w c) (1 + k + fault_cells f w k (suc c) n)

-- before a fault within a line; 𝓛 has the steps before a fault in a formula by number
abbrev pub fault_line : (ℕ → Entry) → (ℕ → List (Array Sample) → Outcome Sample) → (ℕ → List (Array Sample) → ℕ) → List (Array Sample) → TypedLine → ℕ
fault_line E V W env (literal t cs) = 0
fault_line E V W env (parameter k t) = 0
fault_line E V W env (frame os p t) = 0
fault_line E V W env (application (primitive o) os p t) = 0
fault_line E V W env (application (formula h) os p t) = fault_cells (λ c. V h (cells_at env p c (E h).parameters os)) (λ c. W h (cells_at env p c (E h).parameters os)) (E h).steps 0 (size p)
fault_line E V W env (application (fold o b n d) os p t) = 0
fault_line E V W env (application (append b j k d) os p t) = 0
fault_line E V W env (application (reversal b n d) os p t) = 0

abbrev pub by_cells : {X : Type 0} → Cells X → (List X → ℕ) → ℕ → ℕ
by_cells (all xs) onward at_fault = onward xs
by_cells (upto xs x) onward at_fault = at_fault

-- before a fault within lines
unfoldable pub fault_lines : Meaning → (ℕ → Entry) → (ℕ → List (Array Sample) → Outcome Sample) → (ℕ → List (Array Sample) → ℕ) → ℕ → List (Array Sample) → List (Array Sample) → List TypedLine → ℕ
fault_lines m E V W g args env [] = 0
fault_lines m E V W g args env (r ∷ rs) =
    by_cells (eval_line m (on_samples m) E V g args env r) (λ xs. line_steps E r + fault_lines m E V W g args (env ++ array_of (type_of r) xs ∷ []) rs) (fault_line E V W env r)

-- before a fault within formula g
unfoldable pub fault_step : Meaning → List Formula → ℕ → List (Array Sample) → ℕ
fault_step m [] g args = 0
fault_step m (f ∷ fs) g args =
    pick (eqb g (length fs)) (fault_lines m (known m fs) (eval m (on_samples m) fs) (fault_step m fs) g args [] (lines_of m (known m fs) f)) (fault_step m fs g args)

fault_step_here : (m : Meaning) (f : Formula) (fs : List Formula) (ts : List (Array Sample))
    → fault_step m (f ∷ fs) (length fs) ts ≡ fault_lines m (known m fs) (eval m (on_samples m) fs) (fault_step m fs) (length fs) ts [] (lines_of m (known m fs) f)
unfolding fault_step
fault_step_here m f fs ts = rw (eq-eqb (length fs) (length fs) refl)

fault_step_below : (m : Meaning) (f : Formula) (fs : List Formula) (g : ℕ) (ts : List (Array Sample)) → g < length fs → fault_step m (f ∷ fs) g ts ≡ fault_step m fs g ts
unfolding fault_step
fault_step_below m f fs g ts h = rw (ne_eqb g (length fs) (λ e. omega arith))

pub fault_step_later : (m : Meaning) (fs newer : List Formula) (g : ℕ) (ts : List (Array Sample)) → g < length fs → fault_step m (newer ++ fs) g ts ≡ fault_step m fs g ts
fault_step_later m fs [] g ts l = refl
fault_step_later m fs (f ∷ newer) g ts l = fault_step_below m f (newer ++ fs) g ts (simp length-append (omega arith)) ∙ fault_step_later m fs newer g ts l

-- what a callee with this plan does: all but the last of its steps
pub record Good (m : Meaning) (Ok : Plans → Type 0) (d : ℕ) (e : Entry) (v : List (Array Sample) → Outcome Sample) (w : List (Array Sample) → ℕ) (h : ℕ) (Q : List Plan) : Type 0 where
  pub some_steps : 0 < e.steps
  pub some_depth : 0 < e.depth
  pub last_type : (last_or no_plan Q).type ≡ e.result
  pub ends : (S : List Sample) (b : ℕ) (ps : List ℕ) (ts : List Activation) → region_types (regions e.parameters ps) ≡ e.parameters → Below b (regions e.parameters ps)
      → b + e.room ≤ length S → length ts + e.depth ≤ d
      → Ends m Ok d b (b + e.room) (e.steps - 1) (w (reads S (regions e.parameters ps))) (at S (activation h b ps 0 0 ∷ ts)) (λ T. at T (activation h b ps (length Q) 0 ∷ ts))
      (place_of b ps (last_or no_plan Q)) (size e.result.shape) (v (reads S (regions e.parameters ps)))

if_any_pos : (n k : ℕ) → 0 < n → if_any n k ≡ k
if_any_pos zero k h = absurd (omega arith)
if_any_pos (suc n) k h = refl

-- an activation with no line left returns
pub step_end : (m : Meaning) (F : Plans) (g : ℕ) (Q : List Plan) → F g ≡ Q → (b : ℕ) (ps : List ℕ) (ts : List Activation) (S : List Sample) (c : ℕ)
    → step m F (at S (activation g b ps (length Q) c ∷ ts)) ≡ return F S (place_of b ps (last_or no_plan Q)) (size (last_or no_plan Q).type.shape) ts
unfolding step choose
step_end m F g Q e b ps ts S c = rw (e, le-ltb (length Q) (length Q) (omega arith))

module _ (m : Meaning) (Ok : Plans → Type 0) (d : ℕ) where
  settle_ends : (hi : ℕ) (S : List Sample) (us : List Activation) (q n : ℕ) (here next : Activation) (ts : List Activation) (H : Cells Sample)
      → ((F : Plans) → Ok F → step m F (at S us) ≡ settle S q here next ts H) → suc (length ts) ≤ d → LengthC n H → q + n ≤ hi → hi ≤ length S
      → EndsC m Ok d q hi 1 0 (at S us) (λ T. at T (next ∷ ts)) q n H
  unfolding settle
  settle_ends hi S us q n here next ts (all xs) e u l h k = (put S q xs, runs_one e (put_same q hi S q xs (omega arith) (omega arith) (omega arith)) u, put_part S q n xs l (omega arith))
  settle_ends hi S us q n here next ts (upto xs x) e u l h k =
      record { before = at S us; after = at (put S q xs) (here ∷ ts); early = omega arith; runs = stay; fails = e; kept = put_same q hi S q xs (omega arith) (omega arith) (omega arith) }

  -- one activation of formula g, whose typed lines are rows; formulas below n are good
  module _ (n : ℕ) (E : ℕ → Entry) (Q : Plans) (V : ℕ → List (Array Sample) → Outcome Sample) (W : ℕ → List (Array Sample) → ℕ) (agree : (F : Plans) → Ok F → (h : ℕ) → h < n → F h ≡ Q h)
      (goods : (h : ℕ) → h < n → Good m Ok d (E h) (V h) (W h) h (Q h)) (kept : (h : ℕ) → h < n → Keeps (E h) (V h))
      (g : ℕ) (params : List ArrayType) (rows : List TypedLine) (sound : SoundAll m n E params [] rows) (here : (F : Plans) → Ok F → F g ≡ plans m E [] 0 rows)
      (b : ℕ) (ps : List ℕ) (ts : List Activation) (hi : ℕ) (deep : suc (length ts) ≤ d) where
    abbrev P : List Region
    P = regions params ps

    module _ (past rest : List TypedLine) (h : ℕ) (os : List ℕ) (p : Shape) (t : ArrayType) (e : rows ≡ past ++ application (formula h) os p t ∷ rest) (l : h < n) (q : ℕ) (q-is : behind b past ≡ q)
        (L : List Region) (L-is : layout P b past ≡ L) (low : Below q L) (w : suc (length ts) + (E h).depth ≤ d)
        (ok : Lifts (region_types L) p (E h).parameters os) (N : ℕ) (N-is : size t.shape ≡ N) (K : ℕ) (K-is : size (E h).result.shape ≡ K) (size-s : N ≡ size p * K) where
      abbrev qs : ℕ → List ℕ
      qs c = cell_places (sources_of L p (E h).parameters os) c

      ok_types : Lifts (types_of past) p (E h).parameters os
      ok_types = subst (λ (us : List ArrayType). Lifts us p (E h).parameters os) (ap region_types (sym L-is) ∙ layout_types P b past) ok

      enter_step : (c : ℕ) (S : List Sample) → c < size p → (F : Plans) → Ok F → step m F (at S (activation g b ps (length past) c ∷ ts))
          ≡ more (at S (activation h (q + N) (qs c) 0 0 ∷ activation g b ps (length past) c ∷ ts))
      unfolding step_line choose
      enter_step c S k F o =
          let r : TypedLine = application (formula h) os p t in
          let place : b + behind 0 past ≡ q = place_here m n E params rows sound F g (here F o) b ps ts past rest r e ∙ q-is in
          let src : sources (F g) b ps (plan_of m E (types_of past) (behind 0 past) r).operands ≡ sources_of L p (E h).parameters os =
          sources_here m n E params rows sound F g (here F o) b ps ts past rest r e p (E h).parameters os ok_types ∙ ap (λ (M : List Region). sources_of M p (E h).parameters os) L-is in
          step_here m n E params rows sound F g (here F o) b ps ts past rest r e S c ∙ rw (lt-ltb c (size p) k, place, src, N-is)

      abbrev result_place : ℕ → ℕ
      result_place c = place_of (q + N) (qs c) (last_or no_plan (Q h))

      leave_step : (c : ℕ) (S : List Sample) (F : Plans) → Ok F → step m F (at S (activation h (q + N) (qs c) (length (Q h)) 0 ∷ activation g b ps (length past) c ∷ ts))
          ≡ more (at (put S (q + c * K) (part S (result_place c) K)) (activation g b ps (length past) (suc c) ∷ ts))
      unfolding return
      leave_step c S F o =
          let r : TypedLine = application (formula h) os p t in
          let offset : b + (get_or (F g) (length past) no_plan).offset ≡ q =
          ap (λ (x : Plan). b + x.offset) (plan_here m n E params rows sound F g (here F o) b ps ts past rest r e) ∙ place_here m n E params rows sound F g (here F o) b ps ts past rest r e ∙ q-is in
          let K' : size (last_or no_plan (Q h)).type.shape ≡ K = ap (λ (u : ArrayType). size u.shape) (goods h l).last_type ∙ K-is in
          step_end m F h (Q h) (agree F o h l) (q + N) (qs c) (activation g b ps (length past) c ∷ ts) S 0 ∙ rw (K', offset)

      cell_fits : (c k : ℕ) → c + suc k ≡ size p → q + c * K + K ≤ q + N
      cell_fits c k cn =
          let u : suc c * K ≤ size p * K = mul-le-mul_right K (omega arith) in
          let v = suc-mul c K in omega arith

      -- how the callee's own steps end, begun for cell c
      abbrev Within : ℕ → ℕ → List Sample → Outcome Sample → Type 0
      Within j c S x = Ends m Ok d (q + N) (q + N + (E h).room) ((E h).steps - 1) j (at S (activation h (q + N) (qs c) 0 0 ∷ activation g b ps (length past) c ∷ ts))
          (λ T. at T (activation h (q + N) (qs c) (length (Q h)) 0 ∷ activation g b ps (length past) c ∷ ts)) (result_place c) K x

      -- how the cells from c on end, k of them
      abbrev CellsEnd : ℕ → ℕ → ℕ → List Sample → Cells Sample → Type 0
      CellsEnd j c k S H = EndsC m Ok d (q + c * K) hi (k * (1 + (E h).steps)) j (at S (activation g b ps (length past) c ∷ ts)) (λ U. at U (activation g b ps (length past) (size p) ∷ ts)) (q + c * K) (k * K) H

      cell_one : (j c k : ℕ) (S : List Sample) (xs : List Sample) → c + suc k ≡ size p → q + N + (E h).room ≤ hi → hi ≤ length S → length xs ≡ K → Within j c S (yields xs)
          → (T : List Sample) × Runs m Ok d (q + c * K) hi (1 + (E h).steps) (at S (activation g b ps (length past) c ∷ ts)) (at T (activation g b ps (length past) (suc c) ∷ ts)) × (part T (q + c * K) K ≡ xs)
      cell_one j c k S xs cn fit long len (T, r, is) =
          let f = cell_fits c k cn in
          let lt : length T ≡ length S = (runs_same r).long in
          let ln : length (part T (result_place c) K) ≡ K = ap length is ∙ len in
          let pos = (goods h l).some_steps in
          let pos' = (goods h l).some_depth in (
            put T (q + c * K) (part T (result_place c) K),
            runs_count (omega arith) (runs_join (runs_one (enter_step c S (omega arith)) (same_refl _ _ S) (omega arith))
                (runs_join (runs_widen (omega arith) (omega arith) r) (runs_one (leave_step c T) (put_same _ _ T (q + c * K) _ (omega arith) (omega arith) (omega arith)) deep))),
            put_part T (q + c * K) K _ ln (omega arith) ∙ is,
          )

      cell_join : (i j c k : ℕ) (S : List Sample) → c + suc k ≡ size p → q + N + (E h).room ≤ hi → hi ≤ length S → (x : Outcome Sample) (H : Cells Sample) → LengthO K x → Within i c S x
          → ((T : List Sample) → Same (q + c * K) hi S T → CellsEnd j (suc c) k T H) → CellsEnd (by_outcome x (1 + i) (1 + (E h).steps + j)) c (suc k) S (collapse x H)
      cell_join i j c k S cn fit long (yields xs) (all ys) len run next =
          let one : (T : List Sample) × Runs m Ok d (q + c * K) hi (1 + (E h).steps) (at S (activation g b ps (length past) c ∷ ts)) (at T (activation g b ps (length past) (suc c) ∷ ts)) × (part T (q + c * K) K ≡ xs)
          = cell_one i c k S xs cn fit long len run in
          let two = next one.0 (runs_same one.1) in
          let v = suc-mul c K in
          let u = suc-mul k K in
          let w = suc-mul k (1 + (E h).steps) in
          let n1 : suc k * K ≡ K + k * K = omega arith in
          let n2 : q + c * K + K ≡ q + suc c * K = omega arith in
          let p1 : part two.0 (q + c * K) K ≡ xs = part_same (q + suc c * K) hi one.0 two.0 (q + c * K) K (runs_same two.1) (omega arith) ∙ one.2 in
          let p2 : part two.0 (q + c * K + K) (k * K) ≡ ys = rw n2 two.2 in (
            two.0,
            runs_count (omega arith) (runs_join one.1 (runs_widen (omega arith) (omega arith) two.1)),
            rw n1 (part_add two.0 (q + c * K) K (k * K) ∙ rw (p1, p2)),
          )
      cell_join i j c k S cn fit long (yields xs) (upto ys x) len run next =
          let one : (T : List Sample) × Runs m Ok d (q + c * K) hi (1 + (E h).steps) (at S (activation g b ps (length past) c ∷ ts)) (at T (activation g b ps (length past) (suc c) ∷ ts)) × (part T (q + c * K) K ≡ xs)
          = cell_one i c k S xs cn fit long len run in
          let v = suc-mul c K in
          let w = suc-mul k (1 + (E h).steps) in
          fails_later one.1 (fails_area (omega arith) (omega arith) (next one.0 (runs_same one.1))) (omega arith)
      cell_join i j c k S cn fit long (faults x) H len run next =
          let f = cell_fits c k cn in
          let w' = suc-mul k (1 + (E h).steps) in
          let pos' = (goods h l).some_depth in
          fails_later (runs_one (enter_step c S (omega arith)) (same_refl _ _ S) (omega arith)) (fails_area (omega arith) (omega arith) run) (omega arith)

      cells_end : (k c : ℕ) (S : List Sample) (env : List (Array Sample)) → c + k ≡ size p → reads S L ≡ env → q ≤ length S → q + N + if_any (size p) (E h).room ≤ hi → hi ≤ length S
          → CellsEnd (fault_cells (λ i. V h (cells_at env p i (E h).parameters os)) (λ i. W h (cells_at env p i (E h).parameters os)) (E h).steps c k) c k S (map_cells (λ i. V h (cells_at env p i (E h).parameters os)) c k)
      cells_end zero c S env cn re lq fit long = let e : c ≡ size p = omega arith in (S, rw (zero-mul, ← e) stay, rw zero-mul)
      cells_end (suc k) c S env cn re lq fit long =
          let lt : c < size p = omega arith in
          let f = cell_fits c k cn in
          let z : if_any (size p) (E h).room ≡ (E h).room = if_any_pos (size p) (E h).room (omega arith) in
          let fit' : q + N + (E h).room ≤ hi = omega arith in
          cell_join (W h (cells_at env p c (E h).parameters os)) (fault_cells (λ i. V h (cells_at env p i (E h).parameters os)) (λ i. W h (cells_at env p i (E h).parameters os)) (E h).steps (suc c) k) c k S cn fit' long (V h (cells_at env p c (E h).parameters os)) (map_cells (λ i. V h (cells_at env p i (E h).parameters os)) (suc c) k)
          (rw (← K-is, ← re) (kept h l _ (cells_at_fit (region_types L) (reads S L) p c (E h).parameters os (reads_fit S q L low lq) lt ok)))
          (rw (← re, ← K-is, ← (cells_read S L p c (E h).parameters os lt ok))
          ((goods h l).ends S (q + N) (qs c) (activation g b ps (length past) c ∷ ts) (cells_types L p c (E h).parameters os ok)
          (below_mono q (q + N) _ (omega arith) (cells_below L q p c (E h).parameters os low lt ok)) (omega arith) w))
          (λ T sm. cells_end k (suc c) T env (omega arith) (reads_same (q + c * K) hi S T L sm (below_mono q (q + c * K) L (omega arith) low) ∙ re) (omega arith) fit (omega arith))

    call_ends : (past rest : List TypedLine) (h : ℕ) (os : List ℕ) (p : Shape) (t : ArrayType) → rows ≡ past ++ application (formula h) os p t ∷ rest → h < n
        → (S : List Sample) → Below (behind b past) (layout P b past) → suc (length ts) + (E h).depth ≤ d → Lifts (region_types (layout P b past)) p (E h).parameters os
        → t ≡ shaped (E h).result.base (p ++ (E h).result.shape) → behind b past + size t.shape + if_any (size p) (E h).room ≤ hi → hi ≤ length S
        → EndsC m Ok d (behind b past) hi (1 + size p * (1 + (E h).steps)) (fault_line E V W (reads S (layout P b past)) (application (formula h) os p t)) (at S (activation g b ps (length past) 0 ∷ ts)) (λ U. at U (activation g b ps (suc (length past)) 0 ∷ ts)) (behind b past) (size t.shape)
        (map_cells (λ i. V h (cells_at (reads S (layout P b past)) p i (E h).parameters os)) 0 (size p))
    unfolding step_line choose
    call_ends past rest h os p t e l S low w ok t-is fit long =
        go _ _ (cells_end past rest h os p t e l (behind b past) refl (layout P b past) refl low w ok (size t.shape) refl (size (E h).result.shape) refl size_t
        (size p) 0 S _ (omega arith) refl (omega arith) fit long)
      where
        size_t : size t.shape ≡ size p * size (E h).result.shape
        size_t = ap (λ (z : ArrayType). size z.shape) t-is ∙ size_append p (E h).result.shape

        leaves : (U : List Sample) (F : Plans) → Ok F → step m F (at U (activation g b ps (length past) (size p) ∷ ts)) ≡ more (at U (activation g b ps (suc (length past)) 0 ∷ ts))
        leaves U F o = step_here m n E params rows sound F g (here F o) b ps ts past rest (application (formula h) os p t) e U (size p) ∙ rw (le-ltb (size p) (size p) (omega arith))

        go : (j : ℕ) (H : Cells Sample) → EndsC m Ok d (behind b past + 0 * size (E h).result.shape) hi (size p * (1 + (E h).steps)) j (at S (activation g b ps (length past) 0 ∷ ts))
            (λ U. at U (activation g b ps (length past) (size p) ∷ ts)) (behind b past + 0 * size (E h).result.shape) (size p * size (E h).result.shape) H
            → EndsC m Ok d (behind b past) hi (1 + size p * (1 + (E h).steps)) j (at S (activation g b ps (length past) 0 ∷ ts)) (λ U. at U (activation g b ps (suc (length past)) 0 ∷ ts)) (behind b past) (size t.shape) H
        go j (all xs) v =
            let z : behind b past + 0 * size (E h).result.shape ≡ behind b past = omega arith in
            let is : part v.0 (behind b past) (size p * size (E h).result.shape) ≡ xs = rw z at v.2 in (
              v.0,
              runs_count (omega arith) (runs_join (runs_widen (omega arith) (omega arith) v.1) (runs_one (leaves v.0) (same_refl _ _ v.0) deep)),
              rw size_t is,
            )
        go j (upto xs x) f = fails_more (omega arith) (fails_area (omega arith) (omega arith) f)

    module _ (ep : region_types P ≡ params) (bp : Below b P) where
      abbrev LineEnds : ℕ → List TypedLine → List Sample → TypedLine → Cells Sample → Type 0
      LineEnds j past S r H = EndsC m Ok d (behind b past) hi (line_steps E r) j (at S (activation g b ps (length past) 0 ∷ ts)) (λ U. at U (activation g b ps (suc (length past)) 0 ∷ ts))
          (region_of P (behind b past) r).place (size (type_of r).shape) H

      abbrev evaluated : List TypedLine → List Sample → TypedLine → Cells Sample
      evaluated past S r = eval_line m (on_samples m) E V g (reads S P) (reads S (layout P b past)) r

      line_length : (past : List TypedLine) (r : TypedLine) → (S : List Sample) → Below (behind b past) (layout P b past)
          → Sound m n E params (types_of past) r → behind b past + size (type_of r).shape ≤ hi → hi ≤ length S → LengthC (size (type_of r).shape) (evaluated past S r)
      line_length past r S low t fit long =
          let lb = behind_le b past in
          let fp : Fit params (reads S P) = rw ep at (reads_fit S b P bp (omega arith)) in
          eval_line_length m (on_samples m) n E V kept g params (reads S P) fp (types_of past) (reads S (layout P b past)) r
          (subst (λ (us : List ArrayType). Fit us (reads S (layout P b past))) (layout_types P b past) (reads_fit S (behind b past) (layout P b past) low (omega arith))) t

      -- a line that is settled in one step
      settled_ends : (past rest : List TypedLine) (r : TypedLine) → rows ≡ past ++ r ∷ rest → (S : List Sample) → Below (behind b past) (layout P b past)
          → Sound m n E params (types_of past) r → is_parameter (plan_of m E (types_of past) (behind 0 past) r).kind ≡ false
          → ((h : ℕ) (os : List ℕ) (p : Shape) (t : ArrayType) → r ≡ application (formula h) os p t → ⊥)
          → behind b past + size (type_of r).shape ≤ hi → hi ≤ length S
          → EndsC m Ok d (behind b past) hi 1 0 (at S (activation g b ps (length past) 0 ∷ ts)) (λ U. at U (activation g b ps (suc (length past)) 0 ∷ ts)) (behind b past) (size (type_of r).shape) (evaluated past S r)
      settled_ends past rest r e S low t np nc fit long =
          settle_ends hi S (activation g b ps (length past) 0 ∷ ts) (behind b past) (size (type_of r).shape) (activation g b ps (length past) 0) (activation g b ps (suc (length past)) 0) ts (evaluated past S r)
          (λ F o. step_settles m n E params rows sound F g (here F o) b ps ts past rest r e V S 0 low (omega arith) t np nc) deep (line_length past r S low t fit long) fit long

      line_ends : (past rest : List TypedLine) (r : TypedLine) → rows ≡ past ++ r ∷ rest → (S : List Sample) → Below (behind b past) (layout P b past)
          → Sound m n E params (types_of past) r → suc (length ts) + line_depth E r ≤ d
          → behind b past + atoms r + callee_room E r ≤ hi → hi ≤ length S → LineEnds (fault_line E V W (reads S (layout P b past)) r) past S r (evaluated past S r)
      unfolding step_line eval_line
      line_ends past rest (literal t xs) e S low s w fit long = settled_ends past rest (literal t xs) e S low s refl (λ h os p u z. let y : ◌≡◌ {A = ℕ} 0 1 = cc in omega arith) (omega arith) long
      line_ends past rest (parameter k t) e S low (s_parameter l is) w fit long = (
        S,
        runs_one (λ F o. step_here m n E params rows sound F g (here F o) b ps ts past rest (parameter k t) e S 0) (same_refl _ _ S) deep,
        let sh : (get_or P k no_region).type ≡ t = types_at P k ∙ ap (λ (z : List ArrayType). get_or z k no_type) ep ∙ is in
            ap (λ (z : ArrayType). part S (get_or P k no_region).place (size z.shape)) (sym sh) ∙ sym (ap (λ (a : Array Sample). a.items) (reads_at S P k)),
      )
      line_ends past rest (frame os p t) e S low s w fit long = settled_ends past rest (frame os p t) e S low s refl (λ h os p u z. let y : ◌≡◌ {A = ℕ} 0 1 = cc in omega arith) (omega arith) long
      line_ends past rest (application (primitive o) os p t) e S low s w fit long = settled_ends past rest (application (primitive o) os p t) e S low s refl (λ h os p u z. let y : ◌≡◌ {A = ℕ} 0 1 = cc in omega arith) (omega arith) long
      line_ends past rest (application (formula h) os p t) e S low (s_application l ok is) w fit long =
          call_ends past rest h os p t e l S low w (subst (λ (us : List ArrayType). Lifts us p (E h).parameters os) (sym (layout_types P b past)) ok) is fit long
      line_ends past rest (application (fold o c k f) os p t) e S low s w fit long = settled_ends past rest (application (fold o c k f) os p t) e S low s refl (λ h os p u z. let y : ◌≡◌ {A = ℕ} 0 1 = cc in omega arith) (omega arith) long
      line_ends past rest (application (append c j k f) os p t) e S low s w fit long = settled_ends past rest (application (append c j k f) os p t) e S low s refl (λ h os p u z. let y : ◌≡◌ {A = ℕ} 0 1 = cc in omega arith) (omega arith) long
      line_ends past rest (application (reversal c k f) os p t) e S low s w fit long = settled_ends past rest (application (reversal c k f) os p t) e S low s refl (λ h os p u z. let y : ◌≡◌ {A = ℕ} 0 1 = cc in omega arith) (omega arith) long

      region_below : (q : ℕ) (types : List ArrayType) (r : TypedLine) → b ≤ q → Sound m n E params types r → (region_of P q r).place + long (region_of P q r) ≤ q + atoms r
      region_below q types (literal t xs) l ok = omega arith
      region_below q types (parameter k t) l (s_parameter i is) =
          let sh : (get_or P k no_region).type ≡ t = types_at P k ∙ ap (λ (z : List ArrayType). get_or z k no_type) ep ∙ is in
          let u = below_at b P k bp in
          let v : (get_or P k no_region).place + size t.shape ≤ b = rw sh at u in
          omega arith
      region_below q types (frame os p t) l ok = omega arith
      region_below q types (application f os p t) l ok = omega arith

      abbrev first : Region
      first = region no_type b

      abbrev LinesEnd : ℕ → List TypedLine → ℕ → List Sample → Outcome Sample → Type 0
      LinesEnd j rs k S x = Ends m Ok d b hi (lines_steps E rs) j (at S (activation g b ps k 0 ∷ ts)) (λ U. at U (activation g b ps (length rows) 0 ∷ ts)) (last_or first (layout P b rows)).place (size (result_type rows).shape) x

      lines_join : (S : List Sample) (past rs : List TypedLine) (r : TypedLine) (args env : List (Array Sample)) (H : Cells Sample) (i : ℕ) (j : List Sample → ℕ) → LineEnds i past S r H
          → ((T xs : List Sample) → Same (behind b past) hi S T → part T (region_of P (behind b past) r).place (size (type_of r).shape) ≡ xs
          → LinesEnd (j xs) rs (suc (length past)) T (eval_lines m (on_samples m) E V g args (env ++ array_of (type_of r) xs ∷ []) rs))
          → LinesEnd (by_cells H (λ xs. line_steps E r + j xs) i) (r ∷ rs) (length past) S (onward H (λ xs. eval_lines m (on_samples m) E V g args (env ++ array_of (type_of r) xs ∷ []) rs))
      lines_join S past rs r args env (all xs) i j t next = go (eval_lines m (on_samples m) E V g args (env ++ array_of (type_of r) xs ∷ []) rs) (next t.0 xs (runs_same t.1) t.2)
        where
          go : (x : Outcome Sample) → LinesEnd (j xs) rs (suc (length past)) t.0 x → LinesEnd (line_steps E r + j xs) (r ∷ rs) (length past) S x
          go (yields ys) u = (u.0, runs_join (runs_widen (behind_le b past) (omega arith) t.1) u.1, u.2)
          go (faults x) f = fails_later (runs_widen (behind_le b past) (omega arith) t.1) f (omega arith)
      lines_join S past rs r args env (upto xs x) i j f next = fails_more (omega arith) (fails_area (behind_le b past) (omega arith) f)

      types_of_snoc : (past : List TypedLine) (r : TypedLine) → types_of (past ++ r ∷ []) ≡ types_of past ++ type_of r ∷ []
      types_of_snoc [] r = refl
      types_of_snoc (s ∷ past) r = ap (λ (us : List ArrayType). type_of s ∷ us) (types_of_snoc past r)

      layout_snoc : (past : List TypedLine) (r : TypedLine) → layout P b (past ++ r ∷ []) ≡ layout P b past ++ region_of P (behind b past) r ∷ []
      layout_snoc past r = layout_append P b past (r ∷ [])

      lines_end : (rest past : List TypedLine) (args env : List (Array Sample)) (S : List Sample) → rows ≡ past ++ rest → Below (behind b past) (layout P b past)
          → reads S P ≡ args → reads S (layout P b past) ≡ env
          → SoundAll m n E params (types_of past) rest → suc (length ts) + deepest E rest ≤ d → room_from E (behind b past) rest ≤ hi → hi ≤ length S
          → LinesEnd (fault_lines m E V W g args env rest) rest (length past) S (eval_lines m (on_samples m) E V g args env rest)
      unfolding eval_lines fault_lines
      lines_end [] past args env S e low ra re s w fit long =
          let e' : rows ≡ past = e ∙ append-nil past in
          let re' : reads S (layout P b rows) ≡ env = rw e' re in (
            S,
            rw e' stay,
            ap (λ (z : ArrayType). part S (last_or first (layout P b rows)).place (size z.shape)) (sym (layout_last P b rows first (literal no_type []) refl))
                ∙ ap (λ (a : Array Sample). a.items) (sym (reads_last S first (layout P b rows)) ∙ ap (λ (z : List (Array Sample)). last_or no_array z) re'),
          )
      lines_end (r ∷ rs) past args env S e low ra re (then t u) w fit long =
          lines_join S past rs r args env (eval_line m (on_samples m) E V g args env r) (fault_line E V W env r) (λ xs. fault_lines m E V W g args (env ++ array_of (type_of r) xs ∷ []) rs)
          (rw (← ra, ← re) (line_ends past rs r e S low t (omega arith) (omega arith) long))
          (λ T xs sm is.
          let lb = behind_le b past in
          let lt = sm.long in
          let one_more : length (past ++ r ∷ []) ≡ suc (length past) = length-append past (r ∷ []) ∙ add-one (length past) in
          rw (← one_more)
          (lines_end rs (past ++ r ∷ []) args (env ++ array_of (type_of r) xs ∷ []) T (e ∙ sym (append_assoc past (r ∷ []) rs))
          (rw (behind_snoc b past r, layout_snoc past r)
          (below_snoc _ (layout P b past) _ (below_mono _ _ (layout P b past) (omega arith) low) (region_below (behind b past) (types_of past) r lb t)))
          (reads_same (behind b past) hi S T P sm (below_mono b (behind b past) P lb bp) ∙ ra)
          (rw (layout_snoc past r) (reads_snoc T (layout P b past) _ ∙ rw (reads_same (behind b past) hi S T (layout P b past) sm low, re, region_type P (behind b past) r, is)))
          (rw (types_of_snoc past r) u) (omega arith) (rw (behind_snoc b past r) (omega arith)) (omega arith)))

room_shift : (E : ℕ → Entry) (a b : ℕ) (rs : List TypedLine) → room_from E (a + b) rs ≡ a + room_from E b rs
room_shift E a b [] = refl
room_shift E a b (r ∷ rs) =
    let e : a + b + atoms r ≡ a + (b + atoms r) = omega arith in
    let i : room_from E (a + b + atoms r) rs ≡ a + room_from E (b + atoms r) rs = rw e (room_shift E a (b + atoms r) rs) in
    omega arith

-- ---- formulas by number

-- the plan of formula g
unfoldable pub planned : Meaning → List Formula → Plans
planned m [] g = []
planned m (f ∷ fs) g = pick (eqb g (length fs)) (plans m (known m fs) [] 0 (lines_of m (known m fs) f)) (planned m fs g)

pub planned_here : (m : Meaning) (f : Formula) (fs : List Formula) → planned m (f ∷ fs) (length fs) ≡ plans m (known m fs) [] 0 (lines_of m (known m fs) f)
unfolding planned
planned_here m f fs = rw (eq-eqb (length fs) (length fs) refl)

pub planned_below : (m : Meaning) (f : Formula) (fs : List Formula) (g : ℕ) → g < length fs → planned m (f ∷ fs) g ≡ planned m fs g
unfolding planned
planned_below m f fs g h = rw (ne_eqb g (length fs) (λ e. omega arith))

pub goods_all : (m : Meaning) (Ok : Plans → Type 0) (d : ℕ) (fs : List Formula) → ((F : Plans) → Ok F → (h : ℕ) → h < length fs → F h ≡ planned m fs h) → Sounds m fs → (g : ℕ) → g < length fs
    → Good m Ok d (known m fs g) (eval m (on_samples m) fs g) (fault_step m fs g) g (planned m fs g)
goods_all m Ok d [] agree t g l = absurd (omega arith)
goods_all m Ok d (f ∷ fs) agree t g l = go (cases_eq g (length fs)) (goods_all m Ok d fs (λ F o h k. agree F o h (omega arith) ∙ planned_below m f fs h k) t.1)
  where
    rs : List TypedLine
    rs = lines_of m (known m fs) f

    Q : List Plan
    Q = plans m (known m fs) [] 0 rs

    new : ((h : ℕ) → h < length fs → Good m Ok d (known m fs h) (eval m (on_samples m) fs h) (fault_step m fs h) h (planned m fs h)) → Good m Ok d (entry_here m f fs) (eval m (on_samples m) (f ∷ fs) (length fs)) (fault_step m (f ∷ fs) (length fs)) (length fs) Q
    new ih = record {
      some_steps = omega arith;
      some_depth = omega arith;
      last_type = plans_last m (known m fs) [] 0 rs no_plan (literal no_type []) refl;
      ends = λ S b ps ts ep bp long deep.
          let z : b + room_from (known m fs) 0 rs ≡ room_from (known m fs) b rs = sym (room_shift (known m fs) b 0 rs) ∙ rw add-zero in
          let w : 1 + lines_steps (known m fs) rs - 1 ≡ lines_steps (known m fs) rs = omega arith in
          let lq : length Q ≡ length rs = plans_length m (known m fs) [] 0 rs in
          let pl : place_of b ps (last_or no_plan Q) ≡ (last_or (region no_type b) (layout (regions f.parameters ps) b rs)).place =
          place_last m (known m fs) (length fs) f.parameters [] b ps 0 rs no_plan (region no_type b) t.0 (add-zero b)
          ∙ ap (λ (i : ℕ). (last_or (region no_type b) (layout (regions f.parameters ps) i rs)).place) (add-zero b) in
          rw (w, lq, pl, eval_here m (on_samples m) f fs (reads S (regions f.parameters ps)), fault_step_here m f fs (reads S (regions f.parameters ps)))
          (lines_end m Ok d (length fs) (known m fs) (planned m fs) (eval m (on_samples m) fs) (fault_step m fs) (λ F o h k. agree F o h (omega arith) ∙ planned_below m f fs h k) ih (keeps_all m (on_samples m) fs t.1)
          (length fs) f.parameters rs t.0 (λ F o. agree F o (length fs) (omega arith) ∙ planned_here m f fs) b ps ts (b + room_from (known m fs) 0 rs) (omega arith)
          ep bp rs [] (reads S (regions f.parameters ps)) [] S refl tt refl refl t.0 (omega arith) (omega arith) long);
    }

    go : (g ≡ length fs) ⊎ (g ≡ length fs → ⊥) → ((h : ℕ) → h < length fs → Good m Ok d (known m fs h) (eval m (on_samples m) fs h) (fault_step m fs h) h (planned m fs h))
        → Good m Ok d (known m (f ∷ fs) g) (eval m (on_samples m) (f ∷ fs) g) (fault_step m (f ∷ fs) g) g (planned m (f ∷ fs) g)
    go (inl e) ih = rw (e, known_here m f fs, planned_here m f fs) (new ih)
    go (inr n) ih =
        let u = ih g (omega arith) in
        rw (known_below m f fs g (omega arith), planned_below m f fs g (omega arith))
        (record {
          some_steps = u.some_steps;
          some_depth = u.some_depth;
          last_type = u.last_type;
          ends = λ S b ps ts ep bp long deep. rw (eval_below m (on_samples m) f fs g (reads S (regions (known m fs g).parameters ps)) (omega arith), fault_step_below m f fs g (reads S (regions (known m fs g).parameters ps)) (omega arith)) (u.ends S b ps ts ep bp long deep);
        })

-- ---- from begin to the end

total_args : (ss : List ArrayType) (q : ℕ) (S : List Sample) → reads S (regions ss (parameter_places q ss)) ≡ arguments ss (drop q S)
total_args [] q S = refl
total_args (s ∷ ss) q S = rw (total_args ss (q + size s.shape) S, drop-drop (size s.shape) q S)

args_front : (ss : List ArrayType) (xs ys : List Sample) → length xs ≡ parameter_atoms ss → arguments ss (xs ++ ys) ≡ arguments ss xs
args_front [] xs ys h = refl
args_front (s ∷ ss) xs ys h =
    rw (take-append-le (size s.shape) xs ys (omega arith), drop-append-le (size s.shape) xs ys (omega arith), args_front ss (drop (size s.shape) xs) ys (simp length-drop (omega arith)))

params_below : (ss : List ArrayType) (q : ℕ) → Below (q + parameter_atoms ss) (regions ss (parameter_places q ss))
params_below [] q = tt
params_below (s ∷ ss) q =
    (omega arith, let e : q + size s.shape + parameter_atoms ss ≡ q + (size s.shape + parameter_atoms ss) = omega arith in subst (λ z. Below z (regions ss (parameter_places (q + size s.shape) ss))) e (params_below ss (q + size s.shape)))

params_types : (ss : List ArrayType) (q : ℕ) → region_types (regions ss (parameter_places q ss)) ≡ ss
params_types [] q = refl
params_types (s ∷ ss) q = ap (λ (z : List ArrayType). s ∷ z) (params_types ss (q + size s.shape))

-- a run from its begin: done after all its steps with the result at a place, or the fault before
pub record Finishes (m : Meaning) (Ok : Plans → Type 0) (d hi n : ℕ) (s : Snapshot) (k : ℕ) (xs : List Sample) : Type 0 where
  pub last : Snapshot
  pub place : ℕ
  pub runs : Runs m Ok d 0 hi (n - 1) s last
  pub ends : (F : Plans) → Ok F → step m F last ≡ done (store_of last) place
  pub items : part (store_of last) place k ≡ xs

abbrev pub Story : Meaning → (Plans → Type 0) → ℕ → ℕ → ℕ → ℕ → Snapshot → ℕ → Outcome Sample → Type 0
Story m Ok d hi n j s k (yields xs) = Finishes m Ok d hi n s k xs
Story m Ok d hi n j s k (faults x) = Fails m Ok d 0 hi n j s x

pub run_from : (m : Meaning) (Ok : Plans → Type 0) (g : ℕ) (e : Entry) (v : List (Array Sample) → Outcome Sample) (w : List (Array Sample) → ℕ) (Q : List Plan) → ((F : Plans) → Ok F → F g ≡ Q) → Good m Ok e.depth e v w g Q
    → (S xs : List Sample) → length xs ≡ parameter_atoms e.parameters → needs e ≤ length S
    → Story m Ok e.depth (needs e) e.steps (w (arguments e.parameters xs)) (at (put S 0 xs) (first_activation e g ∷ [])) (size e.result.shape) (v (arguments e.parameters xs))
unfolding return
run_from m Ok g e v w Q here gd S xs len room = go (v (arguments e.parameters xs)) ends
  where
    same : Same 0 (length S) S (put S 0 xs)
    same = put_same 0 (length S) S 0 xs (omega arith) (omega arith) (omega arith)

    reads_p : reads (put S 0 xs) (regions e.parameters (parameter_places 0 e.parameters)) ≡ arguments e.parameters xs
    reads_p = total_args e.parameters 0 (put S 0 xs) ∙ args_front e.parameters xs (drop (0 + length xs) S) len

    low : Below (parameter_atoms e.parameters) (regions e.parameters (parameter_places 0 e.parameters))
    low = rw zero-add at (params_below e.parameters 0)

    b : ℕ
    b = parameter_atoms e.parameters

    ps : List ℕ
    ps = parameter_places 0 e.parameters

    Whole : Outcome Sample → Type 0
    Whole x = Ends m Ok e.depth b (b + e.room) (e.steps - 1) (w (arguments e.parameters xs)) (at (put S 0 xs) (first_activation e g ∷ [])) (λ T. at T (activation g b ps (length Q) 0 ∷ [])) (place_of b ps (last_or no_plan Q)) (size e.result.shape) x

    ends : Whole (v (arguments e.parameters xs))
    ends = rw (← reads_p) (gd.ends (put S 0 xs) b ps [] (params_types e.parameters 0) low (let u = same.long in omega arith) (omega arith))

    go : (x : Outcome Sample) → Whole x → Story m Ok e.depth (needs e) e.steps (w (arguments e.parameters xs)) (at (put S 0 xs) (first_activation e g ∷ [])) (size e.result.shape) x
    go (yields ys) t = record {
      last = at t.0 (activation g b ps (length Q) 0 ∷ []);
      place = place_of b ps (last_or no_plan Q);
      runs = runs_widen (omega arith) (omega arith) t.1;
      ends = λ F o. step_end m F g Q (here F o) b ps [] t.0 0;
      items = t.2;
    }
    go (faults x) f = fails_more (omega arith) (fails_area (omega arith) (omega arith) f)
