-- Evaluation on samples is evaluation on codes; every code is of its base type, and every cause is the algebra's own.
use Rattle.std.proofs.Common.{◌≡◌, ℕ, zero, suc, ◌+◌, ◌<◌, ◌≤◌, Bool, true, false, ◌⊎◌, List, [], ◌∷◌, ◌++◌, map, reverse, length, get_or, take, drop, replicate, is_some, Some, None, Option, sym, refl, ap, ◌∙◌, subst, inl, inr, arith}
use Rattle.std.proofs.lemmas.List.{map-append, map-id, take-map, drop-map, reverse-append}
use Rattle.std.proofs.lemmas.Bool.{cases_eq, and_from, eq-eqb, lt-ltb, both_ways}
use Rattle.remora.specs.Shapes.{Shape, size, frame_of}
use Rattle.remora.specs.Algebras.{Sample, sample_of, Assigned, gives, fails, Meaning, all_held, Legal, UnitFits, Formed, of_assigned, of_bases, codes_of, applied}
use Rattle.remora.specs.Formulas.{ArrayType, shaped, no_type, Formula, Entry, Function, primitive, formula, fold, append, reversal, scalars, cells, result_cell, TypedLine, literal, parameter, frame, application, type_of, last_or}
use Rattle.remora.specs.Typing.{InSet, Alike, no_operand, operand}
use Rattle.remora.specs.Evaluation.{split, rep, concat, Array, array_of, no_array, items_at, Fault, Outcome, yields, faults, Cells, all, upto, Attempt, value, failed, and_then, Operations, attempted, unit_code, on_codes, repeats, lift, cell_at, cells_at, firsts, combined, fold_from, told, apply_cell, collapse, map_cells, joined, eval_line, onward, eval_lines}
use Rattle.remora.specs.Numbers.{lines_of, known, eval}
use Rattle.remora.specs.Machine.{sampled, unit_sample, on_samples}
use Rattle.remora.specs.Histories.{Caused}
use Rattle.remora.proofs.Sizes.{Lifts, none, one, FunctionFits, Sound, s_literal, s_parameter, s_frame, s_application, SoundAll, end, then, result_from, result_is, known_here, known_below, eval_here, eval_below, Fit, cells_at_fit, fit_snoc, LengthC, Keeps, eval_line_length, keeps_all, Sounds}

-- ---- the list functions commute with maps

module _ {X Y : Type 0} (f : X → Y) where
  split_map : (m k : ℕ) (xs : List X) → split m k (map f xs) ≡ map (map f) (split m k xs)
  split_map zero k xs = refl
  split_map (suc m) k xs = rw (take-map f k xs, drop-map f k xs, split_map m k (drop k xs))

  replicate_map : (r : ℕ) (x : X) → map f (replicate r x) ≡ replicate r (f x)
  replicate_map zero x = refl
  replicate_map (suc r) x = ap (λ (l : List Y). f x ∷ l) (replicate_map r x)

  concat_map : (xs : List (List X)) → concat (map (map f) xs) ≡ map f (concat xs)
  concat_map [] = refl
  concat_map (x ∷ xs) = rw (concat_map xs) (sym (map-append f x (concat xs)))

  get_or_map_at : (xs : List X) (i : ℕ) (d : X) → get_or (map f xs) i (f d) ≡ f (get_or xs i d)
  get_or_map_at [] i d = refl
  get_or_map_at (x ∷ xs) zero d = refl
  get_or_map_at (x ∷ xs) (suc i) d = get_or_map_at xs i d

  reverse_map : (xs : List X) → reverse (map f xs) ≡ map f (reverse xs)
  reverse_map [] = refl
  reverse_map (x ∷ xs) = reverse-append (f x ∷ []) (map f xs) ∙ rw (reverse_map xs) (sym (ap (map f) (reverse-append (x ∷ []) xs) ∙ map-append f (reverse xs) (x ∷ [])))

module _ {X Y : Type 0} (f : X → Y) where
  rep_map : (r : ℕ) (xs : List (List X)) → rep r (map (map f) xs) ≡ map (map f) (rep r xs)
  rep_map r [] = refl
  rep_map r (x ∷ xs) = rw (rep_map r xs, ← (replicate_map (map f) r x)) (sym (map-append (map f) (replicate r x) (rep r xs)))

  lift_map : (p w s : Shape) (xs : List X) (c : ℕ) → get_or (lift p w s (map f xs)) c [] ≡ map f (get_or (lift p w s xs) c [])
  lift_map p w s xs c =
      ap (λ (z : List (List Y)). get_or (rep (repeats p w s) z) c []) (split_map f (size (frame_of w s)) (size w) xs)
      ∙ ap (λ (z : List (List Y)). get_or z c []) (rep_map (repeats p w s) (split (size (frame_of w s)) (size w) xs)) ∙ get_or_map_at (map f) (lift p w s xs) c []

-- ---- codes in their sets

module _ (holds : ℕ → ℕ → Bool) (b : ℕ) where
  in_append : (xs ys : List ℕ) → InSet holds b xs → InSet holds b ys → InSet holds b (xs ++ ys)
  in_append [] ys h k = k
  in_append (x ∷ xs) ys h k = (h.0, in_append xs ys h.1 k)

  in_take : (n : ℕ) (xs : List ℕ) → InSet holds b xs → InSet holds b (take n xs)
  in_take zero xs h = tt
  in_take (suc n) [] h = tt
  in_take (suc n) (x ∷ xs) h = (h.0, in_take n xs h.1)

  in_drop : (n : ℕ) (xs : List ℕ) → InSet holds b xs → InSet holds b (drop n xs)
  in_drop zero xs h = h
  in_drop (suc n) [] h = tt
  in_drop (suc n) (x ∷ xs) h = in_drop n xs h.1

  in_replicate : (n c : ℕ) → holds b c ≡ true → InSet holds b (replicate n c)
  in_replicate zero c h = tt
  in_replicate (suc n) c h = (h, in_replicate n c h)

  abbrev InAll : List (List ℕ) → Type 0
  InAll [] = Unit {0}
  InAll (x ∷ xs) = InSet holds b x × InAll xs

  all_append : (xs ys : List (List ℕ)) → InAll xs → InAll ys → InAll (xs ++ ys)
  all_append [] ys h k = k
  all_append (x ∷ xs) ys h k = (h.0, all_append xs ys h.1 k)

  all_split : (m k : ℕ) (xs : List ℕ) → InSet holds b xs → InAll (split m k xs)
  all_split zero k xs h = tt
  all_split (suc m) k xs h = (in_take k xs h, all_split m k (drop k xs) (in_drop k xs h))

  all_replicate : (r : ℕ) (x : List ℕ) → InSet holds b x → InAll (replicate r x)
  all_replicate zero x h = tt
  all_replicate (suc r) x h = (h, all_replicate r x h)

  all_rep : (r : ℕ) (xs : List (List ℕ)) → InAll xs → InAll (rep r xs)
  all_rep r [] h = tt
  all_rep r (x ∷ xs) h = all_append (replicate r x) (rep r xs) (all_replicate r x h.0) (all_rep r xs h.1)

  all_at : (xs : List (List ℕ)) (i : ℕ) → InAll xs → InSet holds b (get_or xs i [])
  all_at [] i h = tt
  all_at (x ∷ xs) zero h = h.0
  all_at (x ∷ xs) (suc i) h = all_at xs i h.1

  all_concat : (xs : List (List ℕ)) → InAll xs → InSet holds b (concat xs)
  all_concat [] h = tt
  all_concat (x ∷ xs) h = in_append x (concat xs) h.0 (all_concat xs h.1)

  all_reverse : (xs : List (List ℕ)) → InAll xs → InAll (reverse xs)
  all_reverse [] h = tt
  all_reverse (x ∷ xs) h = rw (reverse-append (x ∷ []) xs) (all_append (reverse xs) (x ∷ []) (all_reverse xs h.1) (h.0, tt))

  lift_in : (p w s : Shape) (xs : List ℕ) (c : ℕ) → InSet holds b xs → InSet holds b (get_or (lift p w s xs) c [])
  lift_in p w s xs c h = all_at (lift p w s xs) c (all_rep (repeats p w s) (split (size (frame_of w s)) (size w) xs) (all_split (size (frame_of w s)) (size w) xs h))

-- ---- an operator on codes and on their samples

-- the samples of codes of these base types
abbrev pub samples_of : List ℕ → List ℕ → List Sample
samples_of [] cs = []
samples_of (b ∷ bs) [] = []
samples_of (b ∷ bs) (c ∷ cs) = sample_of b c ∷ samples_of bs cs

samples_bases : (holds : ℕ → ℕ → Bool) (bs cs : List ℕ) → all_held holds bs cs ≡ true → of_bases bs (samples_of bs cs) ≡ true
samples_bases holds [] [] h = refl
samples_bases holds [] (c ∷ cs) h = absurd (both_ways false refl h)
samples_bases holds (b ∷ bs) [] h = absurd (both_ways false refl h)
samples_bases holds (b ∷ bs) (c ∷ cs) h = and_from _ _ (eq-eqb b b refl) (samples_bases holds bs cs (Rattle.std.proofs.lemmas.Bool.and_parts (holds b c) (all_held holds bs cs) h).1)

samples_codes : (holds : ℕ → ℕ → Bool) (bs cs : List ℕ) → all_held holds bs cs ≡ true → codes_of (samples_of bs cs) ≡ cs
samples_codes holds [] [] h = refl
samples_codes holds [] (c ∷ cs) h = absurd (both_ways false refl h)
samples_codes holds (b ∷ bs) [] h = absurd (both_ways false refl h)
samples_codes holds (b ∷ bs) (c ∷ cs) h = ap (λ (z : List ℕ). c ∷ z) (samples_codes holds bs cs (Rattle.std.proofs.lemmas.Bool.and_parts (holds b c) (all_held holds bs cs) h).1)

applied_samples : (m : Meaning) (o : ℕ) (cs : List ℕ) → o < m.operators → all_held m.holds (m.operator o).operands cs ≡ true
    → applied m o (samples_of (m.operator o).operands cs) ≡ of_assigned (m.operator o).result (m.assign o cs)
unfolding applied
applied_samples m o cs i h = rw (lt-ltb o m.operators i, samples_bases m.holds (m.operator o).operands cs h, samples_codes m.holds (m.operator o).operands cs h)

-- ---- the two evaluations side by side: x on codes, y on samples

-- arguments of these types, all codes in their sets
abbrev pub Right : (ℕ → ℕ → Bool) → List ArrayType → List (Array ℕ) → Type 0
Right holds [] [] = Unit {0}
Right holds [] (a ∷ ts) = ⊥
Right holds (t ∷ ss) [] = ⊥
Right holds (t ∷ ss) (a ∷ ts) = (a.type ≡ t) × InSet holds t.base a.items × Right holds ss ts

abbrev pub map_array : Array ℕ → Array Sample
map_array a = array_of a.type (map (sample_of a.type.base) a.items)

abbrev pub map_arrays : List (Array ℕ) → List (Array Sample)
map_arrays [] = []
map_arrays (a ∷ ts) = map_array a ∷ map_arrays ts

module _ (m : Meaning) (formed : Formed m) where
  abbrev C : Operations ℕ
  C = on_codes m

  abbrev O : Operations Sample
  O = on_samples m

  -- the cause is what the algebra assigns to these codes
  abbrev Own : ℕ → ℕ → List ℕ → Type 0
  Own e o cs = (o < m.operators) × (all_held m.holds (m.operator o).operands cs ≡ true) × (m.assign o cs ≡ fails e)

  abbrev SimA : ℕ → Attempt ℕ (List ℕ) → Attempt Sample (List Sample) → Type 0
  SimA b (value xs) y = InSet m.holds b xs × (y ≡ value (map (sample_of b) xs))
  SimA b (failed e o cs) y = Own e o cs × (y ≡ failed e o (samples_of (m.operator o).operands cs))

  -- a fault on codes, as it is on samples
  abbrev pub on_fault : Fault ℕ → Fault Sample
  on_fault x = record { cause = x.cause; formula = x.formula; line = x.line; cell = x.cell; operator = x.operator; operands = samples_of (m.operator x.operator).operands x.operands }

  abbrev OwnFault : Fault ℕ → Type 0
  OwnFault x = Own x.cause x.operator x.operands

  pub own_caused : (x : Fault ℕ) → OwnFault x → Caused m x
  own_caused x w =
      let l : Legal m (m.operator x.operator).result (fails x.cause) = subst (Legal m (m.operator x.operator).result) w.2 (formed.legal x.operator x.operands w.0 w.1) in
      record { known_operator = w.0; of_its_types = w.1; assigned = w.2; not_nought = l.0; small = l.1 }

  abbrev pub SimO : ℕ → Outcome ℕ → Outcome Sample → Type 0
  SimO b (yields xs) y = InSet m.holds b xs × (y ≡ yields (map (sample_of b) xs))
  SimO b (faults x) y = OwnFault x × (y ≡ faults (on_fault x))

  abbrev SimC : ℕ → Cells ℕ → Cells Sample → Type 0
  SimC b (all xs) y = InSet m.holds b xs × (y ≡ all (map (sample_of b) xs))
  SimC b (upto xs x) y = OwnFault x × (y ≡ upto (map (sample_of b) xs) (on_fault x))

  then_sim : (b : ℕ) (t : Attempt ℕ (List ℕ)) (u : Attempt Sample (List Sample)) (k : List ℕ → Attempt ℕ (List ℕ)) (l : List Sample → Attempt Sample (List Sample)) (c : ℕ) → SimA b t u
      → ((xs : List ℕ) → InSet m.holds b xs → SimA c (k xs) (l (map (sample_of b) xs))) → SimA c (and_then t k) (and_then u l)
  then_sim b (value xs) u k l c s f = rw s.1 (f xs s.0)
  then_sim b (failed e o xs) u k l c s f = (s.0, rw s.1 refl)

  -- one application of an operator
  apply_sim : (o : ℕ) (cs : List ℕ) (us : List Sample) → o < m.operators → all_held m.holds (m.operator o).operands cs ≡ true → us ≡ samples_of (m.operator o).operands cs
      → (k : ℕ → Attempt ℕ (List ℕ)) (l : Sample → Attempt Sample (List Sample)) (c : ℕ) → ((z : ℕ) → m.holds (m.operator o).result z ≡ true → SimA c (k z) (l (sample_of (m.operator o).result z)))
      → SimA c (and_then (C.apply o cs) k) (and_then (O.apply o us) l)
  apply_sim o cs us i h e k l c f = rw (e, applied_samples m o cs i h) (go (m.assign o cs) refl (formed.legal o cs i h))
    where
      go : (t : Assigned) → m.assign o cs ≡ t → Legal m (m.operator o).result t
          → SimA c (and_then (attempted o cs t) k) (and_then (sampled o (samples_of (m.operator o).operands cs) (of_assigned (m.operator o).result t)) l)
      go (gives z) q u = f z u
      go (fails n) q u = ((i, h, q), refl)

  combined_sim : (o b : ℕ) → o < m.operators → (m.operator o).operands ≡ b ∷ b ∷ [] → (m.operator o).result ≡ b → (xs ys : List ℕ) → InSet m.holds b xs → InSet m.holds b ys
      → SimA b (combined C o xs ys) (combined O o (map (sample_of b) xs) (map (sample_of b) ys))
  combined_sim o b l e r [] ys i j = (tt, refl)
  combined_sim o b l e r (x ∷ xs) [] i j = (tt, refl)
  combined_sim o b l e r (x ∷ xs) (y ∷ ys) i j =
      apply_sim o (x ∷ y ∷ []) (sample_of b x ∷ sample_of b y ∷ []) l (rw e (and_from _ _ i.0 (and_from _ _ j.0 refl))) (rw e) _ _ b
      (λ z u. then_sim b (combined C o xs ys) (combined O o (map (sample_of b) xs) (map (sample_of b) ys)) _ _ b (combined_sim o b l e r xs ys i.1 j.1) (λ zs v. ((rw r at u, v), rw r)))

  fold_from_sim : (o b : ℕ) → o < m.operators → (m.operator o).operands ≡ b ∷ b ∷ [] → (m.operator o).result ≡ b → (acc : List ℕ) (xs : List (List ℕ)) → InSet m.holds b acc → InAll m.holds b xs
      → SimA b (fold_from C o acc xs) (fold_from O o (map (sample_of b) acc) (map (map (sample_of b)) xs))
  fold_from_sim o b l e r acc [] i j = (i, refl)
  fold_from_sim o b l e r acc (x ∷ xs) i j =
      then_sim b (combined C o acc x) (combined O o (map (sample_of b) acc) (map (sample_of b) x)) _ _ b (combined_sim o b l e r acc x i j.0) (λ z v. fold_from_sim o b l e r z xs v j.1)

  right_at : (ss : List ArrayType) (ts : List (Array ℕ)) → Right m.holds ss ts → (i : ℕ) → ((get_or ts i no_array).type ≡ get_or ss i no_type) × InSet m.holds (get_or ss i no_type).base (get_or ts i no_array).items
  right_at [] [] r i = (refl, tt)
  right_at [] (a ∷ ts) r i = absurd r
  right_at (t ∷ ss) [] r i = absurd r
  right_at (t ∷ ss) (a ∷ ts) r zero = (r.0, r.1)
  right_at (t ∷ ss) (a ∷ ts) r (suc i) = right_at ss ts r.2 i

  right_snoc : (ss : List ArrayType) (ts : List (Array ℕ)) (t : ArrayType) (xs : List ℕ) → Right m.holds ss ts → InSet m.holds t.base xs → Right m.holds (ss ++ t ∷ []) (ts ++ array_of t xs ∷ [])
  right_snoc [] [] t xs r i = (refl, i, tt)
  right_snoc [] (a ∷ ts) t xs r i = absurd r
  right_snoc (s ∷ ss) [] t xs r i = absurd r
  right_snoc (s ∷ ss) (a ∷ ts) t xs r i = (r.0, r.1, right_snoc ss ts t xs r.2 i)

  maps_at : (ts : List (Array ℕ)) (i : ℕ) → get_or (map_arrays ts) i no_array ≡ map_array (get_or ts i no_array)
  maps_at [] i = refl
  maps_at (a ∷ ts) zero = refl
  maps_at (a ∷ ts) (suc i) = maps_at ts i

  maps_snoc : (ts : List (Array ℕ)) (a : Array ℕ) → map_arrays (ts ++ a ∷ []) ≡ map_arrays ts ++ map_array a ∷ []
  maps_snoc [] a = refl
  maps_snoc (b ∷ ts) a = ap (λ (l : List (Array Sample)). map_array b ∷ l) (maps_snoc ts a)

  maps_length : (ts : List (Array ℕ)) → length (map_arrays ts) ≡ length ts
  maps_length [] = refl
  maps_length (a ∷ ts) = ap suc (maps_length ts)

  maps_last : (d : Array ℕ) (ts : List (Array ℕ)) → last_or (map_array d) (map_arrays ts) ≡ map_array (last_or d ts)
  maps_last d [] = refl
  maps_last d (a ∷ ts) = maps_last a ts

  right_last : (d : Array ℕ) (e : ArrayType) (ss : List ArrayType) (ts : List (Array ℕ)) → (d.type ≡ e) × InSet m.holds e.base d.items → Right m.holds ss ts
      → ((last_or d ts).type ≡ last_or e ss) × InSet m.holds (last_or e ss).base (last_or d ts).items
  right_last d e [] [] k r = k
  right_last d e [] (a ∷ ts) k r = absurd r
  right_last d e (s ∷ ss) [] k r = absurd r
  right_last d e (s ∷ ss) (a ∷ ts) k r = right_last a s ss ts (r.0, r.1) r.2

  -- array i, of type t
  items_sim : (ss : List ArrayType) (ts : List (Array ℕ)) (i : ℕ) (t : ArrayType) → Right m.holds ss ts → get_or ss i no_type ≡ t
      → InSet m.holds t.base (items_at ts i) × (items_at (map_arrays ts) i ≡ map (sample_of t.base) (items_at ts i))
  items_sim ss ts i t r e =
      let u = right_at ss ts r i in
      let v : (get_or ts i no_array).type ≡ t = u.0 ∙ e in
      (rw e at u.1, ap (λ (a : Array Sample). a.items) (maps_at ts i) ∙ ap (λ (z : ArrayType). map (sample_of z.base) (items_at ts i)) v)

  firsts_sim : (bs : List ℕ) (ts : List (Array ℕ)) → Right m.holds (scalars bs) ts → Fit (scalars bs) ts → (all_held m.holds bs (firsts ts) ≡ true) × (firsts (map_arrays ts) ≡ samples_of bs (firsts ts))
  firsts_sim [] [] r f = (refl, refl)
  firsts_sim [] (a ∷ ts) r f = absurd r
  firsts_sim (b ∷ bs) [] r f = absurd r
  firsts_sim (b ∷ bs) (a ∷ ts) r f =
      let u = go a.items r.1 f.1 (firsts_sim bs ts r.2 f.2) in
      (u.0, ap (λ (z : ArrayType). take 1 (map (sample_of z.base) a.items) ++ firsts (map_arrays ts)) r.0 ∙ u.1)
    where
      go : (xs : List ℕ) → InSet m.holds b xs → length xs ≡ 1 → (all_held m.holds bs (firsts ts) ≡ true) × (firsts (map_arrays ts) ≡ samples_of bs (firsts ts))
          → (all_held m.holds (b ∷ bs) (take 1 xs ++ firsts ts) ≡ true) × (take 1 (map (sample_of b) xs) ++ firsts (map_arrays ts) ≡ samples_of (b ∷ bs) (take 1 xs ++ firsts ts))
      go [] i l ih = absurd (omega arith)
      go (x ∷ []) i l ih = (and_from _ _ i.0 ih.0, ap (λ (z : List Sample). sample_of b x ∷ z) ih.1)
      go (x ∷ y ∷ xs) i l ih = absurd (omega arith)

  told_sim : (b g l c : ℕ) (t : Attempt ℕ (List ℕ)) (u : Attempt Sample (List Sample)) → SimA b t u → SimO b (told g l c t) (told g l c u)
  told_sim b g l c (value xs) u s = (s.0, rw s.1 refl)
  told_sim b g l c (failed e o xs) u s = (s.0, rw s.1 refl)

  -- the unit of an operator that has one, on codes and on samples
  unit_sim : (o b : ℕ) → o < m.operators → (m.operator o).result ≡ b → is_some (m.operator o).unit ≡ true → (m.holds b (C.unit o) ≡ true) × (O.unit o ≡ sample_of b (C.unit o))
  unit_sim o b l r h = go (m.operator o).unit h (formed.unit_fits o l)
    where
      go : (u : Option ℕ) → is_some u ≡ true → UnitFits m (m.operator o) u → (m.holds b (unit_code u) ≡ true) × (unit_sample (m.operator o).result u ≡ sample_of b (unit_code u))
      go None e f = absurd (both_ways false refl e)
      go (Some u) e f = (rw r at f.1, rw r)

  -- what a callee must keep
  abbrev pub Sims : Entry → (List (Array ℕ) → Outcome ℕ) → (List (Array Sample) → Outcome Sample) → Type 0
  Sims e v w = (ts : List (Array ℕ)) → Right m.holds e.parameters ts → Fit e.parameters ts → SimO e.result.base (v ts) (w (map_arrays ts))

  args_sim : (types : List ArrayType) (env : List (Array ℕ)) (p : Shape) (c : ℕ) (ws : List ArrayType) (os : List ℕ) → Right m.holds types env → Lifts types p ws os
      → Right m.holds ws (cells_at env p c ws os) × (cells_at (map_arrays env) p c ws os ≡ map_arrays (cells_at env p c ws os))
  args_sim types env p c ws os r none = (tt, refl)
  args_sim types env p c ws os r (one {w = w} {ws = ws'} {o = o} {os = os'} f q i e u t) =
      let ih = args_sim types env p c ws' os' r t in
      let a : Array ℕ = get_or env o no_array in
      let v = right_at types env r o in
      let inb : InSet m.holds w.base a.items = rw e at v.1 in
      let ab : a.type.base ≡ w.base = ap (λ (z : ArrayType). z.base) (v.0 ∙ e) in (
        (refl, lift_in m.holds w.base p w.shape a.type.shape a.items c inb, ih.0),
        rw ih.1 (ap (λ (z : Array Sample). z ∷ map_arrays (cells_at env p c ws' os'))
            (ap (λ (z : Array Sample). cell_at p w z c) (maps_at env o) ∙ ap (array_of w) (lift_map (sample_of a.type.base) p w.shape a.type.shape a.items c ∙ ap (λ (z : ℕ). map (sample_of z) (get_or (lift p w.shape a.type.shape a.items) c [])) ab))),
      )

  collapse_sim : (b : ℕ) (x : Outcome ℕ) (y : Outcome Sample) (g : Cells ℕ) (k : Cells Sample) → SimO b x y → SimC b g k → SimC b (collapse x g) (collapse y k)
  collapse_sim b (yields xs) y (all ys) k s t = (in_append m.holds b xs ys s.0 t.0, rw (s.1, t.1) (ap all (sym (map-append (sample_of b) xs ys))))
  collapse_sim b (yields xs) y (upto ys e) k s t = (t.0, rw (s.1, t.1) (ap (λ (z : List Sample). upto z (on_fault e)) (sym (map-append (sample_of b) xs ys))))
  collapse_sim b (faults e) y g k s t = (s.0, rw s.1 refl)

  map_cells_sim : (b : ℕ) (F : ℕ → Outcome ℕ) (F' : ℕ → Outcome Sample) (N c n : ℕ) → ((i : ℕ) → i < N → SimO b (F i) (F' i)) → c + n ≤ N → SimC b (map_cells F c n) (map_cells F' c n)
  map_cells_sim b F F' N c zero f l = (tt, refl)
  map_cells_sim b F F' N c (suc n) f l = collapse_sim b (F c) (F' c) (map_cells F (suc c) n) (map_cells F' (suc c) n) (f c (omega arith)) (map_cells_sim b F F' N (suc c) n f (omega arith))

  join_sim : (types : List ArrayType) (env : List (Array ℕ)) (t : ArrayType) (os : List ℕ) → Right m.holds types env → Alike types t os
      → InSet m.holds t.base (joined env os) × (joined (map_arrays env) os ≡ map (sample_of t.base) (joined env os))
  join_sim types env t os r no_operand = (tt, refl)
  join_sim types env t os r (operand {o = o} {os = os'} i e a) =
      let u = items_sim types env o t r e in
      let ih = join_sim types env t os' r a in
      (in_append m.holds t.base (items_at env o) (joined env os') u.0 ih.0, rw (u.1, ih.1) (sym (map-append (sample_of t.base) (items_at env o) (joined env os'))))

  module _ (n : ℕ) (E : ℕ → Entry) (V : ℕ → List (Array ℕ) → Outcome ℕ) (W : ℕ → List (Array Sample) → Outcome Sample) (kept : (k : ℕ) → k < n → Keeps (E k) (V k)) (sims : (k : ℕ) → k < n → Sims (E k) (V k) (W k)) where
    cell_sim : (g l c : ℕ) (f : Function) → FunctionFits m n f → (ts : List (Array ℕ)) → Right m.holds (cells m E f) ts → Fit (cells m E f) ts
        → SimO (result_cell m E f).base (apply_cell C V g l c f ts) (apply_cell O W g l c f (map_arrays ts))
    cell_sim g l c (primitive o) fits ts r f =
        let u = firsts_sim (m.operator o).operands ts r f in
        told_sim (m.operator o).result g l c _ _ (apply_sim o (firsts ts) (firsts (map_arrays ts)) fits u.0 u.1 _ _ (m.operator o).result (λ z v. ((v, tt), refl)))
    cell_sim g l c (formula h) fits ts r f = sims h fits ts r f
    cell_sim g l c (fold o b zero d) fits ts r f =
        let u = unit_sim o b fits.0 fits.2 (fits.3 refl) in
        (in_replicate m.holds b (size d) (C.unit o) u.0, rw u.1 (ap yields (sym (replicate_map (sample_of b) (size d) (C.unit o)))))
    cell_sim g l c (fold o b (suc k) d) fits ts r f =
        let u = items_sim (cells m E (fold o b (suc k) d)) ts 0 (shaped b (suc k ∷ d)) r refl in
        let v = all_split m.holds b (suc k) (size d) (items_at ts 0) u.0 in
        told_sim b g l c _ _ (rw (u.1, take-map (sample_of b) (size d) (items_at ts 0), drop-map (sample_of b) (size d) (items_at ts 0), split_map (sample_of b) k (size d) (drop (size d) (items_at ts 0))) (fold_from_sim o b fits.0 fits.1 fits.2 _ _ v.0 v.1))
    cell_sim g l c (append b j k d) fits ts r f =
        let u = items_sim (cells m E (append b j k d)) ts 0 (shaped b (j ∷ d)) r refl in
        let v = items_sim (cells m E (append b j k d)) ts 1 (shaped b (k ∷ d)) r refl in
        (in_append m.holds b (items_at ts 0) (items_at ts 1) u.0 v.0, rw (u.1, v.1) (ap yields (sym (map-append (sample_of b) (items_at ts 0) (items_at ts 1)))))
    cell_sim g l c (reversal b k d) fits ts r f =
        let u = items_sim (cells m E (reversal b k d)) ts 0 (shaped b (k ∷ d)) r refl in
        let L : List (List ℕ) = split k (size d) (items_at ts 0) in (
          all_concat m.holds b (reverse L) (all_reverse m.holds b L (all_split m.holds b k (size d) (items_at ts 0) u.0)),
          ap yields (rw u.1 (ap (λ (z : List (List Sample)). concat (reverse z)) (split_map (sample_of b) k (size d) (items_at ts 0)) ∙ ap concat (reverse_map (map (sample_of b)) L) ∙ concat_map (sample_of b) (reverse L))),
        )

    module _ (g : ℕ) (ps : List ArrayType) (args : List (Array ℕ)) (right : Right m.holds ps args) (fits : Fit ps args) where
      line_sim : (types : List ArrayType) (env : List (Array ℕ)) (r : TypedLine) → Right m.holds types env → Fit types env → Sound m n E ps types r
          → SimC (type_of r).base (eval_line m C E V g args env r) (eval_line m O E W g (map_arrays args) (map_arrays env) r)
      unfolding eval_line
      line_sim types env (literal t xs) r f (s_literal l i) = (rw (map-id xs) i, rw (map-id xs) refl)
      line_sim types env (parameter k t) r f (s_parameter l e) = let u = items_sim ps args k t right e in (u.0, ap all u.1)
      line_sim types env (frame os p t) r f (s_frame cell e l a) = let u = join_sim types env (shaped t.base cell) os r a in (u.0, ap all u.1)
      line_sim types env (application fn os p t) r f (s_application fok ok e) =
          rw (e, maps_length env) (map_cells_sim (result_cell m E fn).base _ _ (size p) 0 (size p)
          (λ i l. let u = args_sim types env p i (cells m E fn) os r ok in
          rw u.1 (cell_sim g (length env) i fn fok _ u.0 (cells_at_fit types env p i (cells m E fn) os f l ok))) (omega arith))

      onward_sim : (b c k : ℕ) (x : Cells ℕ) (y : Cells Sample) (v : List ℕ → Outcome ℕ) (w : List Sample → Outcome Sample) → SimC b x y → LengthC k x
          → ((xs : List ℕ) → InSet m.holds b xs → length xs ≡ k → SimO c (v xs) (w (map (sample_of b) xs))) → SimO c (onward x v) (onward y w)
      onward_sim b c k (all xs) y v w s z f = rw s.1 (f xs s.0 z)
      onward_sim b c k (upto xs e) y v w s z f = (s.0, rw s.1 refl)

      lines_sim : (types : List ArrayType) (env : List (Array ℕ)) (rs : List TypedLine) → Right m.holds types env → Fit types env → SoundAll m n E ps types rs
          → SimO (result_from types rs).base (eval_lines m C E V g args env rs) (eval_lines m O E W g (map_arrays args) (map_arrays env) rs)
      unfolding eval_lines
      lines_sim types env [] r f end =
          let u = right_last no_array no_type types env (refl, tt) r in
          (u.1, ap yields (ap (λ (a : Array Sample). a.items) (maps_last no_array env) ∙ ap (λ (z : ArrayType). map (sample_of z.base) (last_or no_array env).items) u.0))
      lines_sim types env (r₁ ∷ rs) r f (then t u) =
          onward_sim (type_of r₁).base _ (size (type_of r₁).shape) (eval_line m C E V g args env r₁) _ _ _ (line_sim types env r₁ r f t)
          (eval_line_length m C n E V kept g ps args fits types env r₁ f t)
          (λ xs i l. rw (← (maps_snoc env (array_of (type_of r₁) xs)))
          (lines_sim (types ++ type_of r₁ ∷ []) (env ++ array_of (type_of r₁) xs ∷ []) rs (right_snoc types env (type_of r₁) xs r i) (fit_snoc types env (type_of r₁) xs f l) u))

  -- evaluation on samples is evaluation on codes
  pub sims_all : (fs : List Formula) → Sounds m fs → (g : ℕ) → g < length fs → Sims (known m fs g) (eval m C fs g) (eval m O fs g)
  sims_all [] t g l = absurd (omega arith)
  sims_all (f ∷ fs) t g l = go (cases_eq g (length fs)) (sims_all fs t.1)
    where
      go : (g ≡ length fs) ⊎ (g ≡ length fs → ⊥) → ((k : ℕ) → k < length fs → Sims (known m fs k) (eval m C fs k) (eval m O fs k))
          → Sims (known m (f ∷ fs) g) (eval m C (f ∷ fs) g) (eval m O (f ∷ fs) g)
      go (inl e) ih = rw (e, known_here m f fs) (λ ts r fit. rw (eval_here m C f fs ts, eval_here m O f fs (map_arrays ts), ← (result_is [] (lines_of m (known m fs) f) (literal no_type []) refl))
          (lines_sim (length fs) (known m fs) (eval m C fs) (eval m O fs) (keeps_all m C fs t.1) ih (length fs) f.parameters ts r fit [] [] (lines_of m (known m fs) f) tt tt t.0))
      go (inr d) ih = rw (known_below m f fs g (omega arith))
          (λ ts r fit. rw (eval_below m C f fs g ts (omega arith), eval_below m O f fs g (map_arrays ts) (omega arith)) (ih g (omega arith) ts r fit))
