-- What is read word by word and collected, up to the first that is at fault.
use Rattle.std.proofs.Common.{◌≡◌, ℕ, zero, suc, ◌<◌, ◌⊎◌, Bool, true, false, cond, List, [], ◌∷◌, ◌++◌, map, Some, None, Ok, Err, IfOk, IfErr, IsSomeAnd, Option, Result, Bor, MatchOption, Vec, Global, vec_items, vec_len, vec_capacity, length, ◌+◌, ◌≤◌, append-nil, sym, ap, ◌∙◌, subst, inl, inr, arith}
use Rattle.std.specs.Fn.{Called, CalledAt, Mut}
use Rattle.std.specs.Iterator.{Yields, YieldsFirstRef, TryCollects}
use Rattle.std.specs.Iterator.Adapters.{map_source, map_callee, map_steps, filter_source, filter_callee, filter_steps}
use Rattle.std.specs.Iterator.Runs.{SomeRun, EndsAtFirstErr, YieldsRun}
use Rattle.std.specs.List.{FoldsTo, slice_get}
use Rattle.std.specs.declared.alloc.AllocError.{AllocError}
use Rattle.std.specs.Char.{char_set_contains}
use Rattle.std.specs.Str.Iter.{split_text, split_has_more, split_pattern, split_steps}
use Rattle.std.specs.Str.Pattern.{FindsChar}
use Rattle.std.specs.declared.iter.Map.{Map}
use Rattle.std.specs.declared.iter.Filter.{Filter}
use Rattle.std.specs.declared.str.Split.{Split}
use Rattle.traces.specs.Texts.{words_in, filled}
use Rattle.std.proofs.lemmas.List.{map_push, map-id}
use Rattle.scripts.specs.declared.errors.ReadError.{ReadError}
use Rattle.scripts.specs.declared.errors.ReadError.TheVariants.{NoMemory}
use Rattle.scripts.specs.declared.words.Words.{Words}
use Rattle.scripts.specs.Words.{words_of}
use Rattle.scripts.specs.Readings.{Said, Reads, Blames, all_said}
use Rattle.scripts.specs.Numbers.{comma, gap}
use Rattle.scripts.proofs.Cuts.{remaining, FindsAmong, next_number, next_gap}
use Rattle.scripts.proofs.Exits.{fails_first, fails_next}
use Rattle.scripts.proofs.Runs.{after, after_more, after_none, before_wrong}

-- What a source of words gave, and what it left.
abbrev pub Gives : {S : Type 0} → (S → List (List ℕ)) → (S → Type 0) → S → Option (Bor (List ℕ)) → S → Type 0
Gives rest fine s r t = MatchOption r (rest s ≡ []) (λ w. (rest s ≡ w.now ∷ rest t) × fine t)

module _ {S F X M : Type 0} (steps : S → Option (Bor (List ℕ)) → S → Type 0) (rest : S → List (List ℕ)) (fine : S → Type 0)
    (gives : (s t : S) (r : Option (Bor (List ℕ))) → fine s → steps s r t → Gives rest fine s r t)
    (g : Mut F (Bor (List ℕ) × Unit {0}) (Result X ReadError)) (f : F) (said : List ℕ → Said M) (view : X → M)
    (reads : (w : Bor (List ℕ)) (r : Result X ReadError) (q : F) → Called g f (w, tt) r q → (q ≡ f) × Reads (said w.now) view r) where
  -- What `collect` makes of items, and what `extend` adds to a vector.
  abbrev collects : List X → Vec X Global → Type 0
  collects xs v = (vec_items v ≡ xs) × (vec_len v ≡ length xs)

  abbrev extends : Vec X Global → List X → Vec X Global → Type 0
  extends v xs w = (vec_items w ≡ vec_items v ++ xs) × (vec_len w ≡ vec_len v + length xs) × (vec_capacity v ≤ vec_capacity w)

  -- The words that are left of a source under a map.
  abbrev left : Map S F → List (List ℕ)
  left s = rest (map_source s)

  -- One word more is read.
  one : (s t : Map S F) (x : Result X ReadError) → fine (map_source s) → map_callee s ≡ f → map_steps steps g s (Some x) t
      → (w : List ℕ) × (left s ≡ w ∷ left t) × Reads (said w) view x × fine (map_source t) × (map_callee t ≡ f)
  one s t x k e h =
      let from = gives (map_source s) (map_source t) (Some h.0) k h.1 in
      let read = reads h.0 x (map_callee t) (subst (λ p. Called g p (h.0, tt) x (map_callee t)) e h.2) in
      (h.0.now, from.0, read.1, from.1, read.0)

  -- What is read goes behind what was read before.
  gathered : (xs : List (Result X ReadError)) (s t u : Map S F) (b v : Vec X Global) → fine (map_source s) → map_callee s ≡ f
      → Yields (map_steps steps g) s xs t → map_steps steps g t None u
      → FoldsTo (λ p x q. (y : X) × (Ok y ≡ x) × extends p (y ∷ []) q) b xs v
      → after (map view (vec_items b)) (all_said said (left s)) ≡ Ok (map view (vec_items v))
  gathered [] s t u b v k e y n h =
      let none : left s ≡ [] = gives (map_source s) (map_source u) None k (subst (λ z. steps (map_source z) None (map_source u)) (sym y) n.0) in
      ap (λ ws. after (map view (vec_items b)) (all_said said ws)) none ∙ ap Ok (append-nil (map view (vec_items b))) ∙ ap (λ c. Ok (map view (vec_items c))) h
  gathered (x ∷ xs) s t u b v k e y n h =
      let here = one s y.0 x k e y.1 in
      let word = here.0 in
      let value = h.1.0 in
      let read : said word ≡ Ok (view value) = subst (λ z. Reads (said word) view z) (sym h.1.1) here.2 in
      let grown : map view (vec_items b) ++ (view value ∷ []) ≡ map view (vec_items h.0) = sym (ap (map view) h.1.2.0 ∙ map_push view (vec_items b) value) in
      ap (λ ws. after (map view (vec_items b)) (all_said said ws)) here.1
      ∙ after_more (map view (vec_items b)) (said word) (view value) (all_said said (left y.0)) read
      ∙ ap (λ l. after l (all_said said (left y.0))) grown
      ∙ gathered xs y.0 t u h.0 v here.3 here.4 y.2 n h.2

  -- The first error is that of the whole.
  broken : (xs : List (Result X ReadError)) (s t : Map S F) (i : ℕ) (e : ReadError) → fine (map_source s) → map_callee s ≡ f
      → Yields (map_steps steps g) s xs t → IsSomeAnd (slice_get xs i) (λ x. Err e ≡ x) → ((k : ℕ) → k < i → IsSomeAnd (slice_get xs k) (λ x. (y : X) × (Ok y ≡ x)))
      → Blames (all_said said (left s)) e
  broken [] s t i e k c y here front = absurd here
  broken (x ∷ xs) s t zero e k c y here front =
      let first = one s y.0 x k c y.1 in
      let blamed : Blames (said first.0) e = subst (λ z. Reads (said first.0) view z) (sym here) first.2 in
      subst (λ ws. Blames (all_said said ws) e) (sym first.1) (fails_first _ _ _ blamed)
  broken (x ∷ xs) s t (suc i) e k c y here front =
      let first = one s y.0 x k c y.1 in
      let value = front 0 (omega arith) in
      let read : said first.0 ≡ Ok (view value.0) = subst (λ z. Reads (said first.0) view z) (sym value.1) first.2 in
      let later = broken xs y.0 t i e first.3 first.4 y.2 here (λ j l. front (suc j) (omega arith)) in
      subst (λ ws. Blames (all_said said ws) e) (sym first.1) (fails_next _ _ _ _ read (before_wrong (view value.0) (all_said said (left y.0)) e later))

  -- So is that at which a run of the whole stopped.
  stopped : (s : Map S F) (e : ReadError) → fine (map_source s) → map_callee s ≡ f
      → SomeRun (map_steps steps g) s (λ p. EndsAtFirstErr p (λ x o. o ≡ x) e) → Blames (all_said said (left s)) e
  unfolding YieldsRun
  stopped s e k c w =
      let run = w.0 in
      let yields = run.gave.0 in
      let at = run.gave.1 in
      let same = w.1 in
      broken run.items s yields.0 w.2.0 e k c (subst (λ z. Yields (map_steps steps g) z run.items yields.0) same yields.1)
      (subst (λ o. IsSomeAnd o (λ x. Err e ≡ x)) (at w.2.0) w.2.2)
      (λ j l. subst (λ o. IsSomeAnd o (λ x. (y : X) × (Ok y ≡ x))) (at j) (w.2.3 j l))

  -- What is collected is what the words say, and an error is that of the first that is at fault.
  pub collected : (s : Map S F) (r : Result (Vec X Global) ReadError) → fine (map_source s) → map_callee s ≡ f
      → IfOk r (TryCollects (map_steps steps g) (λ x o. o ≡ x) collects extends s)
      → IfErr r (λ e. ((full : AllocError) × (e ≡ NoMemory)) ⊎ SomeRun (map_steps steps g) s (λ p. EndsAtFirstErr p (λ x o. o ≡ x) e))
      → Reads (all_said said (rest (map_source s))) (λ v. map view (vec_items v)) r
  collected s (Ok v) k e h w =
      after_none (all_said said (left s)) ∙ ap (λ l. after (map view l) (all_said said (left s))) (sym h.3.0)
      ∙ gathered h.0 s h.2.1.0 h.2.0 h.1 v k e h.2.1.1 h.2.1.2 h.4
  collected s (Err d) k e h (inl w) = inl w.1
  collected s (Err d) k e h (inr w) = stopped s d k e w

-- Items that are seen as themselves are those of the vector.
pub plain : {X : Type 0} (said : Said (List X)) (r : Result (Vec X Global) ReadError) → Reads said (λ v. map (λ x. x) (vec_items v)) r → Reads said vec_items r
plain said (Ok v) h = h ∙ ap Ok (map-id (vec_items v))
plain said (Err e) h = h

-- The words of a text are given one by one.
pub words_given : (s t : Words) (r : Option (Bor (List ℕ))) → Unit {0} → YieldsFirstRef (λ w. words_of w.left.now) s r t → Gives (λ w. words_of w.left.now) (λ _. Unit {0}) s r t
words_given s t None k h = h.0
words_given s t (Some x) k h = (h, tt)

-- The pieces that a split at a test has not given yet.
abbrev pub pieces_left : {P : Type 0} → (ℕ → Bool) → Split P → List (List ℕ)
pieces_left t s = remaining t (split_has_more s) (split_text s)

-- The pieces between commas are given one by one.
pub commas_given : (s t : Split ℕ) (r : Option (Bor (List ℕ))) → split_pattern s ≡ 44 → split_steps FindsChar (λ p q. q ≡ p) s r t → Gives (pieces_left comma) (λ z. split_pattern z ≡ 44) s r t
commas_given s t None k h = ap (λ v. remaining comma v (split_text s)) (sym h.0)
commas_given s t (Some x) k h = (next_number (split_pattern s) k (split_text s) x.now (split_text t) (split_has_more s) (split_has_more t) h.0 h.1.1, h.1.0 ∙ k)

-- So are those between the bytes that part the numbers of a file.
pub gaps_given : (s t : Split (List ℕ)) (r : Option (Bor (List ℕ))) → ((c : ℕ) → char_set_contains (split_pattern s) c ≡ gap c)
    → split_steps FindsAmong (λ p q. (k : ℕ → Bool) → ((c : ℕ) → char_set_contains p c ≡ k c) → (c : ℕ) → char_set_contains q c ≡ k c) s r t
    → Gives (pieces_left gap) (λ z. (c : ℕ) → char_set_contains (split_pattern z) c ≡ gap c) s r t
gaps_given s t None k h = ap (λ v. remaining gap v (split_text s)) (sym h.0)
gaps_given s t (Some x) k h = (next_gap (split_pattern s) k (split_text s) x.now (split_text t) (split_has_more s) (split_has_more t) h.0 h.1.1, h.1.0 gap k)

module _ {S F : Type 0} (steps : S → Option (Bor (List ℕ)) → S → Type 0) (rest : S → List (List ℕ)) (fine : S → Type 0)
    (gives : (s t : S) (r : Option (Bor (List ℕ))) → fine s → steps s r t → Gives rest fine s r t)
    (g : Mut F (Bor (Bor (List ℕ)) × Unit {0}) Bool) (f : F)
    (tests : (x : Bor (List ℕ)) (v : Bool) (q : F) → CalledAt g f x v q → (q ≡ f) × (v ≡ filled x.now)) where
  -- Pieces that are empty are passed over.
  skipped : (xs : List (Bor (List ℕ))) (s t : S) (p q : F) → fine s → p ≡ f → Yields steps s xs t → FoldsTo (λ a x b. CalledAt g a x false b) p xs q
      → fine t × (q ≡ f) × (words_in (rest s) ≡ words_in (rest t))
  skipped [] s t p q k e y h = (subst fine y k, sym h ∙ e, ap (λ z. words_in (rest z)) y)
  skipped (x ∷ xs) s t p q k e y h =
      let from = gives s y.0 (Some x) k y.1 in
      let here = tests x false h.0 (subst (λ a. CalledAt g a x false h.0) e h.1) in
      let later = skipped xs y.0 t h.0 q from.1 here.0 y.2 h.2 in
      (later.0, later.1, ap words_in from.0 ∙ ap (λ v. cond v (x.now ∷ words_in (rest y.0)) (words_in (rest y.0))) (sym here.1) ∙ later.2)

  -- The pieces that are not empty are given one by one.
  pub filled_given : (s t : Filter S F) (r : Option (Bor (List ℕ))) → fine (filter_source s) × (filter_callee s ≡ f) → filter_steps steps g s r t
      → Gives (λ z. words_in (rest (filter_source z))) (λ z. fine (filter_source z) × (filter_callee z ≡ f)) s r t
  filled_given s t None k h =
      let front = skipped h.0 (filter_source s) h.2.0 (filter_callee s) h.1 k.0 k.1 h.2.1 h.3 in
      front.2 ∙ ap words_in (gives h.2.0 (filter_source t) None front.0 h.2.2)
  filled_given s t (Some x) k h =
      let front = skipped h.0 (filter_source s) h.2.0 (filter_callee s) h.1 k.0 k.1 h.2.1 h.3 in
      let from = gives h.2.0 (filter_source t) (Some x) front.0 h.2.2 in
      let here = tests x true (filter_callee t) (subst (λ a. CalledAt g a x true (filter_callee t)) front.1 h.4) in
      (front.2 ∙ ap words_in from.0 ∙ ap (λ v. cond v (x.now ∷ words_in (rest (filter_source t))) (words_in (rest (filter_source t)))) (sym here.1), (from.1, here.0))
