-- The questions of enter are all answered by yes exactly when the typing relation gives the line a type, and it is the same type.
use Rattle.std.proofs.Common.{◌≡◌, ℕ, suc, ◌+◌, ◌-◌, Bool, true, false, not, ◌||◌, eqb, ltb, ◌⊎◌, List, [], ◌∷◌, ◌++◌, length, get_or, take, drop, is_some, Some, None, Option, sym, refl, ap, ◌∙◌, subst, inl, inr, arith, length-append, take-append-drop, length-take-le, take_at, drop_at}
use Rattle.std.proofs.lemmas.Bool.{and_parts, and_from, or_cases, eqb-true, ltb-true, leb-true, eq-eqb, ne_eqb, lt-ltb, le-leb, both_ways, not-true, cases_eq}
use Rattle.remora.specs.Shapes.{Shape, size, allowed, same, ends, frame_of, agree, principal, Join}
use Rattle.remora.specs.Algebras.{Meaning}
use Rattle.remora.specs.Formulas.{ArrayType, shaped, no_type, Line, Kind, a_literal, a_parameter, a_frame, an_operator, a_call, a_fold, an_append, a_reverse, no_kind, kind_of, Entry, Function, primitive, formula, fold, append, reversal, scalars, cells, result_cell, TypedLine, literal, parameter, frame, application, type_of}
use Rattle.remora.specs.Typing.{InSet, Alike, no_operand, operand, Operands, no_operands, and_operand, Names, names_operator, names_formula, names_fold, names_append, names_reverse, Types, t_array, t_var, t_frame, t_app, TypesAll, no_lines, and_line}
use Rattle.remora.specs.Questions.{Question, AllYes, or_else, first_no, type_at, earlier, bases_fit, cells_fit, frames, in_set, same_base, same_shape, foldable, first_axis, has_axis, first_base, second_cell, function_of, principal_frame, applied, typed_as, typed, questions_of, questions, Verdict, all_typed, refused_at, before, unless, judge, typed_lines}
use Rattle.remora.proofs.Prefixes.{same_equal, same_self, principal_join, join_principal, ends_split, frame_is, cell_is, ends_append}

-- ---- questions and their first no

pub first_no_none : (qs : List Question) → first_no qs ≡ None → AllYes qs
first_no_none [] e = tt
first_no_none (q ∷ qs) e = go q.1 refl e (first_no_none qs)
  where
    go : (b : Bool) → q.1 ≡ b → or_else b q.0 (first_no qs) ≡ None → (first_no qs ≡ None → AllYes qs) → AllYes (q ∷ qs)
    go true e₁ e ih = (e₁, ih e)
    go false e₁ e ih = let z : ◌≡◌ {A = ℕ} 0 1 = cc in absurd (omega arith)

pub none_first_no : (qs : List Question) → AllYes qs → first_no qs ≡ None
none_first_no [] h = refl
none_first_no (q ∷ qs) h = rw h.0 (none_first_no qs h.1)

-- ---- operands

pub in_set_lem : (holds : ℕ → ℕ → Bool) (b : ℕ) (cs : List ℕ) → in_set holds b cs ≡ true → InSet holds b cs
in_set_lem holds b [] h = tt
in_set_lem holds b (c ∷ cs) h = let u = and_parts (holds b c) (in_set holds b cs) h in (u.0, in_set_lem holds b cs u.1)

pub set_in : (holds : ℕ → ℕ → Bool) (b : ℕ) (cs : List ℕ) → InSet holds b cs → in_set holds b cs ≡ true
set_in holds b [] h = refl
set_in holds b (c ∷ cs) h = and_from _ _ h.0 (set_in holds b cs h.1)

module _ (types : List ArrayType) where
  operands_from : (ws : List ArrayType) (os : List ℕ) → length os ≡ length ws → earlier types os ≡ true → bases_fit types ws os ≡ true → cells_fit types ws os ≡ true
      → Operands types ws os (frames types ws os)
  operands_from [] [] l h b e = no_operands
  operands_from [] (o ∷ os) l h b e = absurd (omega arith)
  operands_from (w ∷ ws) [] l h b e = absurd (omega arith)
  operands_from (w ∷ ws) (o ∷ os) l h b e =
      let h' = and_parts (ltb o (length types)) (earlier types os) h in
      let b' = and_parts (eqb (type_at types o).base w.base) (bases_fit types ws os) b in
      let e' = and_parts (ends w.shape (type_at types o).shape) (cells_fit types ws os) e in
      and_operand (frame_of w.shape (type_at types o).shape) (ltb-true o (length types) h'.0)
      (ap (λ (z : ℕ). shaped z (type_at types o).shape) (eqb-true _ _ b'.0) ∙ ap (λ (z : Shape). shaped w.base z) (ends_split w.shape (type_at types o).shape e'.0))
      (operands_from ws os (omega arith) h'.1 b'.1 e'.1)

  -- what the questions find of operands that are typed
  record Fitting (ws : List ArrayType) (os : List ℕ) (fs : List Shape) : Type 0 where
    count : length os ≡ length ws
    before_here : earlier types os ≡ true
    bases : bases_fit types ws os ≡ true
    ending : cells_fit types ws os ≡ true
    framed : fs ≡ frames types ws os

  operands_to : (ws : List ArrayType) (os : List ℕ) (fs : List Shape) → Operands types ws os fs → Fitting ws os fs
  operands_to ws os fs no_operands = record { count = refl; before_here = refl; bases = refl; ending = refl; framed = refl }
  operands_to ws os fs (and_operand {w = w} {ws = ws'} {o = o} {os = os'} {fs = fs'} f i e t) =
      let ih = operands_to ws' os' fs' t in
      let c = ih.count in
      record {
        count = omega arith;
        before_here = and_from _ _ (lt-ltb o (length types) i) ih.before_here;
        bases = and_from _ _ (eq-eqb _ _ (ap (λ (z : ArrayType). z.base) e)) ih.bases;
        ending = and_from _ _ (ap (λ (z : ArrayType). ends w.shape z.shape) e ∙ ends_append f w.shape) ih.ending;
        framed = ap (λ (z : Shape). z ∷ fs') (sym (ap (λ (z : ArrayType). frame_of w.shape z.shape) e ∙ frame_is f w.shape))
            ∙ ap (λ (z : List Shape). frame_of w.shape (type_at types o).shape ∷ z) ih.framed;
      }

  alike_from : (b : ℕ) (s : Shape) (os : List ℕ) → earlier types os ≡ true → same_base types b os ≡ true → same_shape types s os ≡ true → Alike types (shaped b s) os
  alike_from b s [] h k e = no_operand
  alike_from b s (o ∷ os) h k e =
      let h' = and_parts (ltb o (length types)) (earlier types os) h in
      let k' = and_parts (eqb (type_at types o).base b) (same_base types b os) k in
      let e' = and_parts (same (type_at types o).shape s) (same_shape types s os) e in
      operand (ltb-true o (length types) h'.0)
      (ap (λ (z : ℕ). shaped z (type_at types o).shape) (eqb-true _ _ k'.0) ∙ ap (λ (z : Shape). shaped b z) (same_equal _ _ e'.0))
      (alike_from b s os h'.1 k'.1 e'.1)

  alike_to : (b : ℕ) (s : Shape) (os : List ℕ) → Alike types (shaped b s) os → (earlier types os ≡ true) × (same_base types b os ≡ true) × (same_shape types s os ≡ true)
  alike_to b s os no_operand = (refl, refl, refl)
  alike_to b s os (operand {o = o} {os = os'} i e a) =
      let ih = alike_to b s os' a in (
        and_from _ _ (lt-ltb o (length types) i) ih.0,
        and_from _ _ (eq-eqb _ _ (ap (λ (z : ArrayType). z.base) e)) ih.1,
        and_from _ _ (ap (λ (z : ArrayType). same z.shape s) e ∙ same_self s) ih.2,
      )

length_scalars : (bs : List ℕ) → length (scalars bs) ≡ length bs
length_scalars [] = refl
length_scalars (b ∷ bs) = ap suc (length_scalars bs)

foldable_is : (bs : List ℕ) (r : ℕ) → foldable bs r ≡ true → bs ≡ r ∷ r ∷ []
foldable_is [] r h = absurd (both_ways false refl h)
foldable_is (a ∷ []) r h = absurd (both_ways false refl h)
foldable_is (a ∷ b ∷ []) r h = let u = and_parts (eqb a r) (eqb b r) h in rw (eqb-true a r u.0, eqb-true b r u.1)
foldable_is (a ∷ b ∷ c ∷ bs) r h = absurd (both_ways false refl h)

axis_is : (s : Shape) → has_axis s ≡ true → s ≡ first_axis s ∷ drop 1 s
axis_is [] h = absurd (both_ways false refl h)
axis_is (x ∷ s) h = refl

module _ (m : Meaning) (n : ℕ) (E : ℕ → Entry) (usable : ℕ → Bool) (ps types : List ArrayType) where
  -- ---- yes to all questions gives the type

  app_from : (l : Line) (f : Function) → Names m n usable l f → length l.operands ≡ length (cells m E f) → earlier types l.operands ≡ true
      → bases_fit types (cells m E f) l.operands ≡ true → cells_fit types (cells m E f) l.operands ≡ true → agree (frames types (cells m E f) l.operands) ≡ true
      → allowed (type_of (applied m E ps types f l.operands)).shape ≡ true → Types m n E usable ps types l (applied m E ps types f l.operands)
  app_from l f names c h b e a s = t_app (frames types (cells m E f) l.operands) names refl (operands_from types (cells m E f) l.operands c h b e) (principal_join _ a) refl s

  yes_types : (l : Line) (k : Kind) → kind_of l.kind ≡ k → AllYes (questions_of m n E usable ps types k l) → Types m n E usable ps types l (typed_as m E ps types k l)
  yes_types l a_literal k q = let u = and_parts _ _ q.0 in t_array k refl refl (eqb-true _ _ u.0) (in_set_lem m.holds l.base l.codes u.1) q.1.0
  yes_types l a_parameter k q = t_var k refl (ltb-true _ _ q.0) refl q.1.0
  yes_types l a_frame k q =
      let u = and_parts _ _ q.1.0 in
      t_frame (drop l.function l.shape) k refl refl (sym (take-append-drop l.function l.shape)) (length-take-le l.function l.shape (leb-true _ _ u.0)) (eqb-true _ _ u.1)
      (alike_from types l.base (drop l.function l.shape) l.operands q.0 q.1.1.0 q.1.1.1.0) q.1.1.1.1.0
  yes_types l an_operator k q =
      let u = and_parts _ _ q.0 in
      let v = and_parts _ _ u.1 in
      app_from l (primitive l.function) (names_operator k (ltb-true _ _ v.0)) (eqb-true _ _ v.1 ∙ sym (length_scalars (m.operator l.function).operands)) u.0 q.1.0 q.1.1.0 q.1.1.1.0 q.1.1.1.1.0
  yes_types l a_call k q =
      let u = and_parts _ _ q.0 in
      let v = and_parts _ _ u.1 in
      let w = and_parts _ _ v.0 in
      app_from l (formula l.function) (names_formula k (ltb-true _ _ w.0) w.1) (eqb-true _ _ v.1) u.0 q.1.0 q.1.1.0 q.1.1.1.0 q.1.1.1.1.0
  yes_types l a_fold k q =
      let u = and_parts _ _ q.0 in
      let v = and_parts _ _ u.1 in
      let w = and_parts _ _ v.0 in
      app_from l (function_of m E ps types a_fold l)
      (names_fold (m.operator l.function).result (first_axis l.shape) (drop 1 l.shape) k (ltb-true _ _ w.0) (foldable_is (m.operator l.function).operands (m.operator l.function).result w.1) refl
      (axis_is l.shape q.1.0) (λ z. unit z (or_cases (not (eqb (first_axis l.shape) 0)) (is_some (m.operator l.function).unit) q.1.1.1.1.1.0)))
      (eqb-true _ _ v.1) u.0 q.1.1.0 q.1.1.1.0 q.1.1.1.1.0 q.1.1.1.1.1.1.0
    where
      unit : first_axis l.shape ≡ 0 → (not (eqb (first_axis l.shape) 0) ≡ true) ⊎ (is_some (m.operator l.function).unit ≡ true) → is_some (m.operator l.function).unit ≡ true
      unit z (inl e) = absurd (both_ways (eqb (first_axis l.shape) 0) (not-true (eqb (first_axis l.shape) 0) e) (eq-eqb (first_axis l.shape) 0 z))
      unit z (inr e) = e
  yes_types l an_append k q =
      let u = and_parts _ _ q.0 in
      app_from l (function_of m E ps types an_append l) (names_append _ _ _ (drop 1 l.shape) k (axis_is l.shape q.1.0)) (eqb-true _ _ u.1) u.0 q.1.1.0 q.1.1.1.0 q.1.1.1.1.0 q.1.1.1.1.1.0
  yes_types l a_reverse k q =
      let u = and_parts _ _ q.0 in
      app_from l (function_of m E ps types a_reverse l) (names_reverse _ _ (drop 1 l.shape) k (axis_is l.shape q.1.0)) (eqb-true _ _ u.1) u.0 q.1.1.0 q.1.1.1.0 q.1.1.1.1.0 q.1.1.1.1.1.0
  yes_types l no_kind k q = absurd (both_ways false refl q.0)

  pub questions_type : (l : Line) → AllYes (questions m n E usable ps types l) → Types m n E usable ps types l (typed m E ps types l)
  questions_type l q = yes_types l (kind_of l.kind) refl q

  -- ---- a type gives yes to all questions

  abbrev Answers : Kind → Line → TypedLine → Type 0
  Answers k l r = AllYes (questions_of m n E usable ps types k l) × (r ≡ typed_as m E ps types k l)

  -- what the questions find of a typed application
  record Applies (f : Function) (os : List ℕ) (p : Shape) (t : ArrayType) : Type 0 where
    count : length os ≡ length (cells m E f)
    before_here : earlier types os ≡ true
    bases : bases_fit types (cells m E f) os ≡ true
    ending : cells_fit types (cells m E f) os ≡ true
    agreeing : agree (frames types (cells m E f) os) ≡ true
    shape_allowed : allowed (type_of (applied m E ps types f os)).shape ≡ true
    same_line : application f os p t ≡ applied m E ps types f os

  app_to : (f : Function) (os : List ℕ) (p : Shape) (t : ArrayType) (fs : List Shape) → Operands types (cells m E f) os fs → Join fs p
      → t ≡ shaped (result_cell m E f).base (p ++ (result_cell m E f).shape) → allowed t.shape ≡ true → Applies f os p t
  app_to f os p t fs ok j e s =
      let u = operands_to types (cells m E f) os fs ok in
      let v = join_principal fs p j in
      let w : p ≡ principal_frame m E ps types f os = v.1 ∙ ap principal u.framed in
      let z : t ≡ shaped (result_cell m E f).base (principal_frame m E ps types f os ++ (result_cell m E f).shape) = e ∙ ap (λ (q : Shape). shaped (result_cell m E f).base (q ++ (result_cell m E f).shape)) w in
      record {
        count = u.count;
        before_here = u.before_here;
        bases = u.bases;
        ending = u.ending;
        agreeing = ap agree (sym u.framed) ∙ v.0;
        shape_allowed = ap (λ (q : ArrayType). allowed q.shape) (sym z) ∙ s;
        same_line = ap (λ (q : Shape). application f os q t) w ∙ ap (application f os (principal_frame m E ps types f os)) z;
      }

  app_as : (f g : Function) (os : List ℕ) (p : Shape) (t : ArrayType) → f ≡ g → Applies f os p t → Applies g os p t × (application f os p t ≡ applied m E ps types g os)
  app_as f g os p t e a = let b : Applies g os p t = subst (λ (h : Function). Applies h os p t) e a in (b, ap (λ (h : Function). application h os p t) e ∙ b.same_line)

  foldable_from : (bs : List ℕ) (b r : ℕ) → bs ≡ b ∷ b ∷ [] → r ≡ b → foldable bs r ≡ true
  foldable_from bs b r e u = rw (e, u) (and_from _ _ (eq-eqb b b refl) (eq-eqb b b refl))

  unit_from : (k : ℕ) (u : Bool) → (k ≡ 0 → u ≡ true) → (not (eqb k 0) || u) ≡ true
  unit_from k u h = go (cases_eq k 0)
    where
      go : (k ≡ 0) ⊎ (k ≡ 0 → ⊥) → (not (eqb k 0) || u) ≡ true
      go (inl e) = rw (eq-eqb k 0 e) (h e)
      go (inr e) = rw (ne_eqb k 0 e)

  -- the base type and the second cell of a typed append, as the questions find them
  append_parts : (l : Line) (b j k : ℕ) (d : Shape) (os : List ℕ) (fs : List Shape) → os ≡ l.operands → l.shape ≡ j ∷ d → Operands types (shaped b (j ∷ d) ∷ shaped b (k ∷ d) ∷ []) os fs
      → append b j k d ≡ function_of m E ps types an_append l
  append_parts l b j k d os fs e s (and_operand {o = o₁} f₁ i₁ e₁ (and_operand {o = o₂} f₂ i₂ e₂ no_operands)) =
      let first : first_base m E ps types l ≡ b = ap (λ (q : List ℕ). (type_at types (get_or q 0 0)).base) (sym e) ∙ ap (λ (q : ArrayType). q.base) e₁ in
      let second : (type_at types (get_or l.operands 1 0)).shape ≡ f₂ ++ k ∷ d = ap (λ (q : List ℕ). (type_at types (get_or q 1 0)).shape) (sym e) ∙ ap (λ (q : ArrayType). q.shape) e₂ in
      let same_length : length l.shape ≡ length (k ∷ d) = ap length s in
      let cell : second_cell m E ps types l ≡ k ∷ d =
      ap (λ (q : Shape). drop (length q - length l.shape) q) second ∙ ap (λ (i : ℕ). drop (length (f₂ ++ k ∷ d) - i) (f₂ ++ k ∷ d)) same_length ∙ cell_is f₂ (k ∷ d) in
      sym (rw (first, cell, s))

  reverse_parts : (l : Line) (b k : ℕ) (d : Shape) (os : List ℕ) (fs : List Shape) → os ≡ l.operands → l.shape ≡ k ∷ d → Operands types (shaped b (k ∷ d) ∷ []) os fs
      → reversal b k d ≡ function_of m E ps types a_reverse l
  reverse_parts l b k d os fs e s (and_operand {o = o₁} f₁ i₁ e₁ no_operands) =
      let first : first_base m E ps types l ≡ b = ap (λ (q : List ℕ). (type_at types (get_or q 0 0)).base) (sym e) ∙ ap (λ (q : ArrayType). q.base) e₁ in
      sym (rw (first, s))

  app_answers : (l : Line) (f : Function) (os : List ℕ) (p : Shape) (t : ArrayType) (fs : List Shape) → Names m n usable l f → os ≡ l.operands → Operands types (cells m E f) os fs → Applies f os p t
      → Answers (kind_of l.kind) l (application f os p t)
  app_answers l f os p t fs (names_operator k i) e ok a =
      let a' : Applies f l.operands p t = subst (λ (q : List ℕ). Applies f q p t) e a in
      subst (λ (z : Kind). Answers z l (application f os p t)) (sym k) (
        (and_from _ _ a'.before_here (and_from _ _ (lt-ltb _ _ i) (eq-eqb _ _ (a'.count ∙ length_scalars (m.operator l.function).operands))), (a'.bases, (a'.ending, (a'.agreeing, (a'.shape_allowed, tt))))),
        ap (λ (q : List ℕ). application f q p t) e ∙ a'.same_line,
      )
  app_answers l f os p t fs (names_formula k i v) e ok a =
      let a' : Applies f l.operands p t = subst (λ (q : List ℕ). Applies f q p t) e a in
      subst (λ (z : Kind). Answers z l (application f os p t)) (sym k) (
        (and_from _ _ a'.before_here (and_from _ _ (and_from _ _ (lt-ltb _ _ i) v) (eq-eqb _ _ a'.count)), (a'.bases, (a'.ending, (a'.agreeing, (a'.shape_allowed, tt))))),
        ap (λ (q : List ℕ). application f q p t) e ∙ a'.same_line,
      )
  app_answers l f os p t fs (names_fold b j d k i w r s u) e ok a =
      let g : Function = function_of m E ps types a_fold l in
      let same-function : fold l.function b j d ≡ g = sym (rw (r, s)) in
      let a' : Applies f l.operands p t = subst (λ (q : List ℕ). Applies f q p t) e a in
      let c = app_as f g l.operands p t same-function a' in
      let axis : first_axis l.shape ≡ j = ap first_axis s in
      subst (λ (z : Kind). Answers z l (application f os p t)) (sym k) (
        (
          and_from _ _ a'.before_here (and_from _ _ (and_from _ _ (lt-ltb _ _ i) (foldable_from _ b _ w r)) (eq-eqb _ _ a'.count)),
          (ap has_axis s, (c.0.bases, (c.0.ending, (c.0.agreeing, (unit_from (first_axis l.shape) (is_some (m.operator l.function).unit) (λ z. u (sym axis ∙ z)), (c.0.shape_allowed, tt)))))),
        ),
        ap (λ (q : List ℕ). application f q p t) e ∙ c.1,
      )
  app_answers l f os p t fs (names_append b j k' d k s) e ok a =
      let g : Function = function_of m E ps types an_append l in
      let a' : Applies f l.operands p t = subst (λ (q : List ℕ). Applies f q p t) e a in
      let c = app_as f g l.operands p t (append_parts l b j k' d os fs e s ok) a' in
      subst (λ (z : Kind). Answers z l (application f os p t)) (sym k) (
        (and_from _ _ a'.before_here (eq-eqb _ _ a'.count), (ap has_axis s, (c.0.bases, (c.0.ending, (c.0.agreeing, (c.0.shape_allowed, tt)))))),
        ap (λ (q : List ℕ). application f q p t) e ∙ c.1,
      )
  app_answers l f os p t fs (names_reverse b k' d k s) e ok a =
      let g : Function = function_of m E ps types a_reverse l in
      let a' : Applies f l.operands p t = subst (λ (q : List ℕ). Applies f q p t) e a in
      let c = app_as f g l.operands p t (reverse_parts l b k' d os fs e s ok) a' in
      subst (λ (z : Kind). Answers z l (application f os p t)) (sym k) (
        (and_from _ _ a'.before_here (eq-eqb _ _ a'.count), (ap has_axis s, (c.0.bases, (c.0.ending, (c.0.agreeing, (c.0.shape_allowed, tt)))))),
        ap (λ (q : List ℕ). application f q p t) e ∙ c.1,
      )

  pub type_questions : (l : Line) (r : TypedLine) → Types m n E usable ps types l r → AllYes (questions m n E usable ps types l) × (r ≡ typed m E ps types l)
  type_questions l (literal t cs) (t_array k e u c i s) =
      subst (λ (z : Kind). Answers z l (literal t cs)) (sym k) (
        (
          and_from _ _ (eq-eqb _ _ (ap length (sym u) ∙ c ∙ ap (λ (q : ArrayType). size q.shape) e))
              (ap (λ (q : ArrayType). in_set m.holds q.base l.codes) (sym e) ∙ ap (in_set m.holds t.base) (sym u) ∙ set_in m.holds t.base cs i),
          (ap (λ (q : ArrayType). allowed q.shape) (sym e) ∙ s, tt),
        ),
        ap (λ (q : ArrayType). literal q cs) e ∙ ap (literal (shaped l.base l.shape)) u,
      )
  type_questions l (parameter j t) (t_var k e i u s) =
      let v : get_or ps l.function no_type ≡ t = ap (λ (q : ℕ). get_or ps q no_type) (sym e) ∙ u in
      subst (λ (z : Kind). Answers z l (parameter j t)) (sym k) (
        (lt-ltb _ _ (let e' = e in omega arith), (ap (λ (q : ArrayType). allowed q.shape) v ∙ s, tt)),
        ap (λ (q : ℕ). parameter q t) e ∙ ap (parameter l.function) (sym v),
      )
  type_questions l (frame os p t) (t_frame cell k e u w c i a s) =
      let shape_is : l.shape ≡ p ++ cell = ap (λ (q : ArrayType). q.shape) (sym u) ∙ w in
      let front : take l.function l.shape ≡ p = ap (λ (q : Shape). take l.function q) shape_is ∙ take_at p cell l.function c in
      let back : drop l.function l.shape ≡ cell = ap (λ (q : Shape). drop l.function q) shape_is ∙ drop_at p cell l.function c in
      let long : length l.shape ≡ length p + length cell = ap length shape_is ∙ length-append p cell in
      let base-is : t.base ≡ l.base = ap (λ (q : ArrayType). q.base) u in
      let v = alike_to types l.base cell l.operands (subst (Alike types (shaped l.base cell)) e (subst (λ (b : ℕ). Alike types (shaped b cell) os) base-is a)) in
      subst (λ (z : Kind). Answers z l (frame os p t)) (sym k) (
        (v.0, (and_from _ _ (le-leb _ _ (omega arith)) (eq-eqb _ _ (ap length (sym e) ∙ i ∙ ap size (sym front))), (v.1, (ap (λ (q : Shape). same_shape types q l.operands) back ∙ v.2, (ap (λ (q : ArrayType). allowed q.shape) (sym u) ∙ s, tt))))),
        ap (λ (q : List ℕ). frame q p t) e ∙ ap (λ (q : Shape). frame l.operands q t) (sym front) ∙ ap (frame l.operands (take l.function l.shape)) u,
      )
  type_questions l (application f os p t) (t_app fs names e ok j u s) = app_answers l f os p t fs names e ok (app_to f os p t fs ok j u s)

-- ---- all lines of a draft

module _ (m : Meaning) (n : ℕ) (E : ℕ → Entry) (usable : ℕ → Bool) (ps : List ArrayType) where
  -- a draft that is judged typed is typed
  pub judge_types : (types : List ArrayType) (ls : List Line) (rs : List TypedLine) → judge m n E usable ps types ls ≡ all_typed rs → TypesAll m n E usable ps types ls rs
  judge_types types [] rs e = let q : [] ≡ rs = cc in subst (TypesAll m n E usable ps types []) q no_lines
  judge_types types (l ∷ ls) rs e = go (first_no (questions m n E usable ps types l)) refl e (judge_types (types ++ type_of (typed m E ps types l) ∷ []) ls)
    where
      r : TypedLine
      r = typed m E ps types l

      J : Verdict
      J = judge m n E usable ps (types ++ type_of (typed m E ps types l) ∷ []) ls

      tail : (v : Verdict) → J ≡ v → before r v ≡ all_typed rs → first_no (questions m n E usable ps types l) ≡ None
          → ((rs' : List TypedLine) → J ≡ all_typed rs' → TypesAll m n E usable ps (types ++ type_of r ∷ []) ls rs') → TypesAll m n E usable ps types (l ∷ ls) rs
      tail (all_typed rs') j e q ih = let z : r ∷ rs' ≡ rs = cc in subst (TypesAll m n E usable ps types (l ∷ ls)) z (and_line (questions_type m n E usable ps types l (first_no_none _ q)) (ih rs' j))
      tail (refused_at a b) j e q ih = let z : ◌≡◌ {A = ℕ} 0 1 = cc in absurd (omega arith)

      go : (o : Option ℕ) → first_no (questions m n E usable ps types l) ≡ o → unless o (length types) r J ≡ all_typed rs
          → ((rs' : List TypedLine) → J ≡ all_typed rs' → TypesAll m n E usable ps (types ++ type_of r ∷ []) ls rs') → TypesAll m n E usable ps types (l ∷ ls) rs
      go None q e ih = tail J refl e q ih
      go (Some a) q e ih = let z : ◌≡◌ {A = ℕ} 0 1 = cc in absurd (omega arith)

  -- a draft that is typed is judged so, and its typed lines are those that its lines become
  pub types_judge : (types : List ArrayType) (ls : List Line) (rs : List TypedLine) → TypesAll m n E usable ps types ls rs → (judge m n E usable ps types ls ≡ all_typed rs) × (rs ≡ typed_lines m E ps types ls)
  types_judge types ls rs no_lines = (refl, refl)
  types_judge types ls rs (and_line {l = l} {ls = ls'} {r = r} {rs = rs'} t ts) =
      let u = type_questions m n E usable ps types l r t in
      let ih = types_judge (types ++ type_of r ∷ []) ls' rs' ts in
      let e : typed m E ps types l ≡ r = sym u.1 in (
        ap (λ (o : Option ℕ). unless o (length types) (typed m E ps types l) (judge m n E usable ps (types ++ type_of (typed m E ps types l) ∷ []) ls')) (none_first_no _ u.0)
            ∙ ap (λ (x : TypedLine). before x (judge m n E usable ps (types ++ type_of x ∷ []) ls')) e
            ∙ ap (before r) ih.0,
        ap (λ (xs : List TypedLine). r ∷ xs) ih.1 ∙ ap (λ (x : TypedLine). x ∷ typed_lines m E ps (types ++ type_of x ∷ []) ls') u.1,
      )
