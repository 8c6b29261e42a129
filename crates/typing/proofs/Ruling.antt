-- The rule for each kind of lines, from what was asked and found of it.
use Rattle.std.proofs.Common.{◌≡◌, ℕ, zero, suc, ◌+◌, ◌<◌, ◌≤◌, Bool, true, false, not, ◌&&◌, ◌||◌, eqb, ltb, ◌⊎◌, List, [], ◌∷◌, ◌++◌, length, get_or, take, drop, is_some, Some, None, Ok, Err, Option, Result, sym, refl, ap, ◌∙◌, subst, inl, inr, mul-one, arith}
use Rattle.std.proofs.lemmas.List.{length-take-le}
use Rattle.std.proofs.lemmas.Bool.{both_ways, cases_lt, and_from, and_right, lt-ltb, le-leb, eq-eqb, ne_eqb}
use Rattle.remora.specs.Algebras.{Meaning}
use Rattle.remora.specs.Formulas as theory
use Rattle.remora.specs.Formulas.{Function, primitive, formula, fold, append, reversal, scalars, shaped, cells, result_cell}
use Rattle.remora.specs.Shapes.{size, allowed, principal}
use Rattle.remora.specs.Questions.{Question, type_at, earlier, cells_fit, foldable, first_axis, has_axis, second_cell, same_base, same_shape, frames, first_no, principal_frame, applied, questions_of, operand_questions, function_of, shape_question}
use Rattle.remora.specs.Machine.{Operand, Plan, plan_of, operands_of, frame_operands, number_of, items_of, item_of}
use Rattle.remora.specs.Machine as machine
use Rattle.shapes.specs.declared.ArrayType.{ArrayType}
use Rattle.shapes.specs.Axes.{array_type, dims}
use Rattle.shapes.proofs.Products.{size_allowed}
use Rattle.lines.specs.declared.refusals.Refusal.{Refusal}
use Rattle.lines.specs.declared.fields.Fields.{Fields}
use Rattle.lines.specs.declared.given.Kind.{Kind}
use Rattle.lines.specs.declared.given.Kind.TheVariants.{Literal, Parameter, Frame, Operator, Call, Fold, Append, Reverse}
use Rattle.lines.specs.Lines.{line_with, number_for, kind_for}
use Rattle.lines.proofs.Keeping.{kind_is}
use Rattle.lines.specs.declared.refusals.Refusal.TheVariants.{BadFunction, BadContents}
use Rattle.typing.specs.declared.asked.Asked.{Asked}
use Rattle.typing.specs.declared.found.Context.{Context}
use Rattle.typing.specs.declared.found.Entry.{Entry}
use Rattle.typing.specs.declared.found.Items.{Items}
use Rattle.typing.specs.declared.found.Lift.{Lift}
use Rattle.typing.specs.declared.found.Typed.{Typed}
use Rattle.typing.specs.Typings.{types_of, answer_at, Refused, Judged, operands_asked, shape_asked}
use Rattle.typing.specs.Plans.{AllAllowed, lift_at, planned_operands, FoundAs, RuledAs, Ruled, AskedOf, Applies, Applied, Folded, Appended, small, items_in, entry_of, known_in, usable_in}
use Rattle.typing.proofs.Judging.{all_yes, yes_all, judged_yes, judged_as, refused_no}
use Rattle.typing.proofs.Repeating.{allowed_parts, allowed_back, small_is, planned_lifted}

-- ---- operands and base types

scalars_length : (bs : List ℕ) → length (scalars bs) ≡ length bs
scalars_length [] = refl
scalars_length (b ∷ bs) = ap suc (scalars_length bs)

-- ---- what is known of a formula

pub known_at : (es : List Entry) (g : ℕ) (d : Entry) → g < length es → entry_of (get_or es g d) ≡ known_in es g
known_at [] g d h = absurd (omega arith)
known_at (e ∷ es) zero d h = refl
known_at (e ∷ es) (suc g) d h = known_at es g d (omega arith)

-- ---- the plan of an application

abbrev made : theory.Kind → ℕ → List Operand → ℕ → ℕ → ℕ → theory.ArrayType → ℕ → Plan
made k f os c n a t q = record { kind = k; function = f; operands = os; cells = c; items = n; item = a; type = t; offset = q; codes = [] }

-- a line of the theory by its fields
abbrev pub line_is : ℕ → ℕ → List ℕ → ℕ → List ℕ → List ℕ → theory.Line
line_is k b s o os cs = record { kind = k; base = b; shape = s; function = o; operands = os; codes = cs }

-- the same of equal cells and operands
pub applied_at : (types ws vs : List theory.ArrayType) (us os : List ℕ) (cell d : theory.ArrayType) (x : Items) (line : ℕ) (r : Result Typed Refusal) → ws ≡ vs → us ≡ os → cell ≡ d
    → Applied types ws us cell x line r → Applied types vs os d x line r
applied_at types ws vs us os cell d x line r ws-is us-is cell_is a =
    subst (λ (v : List theory.ArrayType). Applied types v os d x line r) ws-is (subst (λ (v : List ℕ). Applied types ws v d x line r) us-is (subst (λ (v : theory.ArrayType). Applied types ws us v x line r) cell_is a))

-- the first axis as a read
pub first_read : (s : List ℕ) → get_or s 0 0 ≡ first_axis s
first_read [] = refl
first_read (x ∷ s) = refl

pub some_axis : (s : List ℕ) → (length s ≡ 0 → ⊥) → has_axis s ≡ true
some_axis [] h = absurd (h refl)
some_axis (x ∷ s) h = refl

no_axis : (s : List ℕ) → length s ≡ 0 → has_axis s ≡ false
no_axis [] h = refl
no_axis (x ∷ s) h = absurd (omega arith)

-- ---- a first axis beyond 32 bits

first_bound : (x : ℕ) (d : List ℕ) → allowed (x ∷ d) ≡ true → x ≤ 65536
first_bound x d h = let k = size_allowed (x ∷ []) (allowed_parts (x ∷ []) d h).0 in let e = mul-one x in omega arith

not_allowed : (p d : List ℕ) (x : ℕ) → 65536 < x → allowed (p ++ x ∷ d) ≡ false
not_allowed p d x h = go (allowed (p ++ x ∷ d)) refl
  where
    go : (b : Bool) → allowed (p ++ x ∷ d) ≡ b → b ≡ false
    go true e = let k = first_bound x d (allowed_parts p (x ∷ d) e).1 in absurd (omega arith)
    go false e = refl

-- where the first axis of the result's cell is cut off at 32 bits, question 13 is answered by no all the same
pub applied_small : (types ws : List theory.ArrayType) (os d : List ℕ) (b x y : ℕ) (z : Items) (line : ℕ) (r : Result Typed Refusal) → y ≡ small x → Applied types ws os (shaped b (y ∷ d)) z line r → Applied types ws os (shaped b (x ∷ d)) z line r
applied_small types ws os d b x y z line r e a = go (cases_lt 4294967295 x) r a
  where
    go : (4294967295 < x) ⊎ (x ≤ 4294967295) → (r : Result Typed Refusal) → Applied types ws os (shaped b (y ∷ d)) z line r → Applied types ws os (shaped b (x ∷ d)) z line r
    go (inr h) r a = let same : y ≡ x = omega arith in subst (λ (v : ℕ). Applied types ws os (shaped b (v ∷ d)) z line r) same a
    go (inl h) (Ok t) a = absurd (both_ways (allowed (principal (frames types ws os) ++ y ∷ d)) (not_allowed (principal (frames types ws os)) d y (omega arith)) (all_yes (operands_asked types ws os ++ shape_asked (principal (frames types ws os) ++ y ∷ d)) a.0).1.1.1.0)
    go (inl h) (Err f) a =
        ap (λ (v : Bool). answer_at line (first_no (operands_asked types ws os ++ (13, v) ∷ []))) (not_allowed (principal (frames types ws os)) d x (omega arith) ∙ sym (not_allowed (principal (frames types ws os)) d y (omega arith))) ∙ a

-- operands of a frame line from number i on
framed_from : (cell os : List ℕ) (t : Typed) (i : ℕ) → ((j : ℕ) → j < i + length os → ((lift_at t.lifts j).repeats ≡ 1) × ((lift_at t.lifts j).size ≡ size cell)) → planned_operands t i os ≡ frame_operands cell os
framed_from cell [] t i each = refl
framed_from cell (o ∷ os) t i each =
    let here = each i (omega arith) in
    ap (λ (n : ℕ). record { line = o; repeats = n; size = (lift_at t.lifts i).size } ∷ planned_operands t (suc i) os) here.0
    ∙ ap (λ (n : ℕ). record { line = o; repeats = 1; size = n } ∷ planned_operands t (suc i) os) here.1
    ∙ ap (λ (us : List Operand). record { line = o; repeats = 1; size = size cell } ∷ us) (framed_from cell os t (suc i) (λ j h. each j (omega arith)))

four_same : (x : Lift) (j : ℕ) → j < 4 → lift_at (x ∷ x ∷ x ∷ x ∷ []) j ≡ x
four_same x zero h = refl
four_same x (suc zero) h = refl
four_same x (suc (suc zero)) h = refl
four_same x (suc (suc (suc zero))) h = refl
four_same x (suc (suc (suc (suc j)))) h = absurd (omega arith)

module _ (m : Meaning) (n : ℕ) (E : ℕ → theory.Entry) (usable : ℕ → Bool) (ps types : List theory.ArrayType) where
  -- what is to be found of an application
  abbrev pub Applying : Function → List ℕ → Typed → Type 0
  Applying f os t =
      (array_type t.array ≡ theory.type_of (applied m E ps types f os))
      × (AllAllowed types → (q : ℕ) → made (machine.kind_for f) (number_of f) (planned_operands t 0 os) t.cells t.items.number t.items.atoms (array_type t.array) q ≡ plan_of m E types q (applied m E ps types f os))

  module _ (f : Function) (os : List ℕ) (x : Items) (few : length os ≤ 4) (many : length os ≡ length (cells m E f)) (number : x.number ≡ items_of f)
      (atoms : allowed (result_cell m E f).shape ≡ true → x.atoms ≡ item_of f) where
    pub application : (t : Typed) → cells_fit types (cells m E f) os ≡ true → allowed (principal_frame m E ps types f os ++ (result_cell m E f).shape) ≡ true
        → Applies types (cells m E f) os (principal_frame m E ps types f os) (result_cell m E f) x t → Applying f os t
    application t fit h a =
        let p : List ℕ = principal_frame m E ps types f os in
        let parts = allowed_parts p (result_cell m E f).shape h in
        let k : theory.Kind = machine.kind_for f in
        let g : ℕ = number_of f in
        let type : theory.ArrayType = shaped (result_cell m E f).base (p ++ (result_cell m E f).shape) in (
          a.type,
          λ all q.
              ap (λ (us : List Operand). made k g us t.cells t.items.number t.items.atoms (array_type t.array) q) (planned_lifted types (cells m E f) p os t all parts.0 fit (omega arith) few a.lifted)
              ∙ ap (λ (u : ℕ). made k g (operands_of types p (cells m E f) os) u t.items.number t.items.atoms (array_type t.array) q) a.cells
              ∙ ap (λ (u : ℕ). made k g (operands_of types p (cells m E f) os) (size p) u t.items.atoms (array_type t.array) q) (ap (λ (v : Items). v.number) a.items ∙ number)
              ∙ ap (λ (u : ℕ). made k g (operands_of types p (cells m E f) os) (size p) (items_of f) u (array_type t.array) q) (ap (λ (v : Items). v.atoms) a.items ∙ atoms parts.1)
              ∙ ap (λ (u : theory.ArrayType). made k g (operands_of types p (cells m E f) os) (size p) (items_of f) (item_of f) u q) a.type,
        )

    -- the questions from 9 on of an application that is no fold
    pub application_judged : (line : ℕ) (r : Result Typed Refusal) → Applied types (cells m E f) os (result_cell m E f) x line r
        → Judged (operand_questions m n E usable ps types f os ++ shape_asked (principal_frame m E ps types f os ++ (result_cell m E f).shape)) (Applying f os) line r
    application_judged line r a =
        judged_as (Applies types (cells m E f) os (principal_frame m E ps types f os) (result_cell m E f) x) (Applying f os) (operands_asked types (cells m E f) os ++ shape_asked (principal_frame m E ps types f os ++ (result_cell m E f).shape)) line r
        (λ t yes u. application t yes.1.0 yes.1.1.1.0 u) a

  -- ---- the kinds

  pub operator_ruled : (l : theory.Line) (os : List ℕ) (ws : List theory.ArrayType) (cell : theory.ArrayType) (line : ℕ) (r : Result Typed Refusal)
      → ws ≡ scalars (m.operator l.function).operands → os ≡ l.operands → cell ≡ shaped (m.operator l.function).result []
      → length l.operands ≤ 4 → earlier types l.operands ≡ true → l.function < m.operators → length l.operands ≡ length (m.operator l.function).operands
      → Applied types ws os cell (record { number = 0; atoms = 0 }) line r
      → Judged (questions_of m n E usable ps types theory.an_operator l) (FoundAs m E ps types theory.an_operator l) line r
  operator_ruled l os ws cell line r ws-is os-is cell_is few early known count a =
      let f : Function = primitive l.function in
      let x : Items = record { number = 0; atoms = 0 } in
      let o = m.operator l.function in
      let many : length l.operands ≡ length (cells m E f) = count ∙ sym (scalars_length o.operands) in
      let qs : List Question = operand_questions m n E usable ps types f l.operands ++ shape_asked (principal_frame m E ps types f l.operands ++ (result_cell m E f).shape) in
      judged_yes (FoundAs m E ps types theory.an_operator l) 7 (earlier types l.operands && (ltb l.function m.operators && eqb (length l.operands) (length o.operands))) qs line r
      (and_from _ _ early (and_from _ _ (lt-ltb _ _ known) (eq-eqb _ _ count)))
      (judged_as (Applying f l.operands) (FoundAs m E ps types theory.an_operator l) qs line r (λ t yes u. record { type = u.0; plan = u.1 })
      (application_judged f l.operands x few many refl (λ h. refl) line r (applied_at types ws (cells m E f) os l.operands cell (result_cell m E f) x line r ws-is os-is cell_is a)))

  pub call_ruled : (l : theory.Line) (os : List ℕ) (ws : List theory.ArrayType) (cell : theory.ArrayType) (line : ℕ) (r : Result Typed Refusal)
      → ws ≡ (E l.function).parameters → os ≡ l.operands → cell ≡ (E l.function).result
      → length l.operands ≤ 4 → earlier types l.operands ≡ true → (ltb l.function n && usable l.function) ≡ true → length l.operands ≡ length (E l.function).parameters
      → Applied types ws os cell (record { number = 0; atoms = 0 }) line r
      → Judged (questions_of m n E usable ps types theory.a_call l) (FoundAs m E ps types theory.a_call l) line r
  call_ruled l os ws cell line r ws-is os-is cell_is few early known count a =
      let f : Function = formula l.function in
      let x : Items = record { number = 0; atoms = 0 } in
      let qs : List Question = operand_questions m n E usable ps types f l.operands ++ shape_asked (principal_frame m E ps types f l.operands ++ (result_cell m E f).shape) in
      judged_yes (FoundAs m E ps types theory.a_call l) 7 (earlier types l.operands && ((ltb l.function n && usable l.function) && eqb (length l.operands) (length (E l.function).parameters))) qs line r
      (and_from _ _ early (and_from _ _ known (eq-eqb _ _ count)))
      (judged_as (Applying f l.operands) (FoundAs m E ps types theory.a_call l) qs line r (λ t yes u. record { type = u.0; plan = u.1 })
      (application_judged f l.operands x few count refl (λ h. refl) line r (applied_at types ws (cells m E f) os l.operands cell (result_cell m E f) x line r ws-is os-is cell_is a)))

  pub call_refused : (l : theory.Line) (line : ℕ) → (length l.operands ≡ length (E l.function).parameters → ⊥) → Refused (questions_of m n E usable ps types theory.a_call l) line (BadFunction line)
  call_refused l line h =
      let f : Function = formula l.function in
      refused_no 7 (earlier types l.operands && ((ltb l.function n && usable l.function) && eqb (length l.operands) (length (E l.function).parameters)))
      (operand_questions m n E usable ps types f l.operands ++ shape_asked (principal_frame m E ps types f l.operands ++ (result_cell m E f).shape)) line (BadFunction line)
      (and_right (earlier types l.operands) ((ltb l.function n && usable l.function) && eqb (length l.operands) (length (E l.function).parameters))
      (and_right (ltb l.function n && usable l.function) (eqb (length l.operands) (length (E l.function).parameters)) (ne_eqb _ _ h))) refl

  pub reverse_ruled : (k b o : ℕ) (s os cs us : List ℕ) (w : theory.ArrayType) (line : ℕ) (r : Result Typed Refusal)
      → w ≡ shaped (type_at types (get_or os 0 0)).base s → us ≡ os → earlier types os ≡ true → length os ≡ 1 → has_axis s ≡ true
      → Applied types (w ∷ []) us w (items_in s) line r
      → Judged (questions_of m n E usable ps types theory.a_reverse (line_is k b s o os cs)) (FoundAs m E ps types theory.a_reverse (line_is k b s o os cs)) line r
  reverse_ruled k b o [] os cs us w line r w-is us-is early count axis a = absurd (both_ways false refl axis)
  reverse_ruled k b o (i ∷ d) os cs us w line r w-is us-is early count axis a =
      let l : theory.Line = line_is k b (i ∷ d) o os cs in
      let f : Function = reversal (type_at types (get_or os 0 0)).base i d in
      let x : Items = items_in (i ∷ d) in
      let qs : List Question = operand_questions m n E usable ps types f os ++ shape_asked (principal_frame m E ps types f os ++ (result_cell m E f).shape) in
      judged_yes (FoundAs m E ps types theory.a_reverse l) 7 (earlier types os && eqb (length os) 1) ((8, true) ∷ qs) line r (and_from _ _ early (eq-eqb _ _ count))
      (judged_yes (FoundAs m E ps types theory.a_reverse l) 8 true qs line r refl
      (judged_as (Applying f os) (FoundAs m E ps types theory.a_reverse l) qs line r (λ t yes u. record { type = u.0; plan = u.1 })
      (application_judged f os x (omega arith) count refl (λ h. small_is d (allowed_back 1 (i ∷ d) h)) line r
      (applied_at types (w ∷ []) (cells m E f) us os w (result_cell m E f) x line r (ap (λ (u : theory.ArrayType). u ∷ []) w-is) us-is w-is a))))

  pub append_ruled : (k b o j : ℕ) (s os cs us : List ℕ) (w : theory.ArrayType) (line : ℕ) (r : Result Typed Refusal)
      → w ≡ shaped (type_at types (get_or os 0 0)).base s → j ≡ first_axis (second_cell m E ps types (line_is k b s o os cs)) → us ≡ os → earlier types os ≡ true → length os ≡ 2 → has_axis s ≡ true
      → Appended types w j us line r
      → Judged (questions_of m n E usable ps types theory.an_append (line_is k b s o os cs)) (FoundAs m E ps types theory.an_append (line_is k b s o os cs)) line r
  append_ruled k b o j [] os cs us w line r w-is j-is us-is early count axis a = absurd (both_ways false refl axis)
  append_ruled k b o j (i ∷ d) os cs us w line r w-is j-is us-is early count axis a =
      let l : theory.Line = line_is k b (i ∷ d) o os cs in
      let h : ℕ = first_axis (second_cell m E ps types l) in
      let base : ℕ = (type_at types (get_or os 0 0)).base in
      let f : Function = append base i h d in
      let x : Items = items_in (i ∷ d) in
      let qs : List Question = operand_questions m n E usable ps types f os ++ shape_asked (principal_frame m E ps types f os ++ (result_cell m E f).shape) in
      let a' : Appended types (shaped base (i ∷ d)) h os line r =
      subst (λ (v : List ℕ). Appended types (shaped base (i ∷ d)) h v line r) us-is (subst (λ (v : ℕ). Appended types (shaped base (i ∷ d)) v us line r) j-is (subst (λ (v : theory.ArrayType). Appended types v j us line r) w-is a)) in
      judged_yes (FoundAs m E ps types theory.an_append l) 7 (earlier types os && eqb (length os) 2) ((8, true) ∷ qs) line r (and_from _ _ early (eq-eqb _ _ count))
      (judged_yes (FoundAs m E ps types theory.an_append l) 8 true qs line r refl
      (judged_as (Applying f os) (FoundAs m E ps types theory.an_append l) qs line r (λ t yes u. record { type = u.0; plan = u.1 })
      (application_judged f os x (omega arith) count refl (λ e. small_is d (allowed_back 1 ((i + h) ∷ d) e)) line r a')))

  pub fold_ruled : (k b o : ℕ) (s os cs us : List ℕ) (w : theory.ArrayType) (unit : Option ℕ) (line : ℕ) (r : Result Typed Refusal)
      → w ≡ shaped (m.operator o).result s → unit ≡ (m.operator o).unit → us ≡ os → earlier types os ≡ true → o < m.operators → foldable (m.operator o).operands (m.operator o).result ≡ true → length os ≡ 1 → has_axis s ≡ true
      → Folded types w unit us line r
      → Judged (questions_of m n E usable ps types theory.a_fold (line_is k b s o os cs)) (FoundAs m E ps types theory.a_fold (line_is k b s o os cs)) line r
  fold_ruled k b o [] os cs us w unit line r w-is unit-is us-is early known pair count axis a = absurd (both_ways false refl axis)
  fold_ruled k b o (i ∷ d) os cs us w unit line r w-is unit-is us-is early known pair count axis a =
      let l : theory.Line = line_is k b (i ∷ d) o os cs in
      let c = m.operator o in
      let f : Function = fold o c.result i d in
      let x : Items = items_in (i ∷ d) in
      let p : List ℕ = principal_frame m E ps types f os in
      let qs : List Question = operand_questions m n E usable ps types f os ++ (12, not (eqb i 0) || is_some c.unit) ∷ shape_asked (p ++ d) in
      let a' : Folded types (shaped c.result (i ∷ d)) c.unit os line r =
      subst (λ (v : List ℕ). Folded types (shaped c.result (i ∷ d)) c.unit v line r) us-is (subst (λ (v : Option ℕ). Folded types (shaped c.result (i ∷ d)) v us line r) unit-is (subst (λ (v : theory.ArrayType). Folded types v unit us line r) w-is a)) in
      judged_yes (FoundAs m E ps types theory.a_fold l) 7 (earlier types os && ((ltb o m.operators && foldable c.operands c.result) && eqb (length os) 1)) ((8, true) ∷ qs) line r
      (and_from _ _ early (and_from _ _ (and_from _ _ (lt-ltb _ _ known) pair) (eq-eqb _ _ count)))
      (judged_yes (FoundAs m E ps types theory.a_fold l) 8 true qs line r refl
      (judged_as (Applies types (cells m E f) os p (shaped c.result d) x) (FoundAs m E ps types theory.a_fold l) qs line r
      (λ t yes u. let v = application f os x (omega arith) count refl (λ h. small_is d h) t yes.1.0 yes.1.1.1.1.0 u in record { type = v.0; plan = v.1 }) a'))

  -- ---- frame lines

  pub framing_ruled : (l : theory.Line) (array : ArrayType) (count : ℕ) (w : Lift) → earlier types l.operands ≡ true → l.function ≤ length l.shape → length l.operands ≡ size (take l.function l.shape)
      → same_base types l.base l.operands ≡ true → same_shape types (drop l.function l.shape) l.operands ≡ true → allowed l.shape ≡ true → length l.operands ≤ 4
      → array_type array ≡ shaped l.base l.shape → count ≡ length l.operands → w.repeats ≡ 1 → w.size ≡ size (drop l.function l.shape)
      → (first_no (questions_of m n E usable ps types theory.a_frame l) ≡ None)
      × FoundAs m E ps types theory.a_frame l (record { array = array; cells = count; items = record { number = 0; atoms = 0 }; lifts = w ∷ w ∷ w ∷ w ∷ [] })
  framing_ruled l array count w early rank parts bases shapes h few array-is count_is one s_is =
      let os : List ℕ = l.operands in
      let t : Typed = record { array = array; cells = count; items = record { number = 0; atoms = 0 }; lifts = w ∷ w ∷ w ∷ w ∷ [] } in
      let p : List ℕ = take l.function l.shape in
      let rank_is : l.function ≡ length p = sym (length-take-le l.function l.shape rank) in
      let cell_is : w.size ≡ size (drop (length p) l.shape) = s_is ∙ ap (λ (v : ℕ). size (drop v l.shape)) rank_is in
      let operands-are : planned_operands t 0 os ≡ frame_operands (drop (length p) l.shape) os =
      framed_from (drop (length p) l.shape) os t 0 (λ j e. let k = four_same w j (omega arith) in (ap (λ (v : Lift). v.repeats) k ∙ one, ap (λ (v : Lift). v.size) k ∙ cell_is)) in (
        yes_all (questions_of m n E usable ps types theory.a_frame l) (early, (and_from _ _ (le-leb _ _ rank) (eq-eqb _ _ parts), (bases, (shapes, (h, tt))))),
        record {
          type = array-is;
          plan = λ all q.
              ap (λ (v : ℕ). made theory.a_frame v (planned_operands t 0 os) count 0 0 (array_type array) q) rank_is
              ∙ ap (λ (v : List Operand). made theory.a_frame (length p) v count 0 0 (array_type array) q) operands-are
              ∙ ap (λ (v : ℕ). made theory.a_frame (length p) (frame_operands (drop (length p) l.shape) os) v 0 0 (array_type array) q) count_is
              ∙ ap (λ (v : theory.ArrayType). made theory.a_frame (length p) (frame_operands (drop (length p) l.shape) os) (length os) 0 0 v q) array-is;
        },
      )

-- ---- the rule for a line, from that for lines of its kind

-- A rule for the kind of a line is the rule for the line.
pub ruled_at : (m : Meaning) (x : Context) (l : theory.Line) (k : theory.Kind) (line : ℕ) (r : Result Typed Refusal) → theory.kind_of l.kind ≡ k → RuledAs m x k l line r → Ruled m x l line r
ruled_at m x l k line r is = subst (λ (v : theory.Kind). RuledAs m x v l line r) (sym is)

-- The codes of a line that is no literal are not looked at.
pub without_codes : (m : Meaning) (x : Context) (f : Fields) (cs : List ℕ) (line : ℕ) (k : Kind) (r : Result Typed Refusal) → (k ≡ Literal → ⊥) → RuledAs m x (kind_for k) (line_with f []) line r → RuledAs m x (kind_for k) (line_with f cs) line r
without_codes m x f cs line Literal r ne j = absurd (ne refl)
without_codes m x f cs line Parameter (Ok t) ne j = (j.0, record { type = j.1.type; plan = j.1.plan })
without_codes m x f cs line Parameter (Err e) ne j = j
without_codes m x f cs line Frame (Ok t) ne j = (j.0, record { type = j.1.type; plan = j.1.plan })
without_codes m x f cs line Frame (Err e) ne j = j
without_codes m x f cs line Operator (Ok t) ne j = (j.0, record { type = j.1.type; plan = j.1.plan })
without_codes m x f cs line Operator (Err e) ne j = j
without_codes m x f cs line Call (Ok t) ne j = (j.0, record { type = j.1.type; plan = j.1.plan })
without_codes m x f cs line Call (Err e) ne j = j
without_codes m x f cs line Fold (Ok t) ne j = (j.0, record { type = j.1.type; plan = j.1.plan })
without_codes m x f cs line Fold (Err e) ne j = j
without_codes m x f cs line Append (Ok t) ne j = (j.0, record { type = j.1.type; plan = j.1.plan })
without_codes m x f cs line Append (Err e) ne j = j
without_codes m x f cs line Reverse (Ok t) ne j = (j.0, record { type = j.1.type; plan = j.1.plan })
without_codes m x f cs line Reverse (Err e) ne j = j

-- So a rule for a line of a kind that is no literal is the rule for the line with its codes.
pub kind_ruled : (m : Meaning) (x : Context) (f : Fields) (cs : List ℕ) (line : ℕ) (k : Kind) (r : Result Typed Refusal) → (k ≡ Literal → ⊥) → f.kind ≡ k → RuledAs m x (kind_for k) (line_with f []) line r → Ruled m x (line_with f cs) line r
kind_ruled m x f cs line k r ne is j =
    ruled_at m x (line_with f cs) (kind_for k) line r (ap (λ (v : Kind). theory.kind_of (number_for v)) is ∙ kind_is k) (without_codes m x f cs line k r ne j)

-- The same of a line that is asked on.
pub asked_ruled : (m : Meaning) (x : Context) (f : Fields) (cs : List ℕ) (line : ℕ) (a : Asked) (k : Kind) (r : Result Typed Refusal) → (k ≡ Literal → ⊥) → f.kind ≡ k → AskedOf x f line (Some a)
    → RuledAs m a.context.now (kind_for k) (line_with a.fields.now []) a.line r → Ruled m x (line_with f cs) line r
asked_ruled m x f cs line a k r ne is asked j =
    kind_ruled m x f cs line k r ne is
    (subst (λ (v : ℕ). RuledAs m x (kind_for k) (line_with f []) v r) asked.2
    (subst (λ (v : Fields). RuledAs m x (kind_for k) (line_with v []) a.line r) asked.1
    (subst (λ (v : Context). RuledAs m v (kind_for k) (line_with a.fields.now []) a.line r) asked.0 j)))

-- An append of cells without an axis is refused by question 8.
pub append_refused : (m : Meaning) (x : Context) (f : Fields) (cs : List ℕ) (line : ℕ) (a : Asked) → f.kind ≡ Append → AskedOf x f line (Some a) → length (take f.count f.operands) ≡ 2 → length (dims f.shape) ≡ 0
    → Ruled m x (line_with f cs) line (Err (BadContents line))
append_refused m x f cs line a is asked two none =
    let early : earlier (types_of x.types.now) (take f.count f.operands) ≡ true =
    subst (λ (v : Fields). earlier (types_of x.types.now) (take v.count v.operands) ≡ true) asked.1 (subst (λ (v : Context). earlier (types_of v.types.now) (take a.fields.now.count a.fields.now.operands) ≡ true) asked.0 a.earlier) in
    let l : theory.Line = line_with f [] in
    let es = x.formulas.now in
    let ps : List theory.ArrayType = types_of x.parameters.now in
    let ts : List theory.ArrayType = types_of x.types.now in
    let rest : List Question =
    operand_questions m (length es) (known_in es) (usable_in es) ps ts (function_of m (known_in es) ps ts theory.an_append l) l.operands ++ shape_question m (length es) (known_in es) (usable_in es) ps ts theory.an_append l in
    kind_ruled m x f cs line Append (Err (BadContents line)) (λ e. cc) is
    (judged_yes (λ (t : Typed). Unit {0}) 7 (earlier (types_of x.types.now) (take f.count f.operands) && eqb (length (take f.count f.operands)) 2) ((8, has_axis (dims f.shape)) ∷ rest) line (Err (BadContents line)) (and_from _ _ early (eq-eqb _ _ two))
    (refused_no 8 (has_axis (dims f.shape)) rest line (BadContents line) (no_axis (dims f.shape) none) refl))
