-- The check of a draft, one line at a time.
use Rattle.std.proofs.Common.{◌≡◌, ℕ, zero, suc, ◌+◌, ◌*◌, ◌^◌, ◌<◌, ◌≤◌, min, max, Bool, true, false, ◌⊎◌, List, [], ◌∷◌, ◌++◌, map, length, get_or, take, drop, set, Some, None, Ok, Err, Option, sym, refl, ap, ◌∙◌, subst, inl, inr, append_assoc, append-nil, add_assoc, zero-add, arith, length-take-le}
use Rattle.std.proofs.lemmas.List.{take_more_set, map-append, drop_more, drop_all, map-set, set-get_or, get_or-map, length-map, take_all}
use Rattle.std.proofs.lemmas.Bool.{cases_Bool}
use Rattle.remora.specs.Shapes.{size, allowed}
use Rattle.remora.specs.Algebras.{Meaning}
use Rattle.remora.specs.Formulas as theory
use Rattle.remora.specs.Questions.{Question, first_no, or_else, questions, questions_of, typed, typed_as, Verdict, all_typed, refused_at, before, unless}
use Rattle.remora.specs.Forecasts.{atoms, line_steps, lines_steps, callee_room, room_from, line_depth, deepest, if_any}
use Rattle.remora.specs.Machine.{Plan, plan_of, plans}
use Rattle.remora.specs.Calls.{refused}
use Rattle.lines.specs.declared.given.Kind.{Kind}
use Rattle.lines.specs.declared.given.Kind.TheVariants.{Literal, Parameter, Frame, Operator, Call, Fold, Append, Reverse}
use Rattle.lines.specs.Lines.{number_for}
use Rattle.lines.specs.declared.refusals.Refusal.{Refusal}
use Rattle.lines.specs.Refusals.{answer_of}
use Rattle.shapes.specs.declared.ArrayType.{ArrayType}
use Rattle.shapes.specs.Axes.{array_type, dims}
use Rattle.shapes.proofs.Products.{size_allowed}
use Rattle.typing.specs.declared.found.Entry.{Entry}
use Rattle.typing.specs.declared.found.Typed.{Typed}
use Rattle.typing.specs.Typings.{types_of, answer_at, Refused}
use Rattle.typing.specs.Plans.{entry_of, known_in, usable_in, planned, planned_as, AllAllowed, Found}
use Rattle.checker.specs.declared.rows.Given.{Given}
use Rattle.checker.specs.declared.rows.Row.{Row}
use Rattle.checker.specs.declared.forecasts.Share.{Share}
use Rattle.checker.specs.declared.forecasts.Forecast.{Forecast}
use Rattle.checker.specs.Views.{line_in, lines_in, plans_in}
use Rattle.checker.specs.Forecasting.{share_for, share_of, added, no_forecast}
use Rattle.checker.specs.Checking.{givens, RowTyped, verdict, before_all, atoms_in, Progress, Checked, RefusedBy, CheckedAs}
use Rattle.checker.proofs.Viewing.{lines_length}

-- ---- the verdict

-- typed lines before a verdict, and one more
before_push : (rs : List theory.TypedLine) (r : theory.TypedLine) (v : Verdict) → before_all (rs ++ r ∷ []) v ≡ before_all rs (before r v)
before_push [] r v = refl
before_push (x ∷ rs) r v = ap (before x) (before_push rs r v)

-- typed lines before a refusal, and before no more lines
before_refused : (rs : List theory.TypedLine) (q k : ℕ) → before_all rs (refused_at q k) ≡ refused_at q k
before_refused [] q k = refl
before_refused (r ∷ rs) q k = ap (before r) (before_refused rs q k)

before_typed : (rs : List theory.TypedLine) → before_all rs (all_typed []) ≡ all_typed rs
before_typed [] = refl
before_typed (r ∷ rs) = ap (before r) (before_typed rs)

-- the types of typed lines and of one more
types_push : (rs : List theory.TypedLine) (r : theory.TypedLine) → theory.types_of (rs ++ r ∷ []) ≡ theory.types_of rs ++ theory.type_of r ∷ []
types_push [] r = refl
types_push (x ∷ rs) r = ap (λ (ts : List theory.ArrayType). theory.type_of x ∷ ts) (types_push rs r)

-- ---- plans and forecasts with one more line

plans_push : (m : Meaning) (E : ℕ → theory.Entry) (types : List theory.ArrayType) (q : ℕ) (rs : List theory.TypedLine) (r : theory.TypedLine)
    → plans m E types q (rs ++ r ∷ []) ≡ plans m E types q rs ++ plan_of m E (types ++ theory.types_of rs) (q + atoms_in rs) r ∷ []
plans_push m E types q [] r = λ i. plan_of m E (sym (append-nil types) i) (omega_zero i) r ∷ []
  where
    omega_zero : q ≡ q + 0
    omega_zero = omega arith
plans_push m E types q (x ∷ rs) r =
    ap (λ (ps : List Plan). plan_of m E types q x ∷ ps)
    (plans_push m E (types ++ theory.type_of x ∷ []) (q + atoms x) rs r
    ∙ (λ i. plans m E (types ++ theory.type_of x ∷ []) (q + atoms x) rs ++ plan_of m E (append_assoc types (theory.type_of x ∷ []) (theory.types_of rs) i) (add_assoc q (atoms x) (atoms_in rs) i) r ∷ []))

steps_push : (E : ℕ → theory.Entry) (rs : List theory.TypedLine) (r : theory.TypedLine) → lines_steps E (rs ++ r ∷ []) ≡ lines_steps E rs + line_steps E r
steps_push E [] r = omega arith
steps_push E (x ∷ rs) r = omega (arith, steps_push E rs r)

atoms_push : (rs : List theory.TypedLine) (r : theory.TypedLine) → atoms_in (rs ++ r ∷ []) ≡ atoms_in rs + atoms r
atoms_push [] r = omega arith
atoms_push (x ∷ rs) r = omega (arith, atoms_push rs r)

depth_push : (E : ℕ → theory.Entry) (rs : List theory.TypedLine) (r : theory.TypedLine) → deepest E (rs ++ r ∷ []) ≡ max (deepest E rs) (line_depth E r)
depth_push E [] r = omega arith
depth_push E (x ∷ rs) r = omega (arith, depth_push E rs r)

-- the room up to a line and behind it, and of the lines after it
room_push : (E : ℕ → theory.Entry) (rs : List theory.TypedLine) (r : theory.TypedLine) (most place : ℕ)
    → ((rest : List theory.TypedLine) → room_from E 0 (rs ++ rest) ≡ max most (room_from E place rest))
    → (rest : List theory.TypedLine) → room_from E 0 ((rs ++ r ∷ []) ++ rest) ≡ max (max most (place + atoms r + callee_room E r)) (room_from E (place + atoms r) rest)
room_push E rs r most place h rest = ap (room_from E 0) (append_assoc rs (r ∷ []) rest) ∙ h (r ∷ rest) ∙ omega arith

-- ---- what a line adds

-- what a line with this plan adds
abbrev plan_share : (ℕ → theory.Entry) → theory.Kind → Plan → Share
plan_share E theory.a_literal x = record { steps = 1; atoms = size x.type.shape; behind = 0; depth = 0 }
plan_share E theory.a_parameter x = record { steps = 1; atoms = 0; behind = 0; depth = 0 }
plan_share E theory.a_frame x = record { steps = 1; atoms = size x.type.shape; behind = 0; depth = 0 }
plan_share E theory.an_operator x = record { steps = 1; atoms = size x.type.shape; behind = 0; depth = 0 }
plan_share E theory.a_call x = record { steps = 1 + x.cells * (1 + (E x.function).steps); atoms = size x.type.shape; behind = if_any x.cells (E x.function).room; depth = (E x.function).depth }
plan_share E theory.a_fold x = record { steps = 1; atoms = size x.type.shape; behind = 0; depth = 0 }
plan_share E theory.an_append x = record { steps = 1; atoms = size x.type.shape; behind = 0; depth = 0 }
plan_share E theory.a_reverse x = record { steps = 1; atoms = size x.type.shape; behind = 0; depth = 0 }
plan_share E theory.no_kind x = record { steps = 1; atoms = size x.type.shape; behind = 0; depth = 0 }

-- what a typed line adds
abbrev line_share : (ℕ → theory.Entry) → theory.TypedLine → Share
line_share E r = record { steps = line_steps E r; atoms = atoms r; behind = callee_room E r; depth = line_depth E r }

-- a typed line adds what its plan says
share_planned : (m : Meaning) (E : ℕ → theory.Entry) (types : List theory.ArrayType) (q : ℕ) (r : theory.TypedLine) → line_share E r ≡ plan_share E (plan_of m E types q r).kind (plan_of m E types q r)
share_planned m E types q (theory.literal t cs) = refl
share_planned m E types q (theory.parameter k t) = refl
share_planned m E types q (theory.frame os p t) = refl
share_planned m E types q (theory.application (theory.primitive o) os p t) = refl
share_planned m E types q (theory.application (theory.formula g) os p t) = refl
share_planned m E types q (theory.application (theory.fold o b n d) os p t) = refl
share_planned m E types q (theory.application (theory.append b k n d) os p t) = refl
share_planned m E types q (theory.application (theory.reversal b n d) os p t) = refl

-- what is found of a line adds what the plan says
share_found : (E : ℕ → theory.Entry) (cs : List ℕ) (g : Given) (t : Typed) (q : ℕ) (e : Entry) (n : ℕ) → entry_of e ≡ E g.fields.function → n ≡ size (dims t.array.shape)
    → plan_share E (planned (line_in cs g) t q).kind (planned (line_in cs g) t q) ≡ share_for g.fields.kind n t.cells e
share_found E cs g t q e n known size_is = go g.fields.kind
  where
    plain : ◌≡◌ {A = Share} (record { steps = 1; atoms = size (dims t.array.shape); behind = 0; depth = 0 }) (record { steps = 1; atoms = n; behind = 0; depth = 0 })
    plain = λ i. record { steps = 1; atoms = sym size_is i; behind = 0; depth = 0 }

    go : (k : Kind) → plan_share E (theory.kind_of (number_for k)) (planned_as (theory.kind_of (number_for k)) (line_in cs g) t q) ≡ share_for k n t.cells e
    go Literal = plain
    go Parameter = refl
    go Frame = plain
    go Operator = plain
    go Call = λ i. record { steps = 1 + t.cells * (1 + (sym known i).steps); atoms = sym size_is i; behind = if_any t.cells (sym known i).room; depth = (sym known i).depth }
    go Fold = plain
    go Append = plain
    go Reverse = plain

-- ---- the last question

-- the answer to the last of some questions
abbrev last_answer : List Question → Bool
last_answer [] = true
last_answer (q ∷ []) = q.1
last_answer (q ∷ r ∷ qs) = last_answer (r ∷ qs)

-- without a no the first answer is yes, and there is none behind it
first_yes : (q : Question) (qs : List Question) → first_no (q ∷ qs) ≡ None → (q.1 ≡ true) × (first_no qs ≡ None)
first_yes q qs h = go (cases_Bool q.1)
  where
    go : (q.1 ≡ true) ⊎ (q.1 ≡ false) → (q.1 ≡ true) × (first_no qs ≡ None)
    go (inl e) = (e, sym (ap (λ (b : Bool). or_else b q.0 (first_no qs)) e) ∙ h)
    go (inr e) = let z : Some q.0 ≡ None = sym (ap (λ (b : Bool). or_else b q.0 (first_no qs)) e) ∙ h in let w : ◌≡◌ {A = ℕ} 0 1 = cc in absurd (omega arith)

-- and so the last answer is yes
last_yes : (qs : List Question) → first_no qs ≡ None → last_answer qs ≡ true
last_yes [] h = refl
last_yes (q ∷ []) h = (first_yes q [] h).0
last_yes (q ∷ r ∷ qs) h = last_yes (r ∷ qs) (first_yes q (r ∷ qs) h).1

-- a line all of whose questions are answered by yes has an allowed shape
questions_allowed : (m : Meaning) (n : ℕ) (E : ℕ → theory.Entry) (usable : ℕ → Bool) (ps types : List theory.ArrayType) (l : theory.Line)
    → first_no (questions m n E usable ps types l) ≡ None → allowed (theory.type_of (typed m E ps types l)).shape ≡ true
questions_allowed m n E usable ps types l = go (theory.kind_of l.kind)
  where
    go : (k : theory.Kind) → first_no (questions_of m n E usable ps types k l) ≡ None → allowed (theory.type_of (typed_as m E ps types k l)).shape ≡ true
    go theory.a_literal h = last_yes (questions_of m n E usable ps types theory.a_literal l) h
    go theory.a_parameter h = last_yes (questions_of m n E usable ps types theory.a_parameter l) h
    go theory.a_frame h = last_yes (questions_of m n E usable ps types theory.a_frame l) h
    go theory.an_operator h = last_yes (questions_of m n E usable ps types theory.an_operator l) h
    go theory.a_call h = last_yes (questions_of m n E usable ps types theory.a_call l) h
    go theory.a_fold h = last_yes (questions_of m n E usable ps types theory.a_fold l) h
    go theory.an_append h = last_yes (questions_of m n E usable ps types theory.an_append l) h
    go theory.a_reverse h = last_yes (questions_of m n E usable ps types theory.a_reverse l) h
    go theory.no_kind h = let z : ◌≡◌ {A = Option ℕ} (Some 7) None = h in let w : ◌≡◌ {A = ℕ} 0 1 = cc in absurd (omega arith)

-- the atoms of a line with an allowed shape
atoms_small : (m : Meaning) (E : ℕ → theory.Entry) (ps types : List theory.ArrayType) (l : theory.Line) → allowed (theory.type_of (typed m E ps types l)).shape ≡ true → atoms (typed m E ps types l) ≤ 65536
atoms_small m E ps types l = go (typed m E ps types l)
  where
    go : (r : theory.TypedLine) → allowed (theory.type_of r).shape ≡ true → atoms r ≤ 65536
    go (theory.literal t cs) h = size_allowed t.shape h
    go (theory.parameter k t) h = omega arith
    go (theory.frame os p t) h = size_allowed t.shape h
    go (theory.application f os p t) h = size_allowed t.shape h

-- allowed types with one more
allowed_push : (ts : List theory.ArrayType) (t : theory.ArrayType) → AllAllowed ts → allowed t.shape ≡ true → AllAllowed (ts ++ t ∷ [])
allowed_push [] t a h = (h, tt)
allowed_push (x ∷ ts) t a h = (a.0, allowed_push ts t a.1 h)

-- ---- one line at a time

-- lines from number k on
lines_drop : (cs : List ℕ) (k : ℕ) (rs : List Row) → drop k (lines_in cs rs) ≡ lines_in cs (drop k rs)
lines_drop cs zero rs = refl
lines_drop cs (suc k) [] = refl
lines_drop cs (suc k) (r ∷ rs) = lines_drop cs k rs

-- plans one behind the other
plans_append : (cs : List ℕ) (rs ss : List Row) → plans_in cs (rs ++ ss) ≡ plans_in cs rs ++ plans_in cs ss
plans_append cs [] ss = refl
plans_append cs (r ∷ rs) ss = ap (λ (ps : List Plan). planned (line_in cs r.given) r.found r.offset ∷ ps) (plans_append cs rs ss)

-- as many lines as were handed over
pub givens_length : (rs ss : List Row) → givens rs ≡ givens ss → length rs ≡ length ss
givens_length rs ss e = sym (length-map rs (λ (r : Row). r.given)) ∙ ap length e ∙ length-map ss (λ (r : Row). r.given)

-- what was handed over of line k
givens_at : (rs ss : List Row) (k : ℕ) (d : Row) → givens rs ≡ givens ss → k < length ss → (get_or rs k d).given ≡ (get_or ss k d).given
givens_at rs ss k d e h =
    let long = givens_length rs ss e in
    sym (get_or-map (λ (r : Row). r.given) rs k d d.given (omega arith)) ∙ ap (λ (gs : List Given). get_or gs k d.given) e ∙ get_or-map (λ (r : Row). r.given) ss k d d.given h

-- a line changed in what was found of it alone
givens_set : (rs : List Row) (k : ℕ) (s d : Row) → s.given ≡ (get_or rs k d).given → k < length rs → givens (set rs k s) ≡ givens rs
givens_set rs k s d e h =
    map-set (λ (r : Row). r.given) rs k s
    ∙ ap (set (givens rs) k) (e ∙ sym (get_or-map (λ (r : Row). r.given) rs k d d.given h))
    ∙ set-get_or (givens rs) k d.given

module _ (m : Meaning) (es : List Entry) (ps : List theory.ArrayType) (cs : List ℕ) (first : List Row) where
  -- before the first line
  progress_none : (types : List ArrayType) → Progress m es ps cs first 0 types first no_forecast
  progress_none types = record {
    done = [];
    judged = refl;
    types_are = refl;
    small = tt;
    given = refl;
    planned = refl;
    steps = refl;
    place = refl;
    most = λ rest. omega arith;
    depth = refl;
    few_steps = omega arith;
    few_atoms = omega arith;
  }

  pub progress_start : (types : List ArrayType) (f : Forecast) → f ≡ no_forecast → Progress m es ps cs first 0 types first f
  progress_start types f e = subst (Progress m es ps cs first 0 types first) (sym e) (progress_none types)

  module _ (k : ℕ) (types : List ArrayType) (rows : List Row) (f : Forecast) (p : Progress m es ps cs first k types rows f) (h : k < length first) (d : Row) where
    -- the line whose turn it is, and those behind it
    turn : (s : Row) → s.given ≡ (get_or rows k d).given → drop k (lines_in cs first) ≡ line_in cs s.given ∷ drop (k + 1) (lines_in cs first)
    turn s e =
        lines_drop cs k first
        ∙ ap (lines_in cs) (drop_more first k d h)
        ∙ (λ i. line_in cs (sym (e ∙ givens_at rows first k d p.given h) i) ∷ sym (lines_drop cs (k + 1) first) i)

    -- one more line, with what was found of it and what it adds
    progress_more : (s : Row) (e : Entry) → k < length types → s.given ≡ (get_or rows k d).given → s.offset ≡ f.place
        → first_no (questions m (length es) (known_in es) (usable_in es) ps (types_of (take k types)) (line_in cs s.given)) ≡ None
        → Found m (known_in es) ps (types_of (take k types)) (line_in cs s.given) s.found
        → entry_of e ≡ known_in es s.given.fields.function → (share_of e s).steps ≤ 2 ^ 64
        → Progress m es ps cs first (k + 1) (set types k s.found.array) (set rows k s) (added f (share_of e s))
    progress_more s e room given_is offset-is no-no found known few =
        let E = known_in es in
        let before_types : List theory.ArrayType = theory.types_of p.done in
        let l : theory.Line = line_in cs s.given in
        let r : theory.TypedLine = typed m E ps before_types l in
        let yes : first_no (questions m (length es) E (usable_in es) ps before_types l) ≡ None =
        subst (λ (ts : List theory.ArrayType). first_no (questions m (length es) E (usable_in es) ps ts l) ≡ None) p.types_are no-no in
        let here : Found m E ps before_types l s.found = subst (λ (ts : List theory.ArrayType). Found m E ps ts l s.found) p.types_are found in
        let shape-ok : allowed (theory.type_of r).shape ≡ true = questions_allowed m (length es) E (usable_in es) ps before_types l yes in
        let small : size (dims s.found.array.shape) ≤ 65536 = size_allowed (dims s.found.array.shape) (ap (λ (t : theory.ArrayType). allowed t.shape) here.type ∙ shape-ok) in
        let atoms_are : min (size (dims s.found.array.shape)) 4294967295 ≡ size (dims s.found.array.shape) = omega arith in
        let share : line_share E r ≡ share_of e s =
        share_planned m E before_types s.offset r
        ∙ ap (λ (x : Plan). plan_share E x.kind x) (sym (here.plan p.small s.offset))
        ∙ share_found E cs s.given s.found s.offset e (min (size (dims s.found.array.shape)) 4294967295) known atoms_are in
        let long = givens_length rows first p.given in
        let more-types : types_of (take (k + 1) (set types k s.found.array)) ≡ theory.types_of (p.done ++ r ∷ []) =
        ap types_of (take_more_set types k s.found.array room) ∙ map-append array_type (take k types) (s.found.array ∷ [])
        ∙ (λ i. p.types_are i ++ here.type i ∷ []) ∙ sym (types_push p.done r) in
        let plan-is : planned l s.found s.offset ≡ plan_of m E before_types (0 + atoms_in p.done) r =
        here.plan p.small s.offset ∙ ap (λ (q : ℕ). plan_of m E before_types q r) (offset-is ∙ p.place ∙ sym (zero-add (atoms_in p.done))) in
        let few_atoms : (share_of e s).atoms ≤ 65536 = subst (λ (x : Share). x.atoms ≤ 65536) share (atoms_small m E ps before_types l shape-ok) in
        record {
          done = p.done ++ r ∷ [];
          judged = p.judged
              ∙ ap (λ (ls : List theory.Line). before_all p.done (verdict m es ps before_types ls)) (turn s given_is)
              ∙ ap (λ (o : Option ℕ). before_all p.done (unless o (length before_types) r (verdict m es ps (before_types ++ theory.type_of r ∷ []) (drop (k + 1) (lines_in cs first))))) yes
              ∙ sym (before_push p.done r (verdict m es ps (before_types ++ theory.type_of r ∷ []) (drop (k + 1) (lines_in cs first))))
              ∙ ap (λ (ts : List theory.ArrayType). before_all (p.done ++ r ∷ []) (verdict m es ps ts (drop (k + 1) (lines_in cs first)))) (sym (types_push p.done r));
          types_are = more-types;
          small = subst AllAllowed (sym (types_push p.done r)) (allowed_push before_types (theory.type_of r) p.small shape-ok);
          given = givens_set rows k s d given_is (omega arith) ∙ p.given;
          planned = ap (plans_in cs) (take_more_set rows k s (omega arith)) ∙ plans_append cs (take k rows) (s ∷ []) ∙ (λ i. p.planned i ++ plan-is i ∷ []) ∙ sym (plans_push m E [] 0 p.done r);
          steps = (λ i. p.steps i + (sym share i).steps) ∙ sym (steps_push E p.done r);
          place = (λ i. p.place i + (sym share i).atoms) ∙ sym (atoms_push p.done r);
          most = λ rest. room_push E p.done r f.most f.place p.most rest
              ∙ ap (λ (x : Share). max (max f.most (f.place + x.atoms + x.behind)) (room_from E (f.place + x.atoms) rest)) share;
          depth = (λ i. max (p.depth i) (sym share i).depth) ∙ sym (depth_push E p.done r);
          few_steps = let b = p.few_steps in omega arith;
          few_atoms = let b = p.few_atoms in omega arith;
        }

    -- the line is refused
    progress_no : (s : Row) (e : Refusal) → k < length types → s.given ≡ (get_or rows k d).given
        → Refused (questions m (length es) (known_in es) (usable_in es) ps (types_of (take k types)) (line_in cs s.given)) k e
        → RefusedBy (verdict m es ps [] (lines_in cs first)) e
    progress_no s e room given_is told = refused_by (first_no (questions m (length es) (known_in es) (usable_in es) ps (theory.types_of p.done) (line_in cs s.given))) refl
        (subst (λ (ts : List theory.ArrayType). answer_at k (first_no (questions m (length es) (known_in es) (usable_in es) ps ts (line_in cs s.given))) ≡ Some (answer_of e)) p.types_are told)
      where
        before_types : List theory.ArrayType
        before_types = theory.types_of p.done

        long : length before_types ≡ k
        long = sym (ap length p.types_are) ∙ length-map (take k types) array_type ∙ length-take-le k types (omega arith)

        refused_by : (o : Option ℕ) → first_no (questions m (length es) (known_in es) (usable_in es) ps (theory.types_of p.done) (line_in cs s.given)) ≡ o → answer_at k o ≡ Some (answer_of e) → RefusedBy (verdict m es ps [] (lines_in cs first)) e
        refused_by None is a = let w : ◌≡◌ {A = ℕ} 0 1 = cc in absurd (omega arith)
        refused_by (Some q) is a = record {
          number = q;
          line = k;
          judged = p.judged
              ∙ ap (λ (ls : List theory.Line). before_all p.done (verdict m es ps before_types ls)) (turn s given_is)
              ∙ ap (λ (o : Option ℕ). before_all p.done (unless o (length before_types) (typed m (known_in es) ps before_types (line_in cs s.given)) (verdict m es ps (before_types ++ theory.type_of (typed m (known_in es) ps before_types (line_in cs s.given)) ∷ []) (drop (k + 1) (lines_in cs first))))) is
              ∙ before_refused p.done q (length before_types)
              ∙ ap (refused_at q) long;
          answer = sym (some_same a);
        }
          where
            some_same : Some (refused q (Some k)) ≡ Some (answer_of e) → refused q (Some k) ≡ answer_of e
            some_same z = cc

    -- the line is typed, by the code's own list of types
    pub progress_next : (own : List ArrayType) (s : Row) (u : Unit {0}) (e : Entry) (f' : Forecast) (place : ℕ) → own ≡ take k types → k < length types → place ≡ f.place
        → RowTyped m es ps (types_of own) cs k place (get_or rows k d) (Ok u) s → entry_of e ≡ known_in es s.given.fields.function → (share_of e s).steps < 2 ^ 64 → f' ≡ added f (share_of e s)
        → Progress m es ps cs first (k + 1) (set types k s.found.array) (set rows k s) f'
    progress_next own s u e f' place own_is room place_is told known few f-is =
        let all = subst (λ (ts : List ArrayType). RowTyped m es ps (types_of ts) cs k place (get_or rows k d) (Ok u) s) own_is told in
        subst (Progress m es ps cs first (k + 1) (set types k s.found.array) (set rows k s)) (sym f-is) (progress_more s e room all.0 (all.1 ∙ place_is) all.2 all.3 known (omega arith))

    -- the line is refused, by the code's own list of types
    pub progress_stop : (own : List ArrayType) (s : Row) (e : Refusal) (place : ℕ) → own ≡ take k types → k < length types → RowTyped m es ps (types_of own) cs k place (get_or rows k d) (Err e) s
        → CheckedAs m es ps cs first (Err e) (set rows k s)
    progress_stop own s e place own_is room told =
        let all = subst (λ (ts : List ArrayType). RowTyped m es ps (types_of ts) cs k place (get_or rows k d) (Err e) s) own_is told in
        let same : s.given ≡ (get_or rows k d).given = ap (λ (r : Row). r.given) all.1 in
        let long = givens_length rows first p.given in
        (progress_no s e room same (subst (λ (g : Given). Refused (questions m (length es) (known_in es) (usable_in es) ps (types_of (take k types)) (line_in cs g)) k e) (sym same) all.0), givens_set rows k s d same (omega arith) ∙ p.given)

  -- behind the last line
  pub progress_all : (k : ℕ) (types : List ArrayType) (rows : List Row) (f : Forecast) → Progress m es ps cs first k types rows f → k ≡ length first → Checked m es ps cs first rows f
  progress_all k types rows f p end =
      let h : length first ≤ k = omega arith in
      let long = givens_length rows first p.given in
      record {
        typed = p.done;
        judged = p.judged
            ∙ ap (λ (ls : List theory.Line). before_all p.done (verdict m es ps (theory.types_of p.done) ls)) (drop_all k (lines_in cs first) (omega (arith, lines_length cs first)))
            ∙ before_typed p.done;
        given = p.given;
        planned = ap (plans_in cs) (sym (take_all k rows (omega arith))) ∙ p.planned;
        steps = p.steps;
        room = sym (ap (room_from (known_in es) 0) (sym (append-nil p.done)) ∙ p.most []);
        depth = p.depth;
        few_steps = let b = p.few_steps in subst (λ (n : ℕ). f.steps ≤ n * 2 ^ 64) end b;
      }

-- ---- the type of the result

-- the types in plans are those of the lines
plan_types : (m : Meaning) (E : ℕ → theory.Entry) (types : List theory.ArrayType) (q : ℕ) (rs : List theory.TypedLine) → map (λ (x : Plan). x.type) (plans m E types q rs) ≡ theory.types_of rs
plan_types m E types q [] = refl
plan_types m E types q (r ∷ rs) = λ i. plan_type r i ∷ plan_types m E (types ++ theory.type_of r ∷ []) (q + atoms r) rs i
  where
    plan_type : (r : theory.TypedLine) → (plan_of m E types q r).type ≡ theory.type_of r
    plan_type (theory.literal t cs) = refl
    plan_type (theory.parameter k t) = refl
    plan_type (theory.frame os p t) = refl
    plan_type (theory.application f os p t) = refl

-- the types found are those of the plans
found_types : (cs : List ℕ) (rs : List Row) → map (λ (r : Row). array_type r.found.array) rs ≡ map (λ (x : Plan). x.type) (plans_in cs rs)
found_types cs [] = refl
found_types cs (r ∷ rs) = ap (λ (ts : List theory.ArrayType). array_type r.found.array ∷ ts) (found_types cs rs)

-- the last of a list
last_read : {X : Type 0} (xs : List X) (d x : X) (n : ℕ) → length xs ≡ n + 1 → theory.last_or x xs ≡ get_or xs n d
last_read [] d x n e = absurd (omega (arith, e))
last_read (y ∷ []) d x n e = let z : n ≡ 0 = omega (arith, e) in ap (λ (k : ℕ). get_or (y ∷ []) k d) (sym z)
last_read (y ∷ z ∷ xs) d x zero e = absurd (omega (arith, e))
last_read (y ∷ z ∷ xs) d x (suc n) e = last_read (z ∷ xs) d y n (omega arith)

-- the last type of typed lines
last_type : (rs : List theory.TypedLine) (r : theory.TypedLine) → theory.type_of (theory.last_or r rs) ≡ theory.last_or (theory.type_of r) (theory.types_of rs)
last_type [] r = refl
last_type (x ∷ rs) r = last_type rs x

-- what was found of the last line is the type of the result
pub result_found : (m : Meaning) (es : List Entry) (ps : List theory.ArrayType) (cs : List ℕ) (first rows : List Row) (f : Forecast) (n : ℕ) (d : Row) (c : Checked m es ps cs first rows f) → length rows ≡ n + 1
    → array_type (get_or rows n d).found.array ≡ theory.result_type c.typed
result_found m es ps cs first rows f n d c long =
    let types_are : map (λ (r : Row). array_type r.found.array) rows ≡ theory.types_of c.typed = found_types cs rows ∙ ap (map (λ (x : Plan). x.type)) c.planned ∙ plan_types m (known_in es) [] 0 c.typed in
    sym (get_or-map (λ (r : Row). array_type r.found.array) rows n d theory.no_type (omega arith))
    ∙ ap (λ (ts : List theory.ArrayType). get_or ts n theory.no_type) types_are
    ∙ sym (last_read (theory.types_of c.typed) theory.no_type theory.no_type n (sym (ap length types_are) ∙ length-map rows (λ (r : Row). array_type r.found.array) ∙ long))
    ∙ sym (last_type c.typed (theory.literal theory.no_type []))
