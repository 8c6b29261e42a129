-- What is read off a history agrees with the state that it led to: draft, formulas, what is known of them, their plans and marks.
use Rattle.std.proofs.Common.{◌≡◌, ℕ, zero, suc, ◌+◌, ◌-◌, ◌<◌, ◌≤◌, Bool, true, false, not, ◌&&◌, ◌||◌, eqb, ltb, ◌⊎◌, List, [], ◌∷◌, ◌++◌, length, get_or, set, Some, None, Option, sym, refl, ap, ◌∙◌, subst, inl, inr, append_assoc, arith, length-append, length-set, get_or-set_other, get_or-set_same}
use Rattle.std.proofs.lemmas.List.{get_or_append_left, get_or-append_right}
use Rattle.std.proofs.lemmas.Bool.{and_parts, ltb-true, eq-eqb, ne_eqb, cases_eq, cases_lt}
use Rattle.remora.specs.Algebras.{Sample, Meaning}
use Rattle.remora.specs.Formulas.{ArrayType, Line, Formula, Entry, TypedLine, type_of}
use Rattle.remora.specs.Typing.{Names, names_operator, names_formula, names_fold, names_append, names_reverse, Types, t_array, t_var, t_frame, t_app, TypesAll, no_lines, and_line}
use Rattle.remora.specs.Questions.{Question, AllYes, Verdict, all_typed, refused_at, judge}
use Rattle.remora.specs.Forecasts.{entry_of, within_limits}
use Rattle.remora.specs.Numbers.{pick, lines_of, no_entry, known, any_number, AllTyped}
use Rattle.remora.specs.Machine.{plans, choose, Progress, more, done, faulted, idle, at, step}
use Rattle.remora.specs.Calls.{Draft, shut, opened, added, slip_fits, draft_formula, draft_parameters, draft_lines, none, Kept, kept_as, marked, no_formula, Run, absent, going, finished, broken, State, empty, entry_at, plan_at, usable_at, with_draft, with_run, with_formula, Call, open', line, enter, scrap, withdraw, entry, begin, step', result, close, Answer, refused, number, ok, states, goes_on, is_done, fault, wrote, Reply, asked, refusal, open_questions, opens_draft, line_questions, adds_line, scrap_questions, drops_draft, withdraw_questions, marks_formula, entry_questions, tells_entry, store_fits, begin_questions, begins_run, result_questions, writes_result, close_questions, ends_run, progressed, serve_verdict, serve_step, serve_result, serve}
use Rattle.remora.specs.Histories.{Event, event, Leads, Reading, unread, drafted, by_answer, read_refused, read_enter, read_call, read_from, member}
use Rattle.remora.proofs.Checking.{judge_types, types_judge}
use Rattle.remora.proofs.Sizes.{known_here, known_below}
use Rattle.remora.proofs.Running.{planned, planned_here, planned_below}

-- functions that agree at every number are one
pub everywhere : {Z : Type 0} (f g : ℕ → Z) → ((n : ℕ) → f n ≡ g n) → f ≡ g
everywhere f g h = λ i n. h n i

-- ---- questions of calls

pub choose_cases : {Z : Type 0} (P : Z → Type 0) (b : Bool) (x y : Z) → (b ≡ true → P x) → (b ≡ false → P y) → P (choose b x y)
unfolding choose
choose_cases P true x y p q = p refl
choose_cases P false x y p q = q refl

pub asked_cases : {Z : Type 0} (P : Z → Type 0) (qs : List Question) (z : Z) (r : ℕ → Z) → (AllYes qs → P z) → ((n : ℕ) → P (r n)) → P (asked qs z r)
asked_cases P [] z r p q = p tt
asked_cases P (a ∷ qs) z r p q = choose_cases P a.1 (asked qs z r) (r a.0) (λ e. asked_cases P qs z r (λ y. p (e, y)) q) (λ e. q a.0)

-- ---- lists of formulas

known_beyond : (m : Meaning) (fs : List Formula) (g : ℕ) → length fs ≤ g → known m fs g ≡ no_entry
unfolding known
known_beyond m [] g h = refl
known_beyond m (f ∷ fs) g h = rw (ne_eqb g (length fs) (λ e. omega arith)) (known_beyond m fs g (omega arith))

planned_beyond : (m : Meaning) (fs : List Formula) (g : ℕ) → length fs ≤ g → planned m fs g ≡ []
unfolding planned
planned_beyond m [] g h = refl
planned_beyond m (f ∷ fs) g h = rw (ne_eqb g (length fs) (λ e. omega arith)) (planned_beyond m fs g (omega arith))

get_d_beyond : {Z : Type 0} (xs : List Z) (g : ℕ) (d : Z) → length xs ≤ g → get_or xs g d ≡ d
get_d_beyond [] g d h = refl
get_d_beyond (x ∷ xs) zero d h = absurd (omega arith)
get_d_beyond (x ∷ xs) (suc g) d h = get_d_beyond xs g d (omega arith)

-- a list with one more at its end, at each number
snoc_at : {Z : Type 0} (xs : List Z) (x d : Z) (g : ℕ) → (P : Z → Type 0) → (g < length xs → P (get_or xs g d)) → (g ≡ length xs → P x) → (length xs < g → P d) → P (get_or (xs ++ x ∷ []) g d)
snoc_at {Z} xs x d g P below here above = go (cases_lt g (length xs))
  where
    past : (k : ℕ) → g - length xs ≡ k → length xs ≤ g → P (get_or (x ∷ []) k d)
    past zero e h = here (omega arith)
    past (suc k) e h = above (omega arith)

    go : (g < length xs) ⊎ (length xs ≤ g) → P (get_or (xs ++ x ∷ []) g d)
    go (inl h) = subst P (sym (get_or_append_left xs (x ∷ []) d g h)) (below h)
    go (inr h) = subst P (sym (get_or-append_right xs (x ∷ []) (length xs) g d refl h)) (past (g - length xs) refl h)

-- ---- the formulas behind the numbers only grow

abbrev pub Later : List Formula → List Formula → Type 0
Later fs gs = (newer : List Formula) × (gs ≡ newer ++ fs)

pub later_refl : (fs : List Formula) → Later fs fs
later_refl fs = ([], refl)

pub later_trans : (fs gs hs : List Formula) → Later fs gs → Later gs hs → Later fs hs
later_trans fs gs hs o p = (p.0 ++ o.0, p.1 ∙ ap (λ (z : List Formula). p.0 ++ z) o.1 ∙ sym (append_assoc p.0 o.0 fs))

pick_later : (fs : List Formula) (b : Bool) (r s : Reading) → Later fs r.formulas → Later fs s.formulas → Later fs (pick b r s).formulas
pick_later fs true r s h k = h
pick_later fs false r s h k = k

by_answer_lem : {Z : Type 0} (P : Z → Type 0) (a : Answer) (f : ℕ → Option ℕ → Z) (g : ℕ → Z) (x y : Z) → ((n : ℕ) (l : Option ℕ) → P (f n l)) → ((k : ℕ) → P (g k)) → P x → P y → P (by_answer a f g x y)
by_answer_lem P (refused n l) f g x y p q u v = p n l
by_answer_lem P (number k) f g x y p q u v = q k
by_answer_lem P ok f g x y p q u v = u
by_answer_lem P (states e w) f g x y p q u v = v
by_answer_lem P goes_on f g x y p q u v = v
by_answer_lem P is_done f g x y p q u v = v
by_answer_lem P (fault e h l c) f g x y p q u v = v
by_answer_lem P (wrote cs) f g x y p q u v = v

refused_later : (r : Reading) (n : ℕ) (l : Option ℕ) → Later r.formulas (read_refused r n l).formulas
refused_later r n None = pick_later r.formulas (eqb n 3) r (drafted r shut) (later_refl _) (later_refl _)
refused_later r n (Some l) = later_refl _

pub read_later : (r : Reading) (c : Call) (a : Answer) → Later r.formulas (read_call r c a).formulas
read_later r (open' ps) a = by_answer_lem (λ (x : Reading). Later r.formulas x.formulas) a (λ n l. r) (λ k. drafted r (opened k ps [])) r r (λ n l. later_refl _) (λ k. later_refl _) (later_refl _) (later_refl _)
read_later r (line k x) a = by_answer_lem (λ (y : Reading). Later r.formulas y.formulas) a (λ n l. r) (λ k. drafted r (added r.draft x)) r r (λ n l. later_refl _) (λ k. later_refl _) (later_refl _) (later_refl _)
read_later r (enter k) a =
    by_answer_lem (λ (x : Reading). Later r.formulas x.formulas) a (read_refused r) (λ i. record { draft = shut; formulas = draft_formula r.draft ∷ r.formulas; withdrawn = r.withdrawn }) r r
    (refused_later r) (λ i. (draft_formula r.draft ∷ [], refl)) (later_refl _) (later_refl _)
read_later r (scrap k) a = by_answer_lem (λ (x : Reading). Later r.formulas x.formulas) a (λ n l. r) (λ i. r) (drafted r shut) r (λ n l. later_refl _) (λ i. later_refl _) (later_refl _) (later_refl _)
read_later r (withdraw k) a =
    by_answer_lem (λ (x : Reading). Later r.formulas x.formulas) a (λ n l. r) (λ i. r) (record { draft = r.draft; formulas = r.formulas; withdrawn = k ∷ r.withdrawn }) r
    (λ n l. later_refl _) (λ i. later_refl _) (later_refl _) (later_refl _)
read_later r (entry g) a = later_refl _
read_later r (begin g cs) a = later_refl _
read_later r step' a = later_refl _
read_later r (result k) a = later_refl _
read_later r close a = later_refl _

pub reads_later : (r : Reading) (h : List Event) → Later r.formulas (read_from r h).formulas
reads_later r [] = later_refl _
reads_later r (event c a ∷ h) = later_trans _ _ _ (read_later r c a) (reads_later (read_call r c a) h)

pub read_append : (r : Reading) (h k : List Event) → read_from r (h ++ k) ≡ read_from (read_from r h) k
read_append r [] k = refl
read_append r (event c a ∷ h) k = read_append (read_call r c a) h k

-- ---- the state agrees with the reading

pub record Agrees (m : Meaning) (r : Reading) (s : State) : Type 0 where
  pub draft : s.draft ≡ r.draft
  pub count : length s.formulas ≡ length r.formulas
  pub entries : (g : ℕ) → entry_at s g ≡ known m r.formulas g
  pub planning : (g : ℕ) → plan_at s g ≡ planned m r.formulas g
  pub marks : (g : ℕ) → (get_or s.formulas g no_formula).withdrawn ≡ member g r.withdrawn
  pub typed : AllTyped m r.formulas
  pub within : (g : ℕ) → g < length r.formulas → within_limits (known m r.formulas g) ≡ true

pub agrees_empty : (m : Meaning) → Agrees m unread empty
unfolding known planned
agrees_empty m = record { draft = refl; count = refl; entries = λ g. refl; planning = λ g. refl; marks = λ g. refl; typed = tt; within = λ g h. absurd (omega arith) }

-- another draft
redraft : (m : Meaning) (r : Reading) (s : State) (n : ℕ) (d : Draft) → Agrees m r s → Agrees m (drafted r d) (record { serials = n; draft = d; formulas = s.formulas; run = s.run })
redraft m r s n d a = record { draft = refl; count = a.count; entries = a.entries; planning = a.planning; marks = a.marks; typed = a.typed; within = a.within }

-- another run
pub rerun : (m : Meaning) (r : Reading) (s : State) (u : Run) → Agrees m r s → Agrees m r (with_run s u)
rerun m r s u a = record { draft = a.draft; count = a.count; entries = a.entries; planning = a.planning; marks = a.marks; typed = a.typed; within = a.within }

-- ---- a formula that is entered

names_any : (m : Meaning) (n : ℕ) (usable : ℕ → Bool) (l : Line) (f : Rattle.remora.specs.Formulas.Function) → Names m n usable l f → Names m n any_number l f
names_any m n usable l f (names_operator k i) = names_operator k i
names_any m n usable l f (names_formula k i u) = names_formula k i refl
names_any m n usable l f (names_fold b k d e i w r s u) = names_fold b k d e i w r s u
names_any m n usable l f (names_append b j k d e s) = names_append b j k d e s
names_any m n usable l f (names_reverse b k d e s) = names_reverse b k d e s

types_any : (m : Meaning) (n : ℕ) (E : ℕ → Entry) (usable : ℕ → Bool) (ps types : List ArrayType) (l : Line) (r : TypedLine) → Types m n E usable ps types l r → Types m n E any_number ps types l r
types_any m n E usable ps types l r (t_array k e u c i s) = t_array k e u c i s
types_any m n E usable ps types l r (t_var k e i u s) = t_var k e i u s
types_any m n E usable ps types l r (t_frame cell k e u w c i a s) = t_frame cell k e u w c i a s
types_any m n E usable ps types l r (t_app fs names e os j u s) = t_app fs (names_any m n usable l _ names) e os j u s

all_any : (m : Meaning) (n : ℕ) (E : ℕ → Entry) (usable : ℕ → Bool) (ps types : List ArrayType) (ls : List Line) (rs : List TypedLine) → TypesAll m n E usable ps types ls rs → TypesAll m n E any_number ps types ls rs
all_any m n E usable ps types ls rs no_lines = no_lines
all_any m n E usable ps types ls rs (and_line {l = l} {ls = ls'} {r = r} {rs = rs'} t ts) = and_line (types_any m n E usable ps types l r t) (all_any m n E usable ps (types ++ type_of r ∷ []) ls' rs' ts)

module _ (m : Meaning) where
  -- judging by the state is judging by the reading
  pub judged_alike : (r : Reading) (s : State) → Agrees m r s → (ps : List ArrayType) (ls : List Line)
      → judge m (length s.formulas) (entry_at s) (usable_at s) ps [] ls ≡ judge m (length r.formulas) (known m r.formulas) (λ g. not (member g r.withdrawn)) ps [] ls
  judged_alike r s a ps ls =
      ap (λ (n : ℕ). judge m n (entry_at s) (usable_at s) ps [] ls) a.count
      ∙ ap (λ (E : ℕ → Entry). judge m (length r.formulas) E (usable_at s) ps [] ls) (everywhere (entry_at s) (known m r.formulas) a.entries)
      ∙ ap (λ (u : ℕ → Bool). judge m (length r.formulas) (known m r.formulas) u ps [] ls) (everywhere (usable_at s) (λ g. not (member g r.withdrawn)) (λ g. ap not (a.marks g)))

  -- one more formula, typed and within the limits
  grown : (r : Reading) (s : State) → Agrees m r s → (rs : List TypedLine)
      → TypesAll m (length r.formulas) (known m r.formulas) (λ g. not (member g r.withdrawn)) (draft_parameters r.draft) [] (draft_lines r.draft) rs
      → within_limits (entry_of (entry_at s) (draft_parameters s.draft) rs) ≡ true
      → Agrees m (read_enter r (number (length s.formulas))) (with_formula s (kept_as m (entry_at s) (draft_formula s.draft) rs))
  grown r s a rs t w = record {
    draft = refl;
    count = length-append s.formulas (_ ∷ []) ∙ omega (arith, a.count);
    entries = λ g. snoc_at s.formulas k no_formula g (λ (z : Kept). z.entry ≡ known m (f ∷ fs) g)
        (λ h. a.entries g ∙ sym (known_below m f fs g (let c = a.count in omega arith)))
        (λ h. new_entry ∙ sym (ap (known m (f ∷ fs)) (h ∙ a.count) ∙ known_here m f fs))
        (λ h. sym (known_beyond m (f ∷ fs) g (let c = a.count in omega arith)));
    planning = λ g. snoc_at s.formulas k no_formula g (λ (z : Kept). z.plan ≡ planned m (f ∷ fs) g)
        (λ h. a.planning g ∙ sym (planned_below m f fs g (let c = a.count in omega arith)))
        (λ h. new_plan ∙ sym (ap (planned m (f ∷ fs)) (h ∙ a.count) ∙ planned_here m f fs))
        (λ h. sym (planned_beyond m (f ∷ fs) g (let c = a.count in omega arith)));
    marks = λ g. snoc_at s.formulas k no_formula g (λ (z : Kept). z.withdrawn ≡ member g r.withdrawn)
        (λ h. a.marks g)
        (λ h. sym (ap (λ (z : Kept). z.withdrawn) (get_d_beyond s.formulas g no_formula (omega arith))) ∙ a.marks g)
        (λ h. sym (ap (λ (z : Kept). z.withdrawn) (get_d_beyond s.formulas g no_formula (omega arith))) ∙ a.marks g);
    typed = (subst (TypesAll m (length fs) (known m fs) any_number f.parameters [] f.lines) lines_are (all_any m (length fs) (known m fs) (λ g. not (member g r.withdrawn)) f.parameters [] f.lines rs t), a.typed);
    within = λ g h. limits g (cases_eq g (length fs)) h;
  }
    where
      f : Formula
      f = draft_formula r.draft

      fs : List Formula
      fs = r.formulas

      k : Kept
      k = kept_as m (entry_at s) (draft_formula s.draft) rs

      known_is : entry_at s ≡ known m fs
      known_is = everywhere (entry_at s) (known m fs) a.entries

      lines_are : rs ≡ lines_of m (known m fs) f
      lines_are = (types_judge m (length fs) (known m fs) (λ g. not (member g r.withdrawn)) f.parameters [] f.lines rs t).1

      new_entry : k.entry ≡ entry_of (known m fs) f.parameters (lines_of m (known m fs) f)
      new_entry =
          ap (λ (d : Draft). entry_of (entry_at s) (draft_parameters d) rs) a.draft ∙ ap (λ (E : ℕ → Entry). entry_of E f.parameters rs) known_is ∙ ap (entry_of (known m fs) f.parameters) lines_are

      new_plan : k.plan ≡ plans m (known m fs) [] 0 (lines_of m (known m fs) f)
      new_plan = ap (λ (E : ℕ → Entry). plans m E [] 0 rs) known_is ∙ ap (plans m (known m fs) [] 0) lines_are

      limits : (g : ℕ) → (g ≡ length fs) ⊎ (g ≡ length fs → ⊥) → g < length (f ∷ fs) → within_limits (known m (f ∷ fs) g) ≡ true
      limits g (inl e) h = ap (λ (i : ℕ). within_limits (known m (f ∷ fs) i)) e ∙ ap within_limits (known_here m f fs ∙ sym new_entry) ∙ w
      limits g (inr e) h = ap within_limits (known_below m f fs g (omega arith)) ∙ a.within g (omega arith)

  -- ---- each call keeps the agreement

  abbrev Kept-by : Reading → Call → Reply → Type 0
  Kept-by r c z = Agrees m (read_call r c z.answer) z.state

  open_agrees : (r : Reading) (s : State) (S : List Sample) (ps : List ArrayType) → Agrees m r s → Kept-by r (open' ps) (serve m s S (open' ps))
  open_agrees r s S ps a = asked_cases (Kept-by r (open' ps)) (open_questions m s ps) (opens_draft s S ps) (refusal s S) (λ y. redraft m r s (s.serials + 1) (opened s.serials ps []) a) (λ n. a)

  line_agrees : (r : Reading) (s : State) (S : List Sample) (k : ℕ) (x : Line) → Agrees m r s → Kept-by r (line k x) (serve m s S (line k x))
  line_agrees r s S k x a =
      asked_cases (Kept-by r (line k x)) (line_questions m s k x) (adds_line s S x) (refusal s S)
      (λ y. subst (λ (d : Draft). Agrees m (drafted r d) (with_draft s (added s.draft x))) (ap (λ (d : Draft). added d x) a.draft) (redraft m r s s.serials (added s.draft x) a))
      (λ n. a)

  verdict_agrees : (r : Reading) (s : State) (S : List Sample) (k : ℕ) (v : Verdict) → Agrees m r s
      → judge m (length r.formulas) (known m r.formulas) (λ g. not (member g r.withdrawn)) (draft_parameters s.draft) [] (draft_lines s.draft) ≡ v
      → Kept-by r (enter k) (serve_verdict m s S (draft_formula s.draft) v)
  verdict_agrees r s S k (all_typed rs) a e =
      choose_cases (Kept-by r (enter k)) (within_limits (entry_of (entry_at s) (draft_parameters s.draft) rs)) _ _
      (λ w. grown r s a rs (subst (λ (d : Draft). TypesAll m (length r.formulas) (known m r.formulas) (λ g. not (member g r.withdrawn)) (draft_parameters d) [] (draft_lines d) rs) a.draft
      (judge_types m (length r.formulas) (known m r.formulas) (λ g. not (member g r.withdrawn)) (draft_parameters s.draft) [] (draft_lines s.draft) rs e)) w)
      (λ w. redraft m r s s.serials shut a)
  verdict_agrees r s S k (refused_at q i) a e = redraft m r s s.serials shut a

  enter_agrees : (r : Reading) (s : State) (S : List Sample) (k : ℕ) → Agrees m r s → Kept-by r (enter k) (serve m s S (enter k))
  enter_agrees r s S k a =
      choose_cases (Kept-by r (enter k)) (slip_fits s.draft k) _ _
      (λ y. choose_cases (Kept-by r (enter k)) (not (none (draft_lines s.draft)) && ltb (length s.formulas) 64) _ _
      (λ z. verdict_agrees r s S k _ a (sym (judged_alike r s a (draft_parameters s.draft) (draft_lines s.draft))))
      (λ z. redraft m r s s.serials shut a))
      (λ y. a)

  scrap_agrees : (r : Reading) (s : State) (S : List Sample) (k : ℕ) → Agrees m r s → Kept-by r (scrap k) (serve m s S (scrap k))
  scrap_agrees r s S k a = asked_cases (Kept-by r (scrap k)) (scrap_questions s k) (drops_draft s S) (refusal s S) (λ y. redraft m r s s.serials shut a) (λ n. a)

  -- a mark changes neither what is known nor the plan
  set_at : (xs : List Kept) (g i : ℕ) (P : Kept → Type 0) → g < length xs → (i ≡ g → P (marked (get_or xs g no_formula))) → ((i ≡ g → ⊥) → P (get_or xs i no_formula)) → P (get_or (set xs g (marked (get_or xs g no_formula))) i no_formula)
  set_at xs g i P l here there = go (cases_eq i g)
    where
      go : (i ≡ g) ⊎ (i ≡ g → ⊥) → P (get_or (set xs g (marked (get_or xs g no_formula))) i no_formula)
      go (inl e) = subst (λ (j : ℕ). P (get_or (set xs g (marked (get_or xs g no_formula))) j no_formula)) (sym e) (subst P (sym (rw get_or-set_same)) (here e))
      go (inr e) = subst P (sym (rw get_or-set_other)) (there e)

  withdraw_agrees : (r : Reading) (s : State) (S : List Sample) (g : ℕ) → Agrees m r s → Kept-by r (withdraw g) (serve m s S (withdraw g))
  withdraw_agrees r s S g a = asked_cases (Kept-by r (withdraw g)) (withdraw_questions s g) (marks_formula s S g) (refusal s S) (λ y. new (ltb-true g (length s.formulas) (and_parts _ _ y.0).0)) (λ n. a)
    where
      xs : List Kept
      xs = s.formulas

      new : g < length s.formulas → Agrees m (record { draft = r.draft; formulas = r.formulas; withdrawn = g ∷ r.withdrawn })
          (record { serials = s.serials; draft = s.draft; formulas = set s.formulas g (marked (get_or s.formulas g no_formula)); run = s.run })
      new l = record {
        draft = a.draft;
        count = length-set s.formulas g (marked (get_or s.formulas g no_formula)) ∙ a.count;
        entries = λ i. set_at xs g i (λ (z : Kept). z.entry ≡ known m r.formulas i) l (λ e. a.entries g ∙ ap (known m r.formulas) (sym e)) (λ e. a.entries i);
        planning = λ i. set_at xs g i (λ (z : Kept). z.plan ≡ planned m r.formulas i) l (λ e. a.planning g ∙ ap (planned m r.formulas) (sym e)) (λ e. a.planning i);
        marks = λ i. set_at xs g i (λ (z : Kept). z.withdrawn ≡ (eqb i g || member i r.withdrawn)) l (λ e. sym (rw (eq-eqb i g e))) (λ e. a.marks i ∙ sym (rw (ne_eqb i g e)));
        typed = a.typed;
        within = a.within;
      }

  entry_agrees : (r : Reading) (s : State) (S : List Sample) (g : ℕ) → Agrees m r s → Kept-by r (entry g) (serve m s S (entry g))
  entry_agrees r s S g a = asked_cases (Kept-by r (entry g)) (entry_questions s g) (tells_entry s S g) (refusal s S) (λ y. a) (λ n. a)

  begin_agrees : (r : Reading) (s : State) (S : List Sample) (g : ℕ) (cs : List ℕ) → Agrees m r s → Kept-by r (begin g cs) (serve m s S (begin g cs))
  begin_agrees r s S g cs a = asked_cases (Kept-by r (begin g cs)) (begin_questions m s S g cs) (begins_run s S g cs) (refusal s S) (λ y. rerun m r s _ a) (λ n. a)

  progress_agrees : (r : Reading) (s : State) (S : List Sample) (g : ℕ) (p : Progress) → Agrees m r s → Kept-by r step' (progressed s S g p)
  progress_agrees r s S g (more (at T ts)) a = rerun m r s _ a
  progress_agrees r s S g (done T q) a = rerun m r s _ a
  progress_agrees r s S g (faulted (at T ts) x) a = rerun m r s _ a
  progress_agrees r s S g idle a = a

  step_agrees : (r : Reading) (s : State) (S : List Sample) (u : Run) → Agrees m r s → Kept-by r step' (serve_step m s S u)
  step_agrees r s S absent a = a
  step_agrees r s S (going g ts) a = asked_cases (Kept-by r step') ((18, store_fits s S g) ∷ []) (progressed s S g (step m (plan_at s) (at S ts))) (refusal s S) (λ y. progress_agrees r s S g (step m (plan_at s) (at S ts)) a) (λ n. a)
  step_agrees r s S (finished g q) a = a
  step_agrees r s S (broken g) a = a

  result_agrees : (r : Reading) (s : State) (S : List Sample) (k : ℕ) (u : Run) → Agrees m r s → Kept-by r (result k) (serve_result s S k u)
  result_agrees r s S k absent a = a
  result_agrees r s S k (going g ts) a = a
  result_agrees r s S k (finished g q) a = asked_cases (Kept-by r (result k)) (result_questions s S g k) (writes_result s S g q) (refusal s S) (λ y. a) (λ n. a)
  result_agrees r s S k (broken g) a = a

  close_agrees : (r : Reading) (s : State) (S : List Sample) → Agrees m r s → Kept-by r close (serve m s S close)
  close_agrees r s S a = asked_cases (Kept-by r close) (close_questions s) (ends_run s S) (refusal s S) (λ y. rerun m r s absent a) (λ n. a)

  pub serve_agrees : (r : Reading) (s : State) (S : List Sample) (c : Call) → Agrees m r s → Kept-by r c (serve m s S c)
  serve_agrees r s S (open' ps) a = open_agrees r s S ps a
  serve_agrees r s S (line k x) a = line_agrees r s S k x a
  serve_agrees r s S (enter k) a = enter_agrees r s S k a
  serve_agrees r s S (scrap k) a = scrap_agrees r s S k a
  serve_agrees r s S (withdraw g) a = withdraw_agrees r s S g a
  serve_agrees r s S (entry g) a = entry_agrees r s S g a
  serve_agrees r s S (begin g cs) a = begin_agrees r s S g cs a
  serve_agrees r s S step' a = step_agrees r s S s.run a
  serve_agrees r s S (result k) a = result_agrees r s S k s.run a
  serve_agrees r s S close a = close_agrees r s S a

  -- after an event with the answer that it was given
  pub event_agrees : (r : Reading) (s : State) (S : List Sample) (c : Call) (b : Answer) → b ≡ (serve m s S c).answer → Agrees m r s → Agrees m (read_call r c b) (serve m s S c).state
  event_agrees r s S c b e a = subst (λ (z : Answer). Agrees m (read_call r c z) (serve m s S c).state) (sym e) (serve_agrees r s S c a)

  pub leads_agrees : (h : List Event) (r : Reading) (s t : State) (S T : List Sample) → Leads m s S h t T → Agrees m r s → Agrees m (read_from r h) t
  leads_agrees [] r s t S T l a = subst (Agrees m r) l.0 a
  leads_agrees (event c b ∷ h) r s t S T l a = leads_agrees h (read_call r c b) (serve m s S c).state t (serve m s S c).store T l.1 (event_agrees r s S c b l.0 a)
