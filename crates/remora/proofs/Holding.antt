-- Every history holds that a state and store were led to by.
use Rattle.std.proofs.Common.{◌≡◌, ℕ, zero, suc, ◌+◌, ◌-◌, ◌<◌, ◌≤◌, Bool, true, false, not, ◌&&◌, eqb, ltb, leb, List, [], ◌∷◌, ◌++◌, length, Some, None, Option, sym, refl, ap, ◌∙◌, subst, inl, inr, arith}
use Rattle.std.proofs.lemmas.Bool.{and_parts, ltb-true, eqb-true, leb-true, eq-eqb, lt-ltb}
use Rattle.remora.specs.Algebras.{Sample, Meaning, Formed}
use Rattle.remora.specs.Formulas.{ArrayType, Line, Formula, Entry, TypedLine}
use Rattle.remora.specs.Questions.{Question, AllYes, Verdict, all_typed, refused_at, judge}
use Rattle.remora.specs.Forecasts.{entry_of, within_limits}
use Rattle.remora.specs.Evaluation.{Fault, Outcome, yields, faults, on_codes}
use Rattle.remora.specs.Numbers.{pick, known, eval, arguments, outcome}
use Rattle.remora.specs.Machine.{Snapshot, at, put, choose}
use Rattle.remora.specs.Calls.{Draft, shut, opened, slip_fits, draft_formula, draft_parameters, draft_lines, none, no_formula, going, State, empty, entry_at, usable_at, with_draft, with_run, line, enter, entry, begin, result, Answer, refused, number, states, is_done, fault, wrote, Reply, reply, asked, refusal, entry_questions, tells_entry, parameter_atoms, codes_fit, samples_for, needs, first_activation, begin_questions, begins_run, serve_verdict, serve}
use Rattle.remora.specs.Histories.{Event, event, Leads, Led, Reading, unread, reading, member, Turn, stepped, begun, read, closed, elsewhere, turns, Goes, Yields, Faulted, EndsAs, End, ended, end_step, end_of, Wrote, EndAlike, Enterable, Holds, EveryHistoryHolds}
use Rattle.remora.proofs.Checking.{judge_types, types_judge}
use Rattle.remora.proofs.Sizes.{known_here, known_later, eval_later}
use Rattle.remora.proofs.Regions.{put_same}
use Rattle.remora.proofs.Running.{fault_step, fault_step_later}
use Rattle.remora.proofs.Agreeing.{everywhere, choose_cases, Later, later_refl, reads_later, read_append, Agrees, agrees_empty, rerun, judged_alike, leads_agrees}
use Rattle.remora.proofs.Following.{begin_ends, Ending, Follows, begun_follows, length_samples}

-- ---- a history taken apart

record Split (m : Meaning) (s : State) (S : List Sample) (past rest : List Event) (t : State) (T : List Sample) : Type 0 where
  mid : State
  store : List Sample
  front : Leads m s S past mid store
  back : Leads m mid store rest t T

split : (m : Meaning) (past rest : List Event) (s t : State) (S T : List Sample) → Leads m s S (past ++ rest) t T → Split m s S past rest t T
split m [] rest s t S T l = record { mid = s; store = S; front = (refl, refl); back = l }
split m (event c a ∷ past) rest s t S T l =
    let u = split m past rest (serve m s S c).state t (serve m s S c).store T l.1 in
    record { mid = u.mid; store = u.store; front = (l.0, u.front); back = u.back }

-- ---- an answer that no refusal gives: every question got a yes

asked_yes : (a : Answer) (qs : List Question) (z : Reply) (s : State) (S : List Sample) → ((n : ℕ) → a ≡ refused n None → ⊥) → a ≡ (asked qs z (refusal s S)).answer
    → AllYes qs × (asked qs z (refusal s S) ≡ z)
unfolding choose
asked_yes a [] z s S non e = (tt, refl)
asked_yes a (q ∷ qs) z s S non e = go q.1 refl e (asked_yes a qs z s S non)
  where
    go : (b : Bool) → q.1 ≡ b → a ≡ (choose b (asked qs z (refusal s S)) (refusal s S q.0)).answer → (a ≡ (asked qs z (refusal s S)).answer → AllYes qs × (asked qs z (refusal s S) ≡ z))
        → AllYes (q ∷ qs) × (asked (q ∷ qs) z (refusal s S) ≡ z)
    go true e₁ e ih = let u = ih e in ((e₁, u.0), rw e₁ u.1)
    go false e₁ e ih = absurd (non q.0 e)

number_refused : (n k : ℕ) (o : Option ℕ) → number n ≡ refused k o → ⊥
number_refused n k o e = let z : ◌≡◌ {A = ℕ} 0 1 = cc in omega arith

-- ---- how a run that goes so ends, and what it writes

goes_end : (last : Answer) (after : List Turn → Type 0) → ((k : ℕ) (same more : End) → end_step k last same more ≡ ended (suc k) last) → (h : List Turn) (j i k : ℕ) (a : Answer) → Goes j last after h
    → end_of i h ≡ ended k a → (k ≡ suc (i + j)) × (a ≡ last)
goes_end last after fin [] j i k a g e = let z : ◌≡◌ {A = ℕ} 0 1 = cc in absurd (omega arith)
goes_end last after fin (stepped c ∷ h) zero i k a g e =
    let u : ended (suc i) last ≡ ended k a = sym (fin i (end_of i h) (end_of (suc i) h)) ∙ ap (λ (x : Answer). end_step i x (end_of i h) (end_of (suc i) h)) (sym g.0) ∙ e in
    let v : suc i ≡ k = cc in
    let w : last ≡ a = cc in
    (omega arith, sym w)
goes_end last after fin (stepped c ∷ h) (suc j) i k a g e =
    let u : end_of (suc i) h ≡ ended k a = ap (λ (x : Answer). end_step i x (end_of i h) (end_of (suc i) h)) (sym g.0) ∙ e in
    let v = goes_end last after fin h j (suc i) k a g.1 u in
    (let w = v.0 in omega arith, v.1)
goes_end last after fin (begun c ∷ h) j i k a g e = goes_end last after fin h j i k a g.1 e
goes_end last after fin (read n c ∷ h) j i k a g e = goes_end last after fin h j i k a g.1 e
goes_end last after fin (closed c ∷ h) j i k a g e = let z : ◌≡◌ {A = ℕ} 0 1 = cc in absurd (omega arith)
goes_end last after fin (elsewhere ∷ h) j i k a g e = goes_end last after fin h j i k a g e

refused_wrote : (c : Answer) (n : ℕ) (ys : List ℕ) → c ≡ refused n None → c ≡ wrote ys → ⊥
refused_wrote c n ys e u = let v : refused n None ≡ wrote ys = sym e ∙ u in let z : ◌≡◌ {A = ℕ} 0 1 = cc in omega arith

goes_wrote : (last : Answer) (after : List Turn → Type 0) (ys : List ℕ) (P : Type 0) → ((h : List Turn) → after h → Wrote ys h → P) → (h : List Turn) (j : ℕ) → Goes j last after h → Wrote ys h → P
goes_wrote last after ys P f [] j g w = absurd w
goes_wrote last after ys P f (stepped c ∷ h) zero g w = f h g.1 w
goes_wrote last after ys P f (stepped c ∷ h) (suc j) g w = goes_wrote last after ys P f h j g.1 w
goes_wrote last after ys P f (begun c ∷ h) j g w = goes_wrote last after ys P f h j g.1 w
goes_wrote last after ys P f (read n c ∷ h) j g (inl e) = absurd (refused_wrote c 20 ys g.0 e)
goes_wrote last after ys P f (read n c ∷ h) j g (inr w) = goes_wrote last after ys P f h j g.1 w
goes_wrote last after ys P f (closed c ∷ h) j g w = absurd w
goes_wrote last after ys P f (elsewhere ∷ h) j g w = goes_wrote last after ys P f h j g w

picked_wrote : (b : Bool) (ys zs : List ℕ) → pick b (wrote zs) (refused 21 None) ≡ wrote ys → ys ≡ zs
picked_wrote true ys zs e = let z : zs ≡ ys = cc in sym z
picked_wrote false ys zs e = let z : ◌≡◌ {A = ℕ} 0 1 = cc in absurd (omega arith)

yields_wrote : (zs ys : List ℕ) (h : List Turn) → Yields zs h → Wrote ys h → ys ≡ zs
yields_wrote zs ys [] y w = absurd w
yields_wrote zs ys (stepped c ∷ h) y w = yields_wrote zs ys h y.1 w
yields_wrote zs ys (begun c ∷ h) y w = yields_wrote zs ys h y.1 w
yields_wrote zs ys (read n c ∷ h) y (inl e) = picked_wrote (leb (length zs) n) ys zs (sym y.0 ∙ e)
yields_wrote zs ys (read n c ∷ h) y (inr w) = yields_wrote zs ys h y.1 w
yields_wrote zs ys (closed c ∷ h) y w = absurd w
yields_wrote zs ys (elsewhere ∷ h) y w = yields_wrote zs ys h y w

faulted_wrote : (ys : List ℕ) (h : List Turn) → Faulted h → Wrote ys h → ⊥
faulted_wrote ys [] y w = w
faulted_wrote ys (stepped c ∷ h) y w = faulted_wrote ys h y.1 w
faulted_wrote ys (begun c ∷ h) y w = faulted_wrote ys h y.1 w
faulted_wrote ys (read n c ∷ h) y (inl e) = refused_wrote c 20 ys y.0 e
faulted_wrote ys (read n c ∷ h) y (inr w) = faulted_wrote ys h y.1 w
faulted_wrote ys (closed c ∷ h) y w = w
faulted_wrote ys (elsewhere ∷ h) y w = faulted_wrote ys h y w

-- ---- the draft that is entered

nonempty : (ls : List Line) → (ls ≡ [] → ⊥) → none ls ≡ false
nonempty [] h = absurd (h refl)
nonempty (l ∷ ls) h = refl

module _ (m : Meaning) (r : Reading) (s : State) (S : List Sample) (agrees : Agrees m r s) (k : ℕ) (ps : List ArrayType) (ls : List Line) (draft-is : r.draft ≡ opened k ps ls) (some : ls ≡ [] → ⊥) where
  abbrev live : ℕ → Bool
  live g = not (member g r.withdrawn)

  abbrev judged : Verdict
  judged = judge m (length r.formulas) (known m r.formulas) live ps [] ls

  enter_is : serve m s S (enter k) ≡ choose (ltb (length s.formulas) 64) (serve_verdict m s S (record { parameters = ps; lines = ls }) judged) (reply (refused 6 None) (with_draft s shut) S)
  unfolding choose
  enter_is =
      ap (λ (d : Draft). choose (slip_fits d k) (choose (not (none (draft_lines d)) && ltb (length s.formulas) 64)
      (serve_verdict m s S (draft_formula d) (judge m (length s.formulas) (entry_at s) (usable_at s) (draft_parameters d) [] (draft_lines d))) (reply (refused 6 None) (with_draft s shut) S)) (refusal s S 3)) (agrees.draft ∙ draft-is)
      ∙ rw (eq-eqb k k refl, nonempty ls some, judged_alike m r s agrees ps ls)

  entry_is : (rs : List TypedLine) → entry_of (entry_at s) ps rs ≡ entry_of (known m r.formulas) ps rs
  entry_is rs = ap (λ (E : ℕ → Entry). entry_of E ps rs) (everywhere (entry_at s) (known m r.formulas) agrees.entries)

  abbrev Entered : ℕ → Type 0
  Entered n = (n ≡ length r.formulas) × ((rs : List TypedLine) × Enterable m r ps ls rs × (known m (record { parameters = ps; lines = ls } ∷ r.formulas) n ≡ entry_of (known m r.formulas) ps rs))

  verdict_only : (n : ℕ) (v : Verdict) → judged ≡ v → length r.formulas < 64 → number n ≡ (serve_verdict m s S (record { parameters = ps; lines = ls }) v).answer → Entered n
  verdict_only n (all_typed rs) j space e =
      choose_cases (λ (z : Reply). number n ≡ z.answer → Entered n) (within_limits (entry_of (entry_at s) ps rs)) _ _
      (λ w e.
      let n-is : n ≡ length s.formulas = cc in
      let t = judge_types m (length r.formulas) (known m r.formulas) live ps [] ls rs j in
      let rs-is = (types_judge m (length r.formulas) (known m r.formulas) live ps [] ls rs t).1 in (
        n-is ∙ agrees.count,
        (
          rs,
          record { space = space; typed = t; within = ap within_limits (sym (entry_is rs)) ∙ w },
          ap (known m (record { parameters = ps; lines = ls } ∷ r.formulas)) (n-is ∙ agrees.count) ∙ known_here m (record { parameters = ps; lines = ls }) r.formulas ∙ ap (entry_of (known m r.formulas) ps) (sym rs-is),
        ),
      ))
      (λ w e. absurd (number_refused n 14 None e)) e
  verdict_only n (refused_at q i) j space e = absurd (number_refused n q (Some i) e)

  enters_only : (n : ℕ) → number n ≡ (serve m s S (enter k)).answer → Entered n
  enters_only n e =
      choose_cases (λ (z : Reply). number n ≡ z.answer → Entered n) (ltb (length s.formulas) 64) (serve_verdict m s S (record { parameters = ps; lines = ls }) judged) (reply (refused 6 None) (with_draft s shut) S)
      (λ w e. verdict_only n judged refl (let c = agrees.count in let x = ltb-true _ _ w in omega arith) e)
      (λ w e. absurd (number_refused n 6 None e))
      (e ∙ ap (λ (z : Reply). z.answer) enter_is)

  enters_always : (rs : List TypedLine) → Enterable m r ps ls rs → (serve m s S (enter k)).answer ≡ number (length r.formulas)
  unfolding choose
  enters_always rs x =
      let j : judged ≡ all_typed rs = (types_judge m (length r.formulas) (known m r.formulas) live ps [] ls rs x.typed).0 in
      let c : ltb (length s.formulas) 64 ≡ true = lt-ltb _ _ (let n = agrees.count in let y = x.space in omega arith) in
      let w : within_limits (entry_of (entry_at s) ps rs) ≡ true = ap within_limits (entry_is rs) ∙ x.within in
      ap (λ (z : Reply). z.answer) enter_is
      ∙ ap (λ (b : Bool). (choose b (serve_verdict m s S (record { parameters = ps; lines = ls }) judged) (reply (refused 6 None) (with_draft s shut) S)).answer) c
      ∙ ap (λ (v : Verdict). (serve_verdict m s S (record { parameters = ps; lines = ls }) v).answer) j
      ∙ rw w (ap number agrees.count)

-- ---- the law

module _ (m : Meaning) (formed : Formed m) (h : List Event) (t : State) (T : List Sample) (led : Led m h t T) where
  halves : (past rest : List Event) → h ≡ past ++ rest → Split m empty led.0 past rest t T
  halves past rest e = split m past rest empty t led.0 T (subst (λ (k : List Event). Leads m empty led.0 k t T) e led.1)

  agrees_at : (past rest : List Event) (e : h ≡ past ++ rest) → Agrees m (reading past) (halves past rest e).mid
  agrees_at past rest e = leads_agrees m past unread empty (halves past rest e).mid led.0 (halves past rest e).store (halves past rest e).front (agrees_empty m)

  -- the formulas behind the numbers in a part of the history stand further down in the whole
  later_whole : (past rest : List Event) → h ≡ past ++ rest → Later (reading past).formulas (reading h).formulas
  later_whole past rest e = subst (λ (r : Reading). Later (reading past).formulas r.formulas) (sym (ap reading e ∙ read_append unread past rest)) (reads_later (reading past) rest)

  -- what is known, and what comes out, by the formulas of the whole history
  known_whole : (past rest : List Event) → h ≡ past ++ rest → (g : ℕ) → g < length (reading past).formulas → known m (reading past).formulas g ≡ known m (reading h).formulas g
  known_whole past rest e g l = let o = later_whole past rest e in sym (ap (λ (fs : List Formula). known m fs g) o.1 ∙ known_later m (reading past).formulas o.0 g l)

  -- a begin that was accepted
  record Begun (fs : List Formula) (g : ℕ) (cs : List ℕ) (s : ℕ) (future : List Event) : Type 0 where
    entered : g < length fs
    forecast : s ≡ (known m fs g).steps
    some : 1 ≤ s
    ends : EndsAs m s (known m fs g).result (outcome m fs g cs) (turns future)
    follows : Follows m formed fs g entered (fault_step m fs g (arguments (known m fs g).parameters (samples_for (known m fs g).parameters cs))) (outcome m fs g cs) (turns future)

  ends_as : (fs : List Formula) (g : ℕ) (l : g < length fs) (j : ℕ) (x : Outcome ℕ) (u : Snapshot) (future : List Turn) → Ending m formed fs g l j u x → Follows m formed fs g l j x future
      → EndsAs m (known m fs g).steps (known m fs g).result x future
  ends_as fs g l j (yields ys) u future (f, long, inb) go = (go, long, inb)
  ends_as fs g l j (faults x) u future (f, own) go = (j, f.early, go, own)

  begun_at : (past future : List Event) (g : ℕ) (cs : List ℕ) (s : ℕ) → h ≡ past ++ event (begin g cs) (number s) ∷ future → Begun (reading past).formulas g cs s future
  begun_at past future g cs s e =
      record {
        entered = l;
        forecast = s_is;
        some = subst (λ (i : ℕ). 1 ≤ i) (sym s_is) story.0;
        ends = subst (λ (i : ℕ). EndsAs m i (known m fs g).result (outcome m fs g cs) (turns future)) (sym s_is) (ends_as fs g l _ (outcome m fs g cs) _ (turns future) story.1 go);
        follows = go;
      }
    where
      cut : Split m empty led.0 past (event (begin g cs) (number s) ∷ future) t T
      cut = halves past (event (begin g cs) (number s) ∷ future) e

      u : State
      u = cut.mid

      U : List Sample
      U = cut.store

      fs : List Formula
      fs = (reading past).formulas

      a : Agrees m (reading past) u
      a = agrees_at past (event (begin g cs) (number s) ∷ future) e

      taken : AllYes (begin_questions m u U g cs) × (asked (begin_questions m u U g cs) (begins_run u U g cs) (refusal u U) ≡ begins_run u U g cs)
      taken = asked_yes (number s) (begin_questions m u U g cs) (begins_run u U g cs) u U (λ n. number_refused s n None) cut.back.0

      x_is : entry_at u g ≡ known m fs g
      x_is = a.entries g

      l : g < length fs
      l = let c = a.count in let y = ltb-true g (length u.formulas) (and_parts _ _ taken.0.1.0).0 in omega arith

      len : length cs ≡ parameter_atoms (known m fs g).parameters
      len = eqb-true _ _ (and_parts (eqb (length cs) (parameter_atoms (entry_at cut.mid g).parameters)) (codes_fit m.holds (entry_at cut.mid g).parameters cs) taken.0.1.1.0).0 ∙ ap (λ (x : Entry). parameter_atoms x.parameters) x_is

      right : codes_fit m.holds (known m fs g).parameters cs ≡ true
      right = ap (λ (x : Entry). codes_fit m.holds x.parameters cs) (sym x_is) ∙ (and_parts (eqb (length cs) (parameter_atoms (entry_at cut.mid g).parameters)) (codes_fit m.holds (entry_at cut.mid g).parameters cs) taken.0.1.1.0).1

      room : needs (known m fs g) ≤ length U
      room = subst (λ (x : Entry). needs x ≤ length U) x_is (leb-true _ _ taken.0.1.1.1.0)

      z : serve m u U (begin g cs) ≡ reply (number (known m fs g).steps) (with_run u (going g (first_activation (known m fs g) g ∷ []))) (put U 0 (samples_for (known m fs g).parameters cs))
      z = taken.1 ∙ ap (λ (x : Entry). reply (number x.steps) (with_run u (going g (first_activation x g ∷ []))) (put U 0 (samples_for x.parameters cs))) x_is

      s_is : s ≡ (known m fs g).steps
      s_is = let y : number s ≡ number (known m fs g).steps = cut.back.0 ∙ ap (λ (x : Reply). x.answer) z in cc

      story : (1 ≤ (known m fs g).steps) × Ending m formed fs g l (fault_step m fs g (arguments (known m fs g).parameters (samples_for (known m fs g).parameters cs)))
          (at (put U 0 (samples_for (known m fs g).parameters cs)) (first_activation (known m fs g) g ∷ [])) (outcome m fs g cs)
      story = begin_ends m formed fs g l a.typed U cs len right room

      room' : needs (known m fs g) ≤ length (put U 0 (samples_for (known m fs g).parameters cs))
      room' =
          let n = length_samples (known m fs g).parameters cs len in
          let enough : needs (known m fs g) ≤ length U = room in
          let y = (put_same 0 (length U) U 0 (samples_for (known m fs g).parameters cs) (omega arith) (omega arith) (omega arith)).long in
          omega arith

      go : Follows m formed fs g l (fault_step m fs g (arguments (known m fs g).parameters (samples_for (known m fs g).parameters cs))) (outcome m fs g cs) (turns future)
      go = begun_follows m formed fs g l _ (outcome m fs g cs) future (reading past) (with_run u (going g (first_activation (known m fs g) g ∷ []))) t (put U 0 (samples_for (known m fs g).parameters cs)) T
          (first_activation (known m fs g) g ∷ []) (subst (λ (x : Reply). Leads m x.state x.store future t T) z cut.back.1) (rerun m (reading past) u _ a) (later_refl fs) refl room' story.1

  -- equal outcomes after equally many steps end alike
  follows_alike : (n j : ℕ) (x : Outcome ℕ) (h₁ h₂ : List Turn) (F : Outcome ℕ → List Turn → Type 0)
      → ((k : List Turn) (ys : List ℕ) → F (yields ys) k → Goes n is_done (Yields ys) k) → ((k : List Turn) (y : Fault ℕ) → F (faults y) k → Goes j (fault y.cause y.formula y.line y.cell) Faulted k)
      → F x h₁ → F x h₂ → EndAlike h₁ h₂
  follows_alike n j (yields ys) h₁ h₂ F f₁ f₂ a b =
      record {
        ends = λ k₁ k₂ a₁ a₂ e₁ e₂.
            let u = goes_end is_done (Yields ys) (λ k s q. refl) h₁ n 0 k₁ a₁ (f₁ h₁ ys a) e₁ in
            let v = goes_end is_done (Yields ys) (λ k s q. refl) h₂ n 0 k₂ a₂ (f₁ h₂ ys b) e₂ in
            (u.0 ∙ sym v.0, u.1 ∙ sym v.1);
        writes = λ zs ws w₁ w₂.
            goes_wrote is_done (Yields ys) zs (zs ≡ ys) (λ k y w. yields_wrote ys zs k y w) h₁ n (f₁ h₁ ys a) w₁
            ∙ sym (goes_wrote is_done (Yields ys) ws (ws ≡ ys) (λ k y w. yields_wrote ys ws k y w) h₂ n (f₁ h₂ ys b) w₂);
      }
  follows_alike n j (faults y) h₁ h₂ F f₁ f₂ a b =
      record {
        ends = λ k₁ k₂ a₁ a₂ e₁ e₂.
            let u = goes_end (fault y.cause y.formula y.line y.cell) Faulted (λ k s q. refl) h₁ j 0 k₁ a₁ (f₂ h₁ y a) e₁ in
            let v = goes_end (fault y.cause y.formula y.line y.cell) Faulted (λ k s q. refl) h₂ j 0 k₂ a₂ (f₂ h₂ y b) e₂ in
            (u.0 ∙ sym v.0, u.1 ∙ sym v.1);
        writes = λ zs ws w₁ w₂. absurd (goes_wrote (fault y.cause y.formula y.line y.cell) Faulted zs ⊥ (λ k x w. faulted_wrote zs k x w) h₁ j (f₂ h₁ y a) w₁);
      }

  -- what follows a begin, by the formulas of the whole history
  abbrev Whole : ℕ → List ℕ → Outcome ℕ → List Turn → Type 0
  Whole g cs (yields ys) k = Goes ((known m (reading h).formulas g).steps - 1) is_done (Yields ys) k
  Whole g cs (faults x) k = Goes (fault_step m (reading h).formulas g (arguments (known m (reading h).formulas g).parameters (samples_for (known m (reading h).formulas g).parameters cs)))
      (fault x.cause x.formula x.line x.cell) Faulted k

  whole : (past future : List Event) (g : ℕ) (cs : List ℕ) (s : ℕ) → h ≡ past ++ event (begin g cs) (number s) ∷ future → Whole g cs (outcome m (reading h).formulas g cs) (turns future)
  whole past future g cs s e = go (outcome m fs g cs) (outcome m (reading h).formulas g cs) outcome_is b.follows
    where
      fs : List Formula
      fs = (reading past).formulas

      b : Begun (reading past).formulas g cs s future
      b = begun_at past future g cs s e

      x_is : known m fs g ≡ known m (reading h).formulas g
      x_is = known_whole past (event (begin g cs) (number s) ∷ future) e g b.entered

      o : Later fs (reading h).formulas
      o = later_whole past (event (begin g cs) (number s) ∷ future) e

      outcome_is : outcome m fs g cs ≡ outcome m (reading h).formulas g cs
      outcome_is =
          ap (λ (x : Entry). eval m (on_codes m) fs g (arguments x.parameters cs)) x_is
          ∙ sym (ap (λ (gs : List Formula). eval m (on_codes m) gs g (arguments (known m (reading h).formulas g).parameters cs)) o.1 ∙ eval_later m (on_codes m) fs o.0 g _ b.entered)

      fault_is : fault_step m fs g (arguments (known m fs g).parameters (samples_for (known m fs g).parameters cs))
          ≡ fault_step m (reading h).formulas g (arguments (known m (reading h).formulas g).parameters (samples_for (known m (reading h).formulas g).parameters cs))
      fault_is =
          ap (λ (x : Entry). fault_step m fs g (arguments x.parameters (samples_for x.parameters cs))) x_is
          ∙ sym (ap (λ (gs : List Formula). fault_step m gs g (arguments (known m (reading h).formulas g).parameters (samples_for (known m (reading h).formulas g).parameters cs))) o.1 ∙ fault_step_later m fs o.0 g _ b.entered)

      go : (x y : Outcome ℕ) → x ≡ y → Follows m formed fs g b.entered (fault_step m fs g (arguments (known m fs g).parameters (samples_for (known m fs g).parameters cs))) x (turns future) → Whole g cs y (turns future)
      go x y q w = subst (λ (z : Outcome ℕ). Whole g cs z (turns future)) q (same x w)
        where
          same : (z : Outcome ℕ) → Follows m formed fs g b.entered (fault_step m fs g (arguments (known m fs g).parameters (samples_for (known m fs g).parameters cs))) z (turns future) → Whole g cs z (turns future)
          same (yields ys) w = subst (λ (v : Entry). Goes (v.steps - 1) is_done (Yields ys) (turns future)) x_is w
          same (faults v) w = subst (λ (i : ℕ). Goes i (fault v.cause v.formula v.line v.cell) Faulted (turns future)) fault_is w

  -- an entry that was told
  told : (past future : List Event) (g : ℕ) (x : Entry) (w : Bool) → h ≡ past ++ event (entry g) (states x w) ∷ future
      → (g < length (reading past).formulas) × (x ≡ known m (reading past).formulas g) × (w ≡ member g (reading past).withdrawn)
  told past future g x w e =
      let cut = halves past (event (entry g) (states x w) ∷ future) e in
      let a = agrees_at past (event (entry g) (states x w) ∷ future) e in
      let taken = asked_yes (states x w) (entry_questions cut.mid g) (tells_entry cut.mid cut.store g) cut.mid cut.store (λ n q. let z : ◌≡◌ {A = ℕ} 0 1 = cc in omega arith) cut.back.0 in
      let same : states x w ≡ states (entry_at cut.mid g) (Rattle.remora.specs.Calls.Kept.withdrawn (lib.ListN.get_or cut.mid.formulas g no_formula)) = cut.back.0 ∙ ap (λ (z : Reply). z.answer) taken.1 in
      let x_is : x ≡ entry_at cut.mid g = cc in
      let w-is : w ≡ (lib.ListN.get_or cut.mid.formulas g no_formula).withdrawn = cc in
      let c = a.count in
      let y = ltb-true g (length cut.mid.formulas) taken.0.0 in
      (omega arith, x_is ∙ a.entries g, w-is ∙ a.marks g)

  pub holds : Holds m h
  holds = record {
    runs = λ past future g cs s e. let b = begun_at past future g cs s e in record { entered = b.entered; forecast = b.forecast; some = b.some; ends = b.ends };
    alike = λ past₁ future₁ past₂ future₂ g cs s₁ s₂ e₁ e₂.
        follows_alike ((known m (reading h).formulas g).steps - 1) (fault_step m (reading h).formulas g (arguments (known m (reading h).formulas g).parameters (samples_for (known m (reading h).formulas g).parameters cs)))
        (outcome m (reading h).formulas g cs) (turns future₁) (turns future₂) (Whole g cs) (λ k ys x. x) (λ k y x. x) (whole past₁ future₁ g cs s₁ e₁) (whole past₂ future₂ g cs s₂ e₂);
    entries = λ past future g x w e. told past future g x w e;
    constant = λ past₁ future₁ past₂ future₂ g x₁ x₂ w₁ w₂ e₁ e₂.
        let u = told past₁ future₁ g x₁ w₁ e₁ in
        let v = told past₂ future₂ g x₂ w₂ e₂ in
        u.1 ∙ known_whole past₁ _ e₁ g u.0 ∙ sym (v.1 ∙ known_whole past₂ _ e₂ g v.0);
    enters = λ past future k a ps ls e d some.
        let cut = halves past (event (enter k) a ∷ future) e in
        let ag = agrees_at past (event (enter k) a ∷ future) e in
        record {
          only = λ n q. enters_only m (reading past) cut.mid cut.store ag k ps ls d some n (sym q ∙ cut.back.0);
          always = λ rs x. cut.back.0 ∙ enters_always m (reading past) cut.mid cut.store ag k ps ls d some rs x;
        };
  }

pub every_history_holds : EveryHistoryHolds
every_history_holds m formed h s S led = holds m formed h s S led
