-- A draft that is entered, or refused from question 6 on.
use Rattle.std.proofs.Common.{◌≡◌, ℕ, ◌+◌, ◌<◌, ◌≤◌, Bool, true, false, cond, not, ◌&&◌, ltb, ◌⊎◌, List, [], ◌∷◌, ◌++◌, length, take, Some, None, Ok, Err, Result, sym, refl, ap, ◌∙◌, inl, inr, arith, length-take-le}
use Rattle.std.proofs.lemmas.List.{take-take}
use Rattle.std.proofs.lemmas.Bool.{cases_Bool, and_from, and_left, and_right, and_parts, eq-eqb, lt-ltb, le-ltb}
use Rattle.remora.specs.Algebras.{Meaning, Sample}
use Rattle.remora.specs.Formulas as theory
use Rattle.remora.specs.Questions.{Verdict, all_typed, refused_at, judge}
use Rattle.remora.specs.Forecasts.{within_limits}
use Rattle.remora.specs.Forecasts.{entry_of as entry_for}
use Rattle.remora.specs.Machine.{plans, choose}
use Rattle.remora.specs.Calls as calls
use Rattle.remora.specs.Calls.{State, Reply, reply, serve, enter, Answer, refused, number, slip_fits, opened, none, serve_verdict, draft_formula, draft_parameters, draft_lines, with_draft, entry_at, usable_at, kept_as, Kept}
use Rattle.lines.specs.declared.refusals.Refusal.{Refusal}
use Rattle.lines.specs.declared.refusals.Refusal.TheVariants.{NotEnterable}
use Rattle.lines.specs.Refusals.{answer_of}
use Rattle.typing.specs.declared.found.Entry.{Entry}
use Rattle.typing.specs.Typings.{types_of}
use Rattle.typing.specs.Plans.{known_in, usable_in}
use Rattle.checker.specs.declared.rows.Row.{Row}
use Rattle.checker.specs.declared.drafts.Draft.{Draft}
use Rattle.checker.specs.declared.tables.Tables.{Tables}
use Rattle.checker.specs.Views.{draft_of, lines_in, plans_in, kept_with, formulas_of}
use Rattle.checker.specs.Changes.{dropped, kept}
use Rattle.checker.specs.Sound.{sound, within, coded}
use Rattle.checker.specs.Checking.{verdict, refusal_of, DraftChecked}
use Rattle.checker.proofs.Viewing.{lines_length, lines_same, lines_given, plans_same, coded_given, kept_length, kept_entry, kept_mark, kept_more}
use Rattle.checker.proofs.Sounding.{parts, dropped_sound, dropped_other, kept_sound}
use Rattle.collection.specs.States.{state_with}
use Rattle.collection.specs.Promises.{Entered}
use Rattle.collection.proofs.Serving.{choose_yes, choose_no, slip_open, draft_open, taken, count_is}

module _ (m : Meaning) (d : Draft) (t : Tables) (s : sound d t ≡ true) where
  abbrev es : List Entry
  es = take t.count t.entries

  abbrev ps : List theory.ArrayType
  ps = types_of (take d.parameters.count d.parameters.all)

  abbrev ls : List theory.Line
  ls = lines_in d.codes (take d.height d.rows)

  -- what is known of the formulas, and which may be called, at every number
  known_is : (n : ℕ) → entry_at (state_with n d t) ≡ known_in es
  known_is n = λ i g. kept_entry t.rows t.codes es (take t.count t.extents) g (taken d t (parts d t s)) i

  usable_is : (n : ℕ) → usable_at (state_with n d t) ≡ usable_in es
  usable_is n = λ i g. not (kept_mark t.rows t.codes es (take t.count t.extents) g (taken d t (parts d t s)) i)

  -- as many formulas as are known
  many : length (formulas_of t) ≡ length es
  many = kept_length t.rows t.codes es (take t.count t.extents) (taken d t (parts d t s))

  -- enter, once its slip fits
  enter_is : (n k : ℕ) → slip_fits (draft_of d) k ≡ true → (S : List Sample)
      → serve m (state_with n d t) S (enter k)
      ≡ choose (not (none ls) && ltb t.count 64) (serve_verdict m (state_with n d t) S (record { parameters = ps; lines = ls }) (verdict m es ps [] ls)) (reply (refused 6 None) (with_draft (state_with n d t) calls.shut) S)
  enter_is n k h S =
      let here = draft_open d k (slip_open d k h) in
      choose_yes (slip_fits (draft_of d) k) _ _ h
      ∙ ap (λ (z : calls.Draft). choose (not (none (draft_lines z)) && ltb (length (formulas_of t)) 64)
      (serve_verdict m (state_with n d t) S (draft_formula z) (judge m (length (formulas_of t)) (entry_at (state_with n d t)) (usable_at (state_with n d t)) (draft_parameters z) [] (draft_lines z)))
      (reply (refused 6 None) (with_draft (state_with n d t) calls.shut) S)) here
      ∙ (λ i. choose (not (none ls) && ltb (count_is d t s i) 64)
      (serve_verdict m (state_with n d t) S (record { parameters = ps; lines = ls }) (judge m (many i) (known_is n i) (usable_is n i) ps [] ls))
      (reply (refused 6 None) (with_draft (state_with n d t) calls.shut) S))

  -- no lines, or too many formulas
  pub enter_not : (not (none ls) && ltb t.count 64) ≡ false → Entered m d t (Err NotEnterable) d t
  enter_not h = record {
    exact = λ n k f S. enter_is n k f S ∙ choose_no (not (none ls) && ltb t.count 64) _ _ h;
    stays = dropped_sound d t s;
  }

  -- a refusal for the verdict
  verdict_refused : (n : ℕ) (S : List Sample) (v : Verdict) (a : Answer) → refusal_of (known_in es) ps v ≡ Some a
      → serve_verdict m (state_with n d t) S (record { parameters = ps; lines = ls }) v ≡ reply a (with_draft (state_with n d t) calls.shut) S
  verdict_refused n S (refused_at q k) a e = ap (λ (z : Answer). reply z (with_draft (state_with n d t) calls.shut) S) (some_same e)
    where
      some_same : {X : Type 0} {x y : X} → Some x ≡ Some y → x ≡ y
      some_same z = cc
  verdict_refused n S (all_typed rs) a e = go (cases_Bool (within_limits (entry_for (known_in es) ps rs)))
    where
      go : (within_limits (entry_for (known_in es) ps rs) ≡ true) ⊎ (within_limits (entry_for (known_in es) ps rs) ≡ false)
          → serve_verdict m (state_with n d t) S (record { parameters = ps; lines = ls }) (all_typed rs) ≡ reply a (with_draft (state_with n d t) calls.shut) S
      go (inl w) = let z : None ≡ Some a = sym (ap (λ (b : Bool). cond b None (Some (refused 14 None))) w) ∙ e in let y : ◌≡◌ {A = ℕ} 0 1 = cc in absurd (omega arith)
      go (inr w) =
          let z : Some (refused 14 None) ≡ Some a = sym (ap (λ (b : Bool). cond b None (Some (refused 14 None))) w) ∙ e in
          let same : refused 14 None ≡ a = cc in
          choose_no (within_limits (entry_for (entry_at (state_with n d t)) ps rs)) _ _ (ap (λ (E : ℕ → theory.Entry). within_limits (entry_for E ps rs)) (known_is n) ∙ w)
          ∙ ap (λ (x : Answer). reply x (with_draft (state_with n d t) calls.shut) S) same

  -- the lines are refused, or the forecasts are beyond the limits
  pub enter_refused : (u : Draft) (x : Refusal) → (not (none ls) && ltb t.count 64) ≡ true → DraftChecked m es d (Err x) u → Entered m d t (Err x) u t
  enter_refused u x h c = record {
    exact = λ n k f S. enter_is n k f S ∙ choose_yes (not (none ls) && ltb t.count 64) _ _ h ∙ verdict_refused n S (verdict m es ps [] ls) (answer_of x) c.told;
    stays = ap (λ (z : Draft). sound (dropped z) t) c.same ∙ dropped_other d t u.rows (dropped_sound d t s) c.long;
  }

  -- the draft is entered
  pub enter_kept : (u : Draft) (e : Entry) (v : Tables) → (not (none ls) && ltb t.count 64) ≡ true → t.count < 64 → DraftChecked m es d (Ok e) u
      → v ≡ kept t e (take u.height u.rows) (take u.width u.codes) → Entered m d t (Ok t.count) u v
  enter_kept u e v h few c is =
      let q = parts d t s in
      let long = q.long in
      let small = q.draft.few in
      let rows : List Row = take d.height u.rows in
      let codes : List ℕ = take d.width d.codes in
      let a = c.told in
      let f : theory.Formula = record { parameters = ps; lines = ls } in
      let v-is : v ≡ kept t e rows codes = is ∙ (λ i. kept t e (take (c.same i).height u.rows) (take (c.same i).width (c.same i).codes)) in
      let own : coded d.width rows ≡ true = coded_given d.width rows (take d.height d.rows) c.given ∙ and_from (within d.width (take d.height d.rows)) _ q.draft.inside (eq-eqb _ _ q.draft.total) in
      let inside : within d.width rows ≡ true = (and_parts (within d.width rows) _ own).0 in
      let alike : take d.width codes ≡ take d.width d.codes = take-take d.width d.width d.codes (omega arith) in
      let lines_are : lines_in codes rows ≡ ls = lines_same codes d.codes d.width rows alike inside ∙ lines_given d.codes rows (take d.height d.rows) c.given in
      let plans-are : plans_in codes rows ≡ plans m (known_in es) [] 0 a.typed = plans_same codes d.codes d.width rows alike inside ∙ a.planned in
      let tall : length rows ≡ d.height = length-take-le d.height u.rows (omega (arith, c.long)) in
      let wide : length codes ≡ d.width = length-take-le d.width d.codes (let w = q.codes in omega arith) in
      let kept-is : (n : ℕ) → kept_with e rows codes ≡ kept_as m (entry_at (state_with n d t)) f a.typed =
      λ n i. record {
        formula = record { parameters = (a.limited.1 i).parameters; lines = lines_are i };
        entry = (a.limited.1 ∙ ap (λ (E : ℕ → theory.Entry). entry_for E ps a.typed) (sym (known_is n))) i;
        plan = (plans-are ∙ ap (λ (E : ℕ → theory.Entry). plans m E [] 0 a.typed) (sym (known_is n))) i;
        withdrawn = a.limited.2 i;
      } in
      let formulas-are : (n : ℕ) → formulas_of v ≡ formulas_of t ++ kept_as m (entry_at (state_with n d t)) f a.typed ∷ [] =
      λ n. ap formulas_of v-is ∙ kept_more t e rows codes long.entries long.extents (let w = q.rows in omega arith) (let w = q.codes in omega arith) few q.tables.stand
      ∙ ap (λ (k : Kept). formulas_of t ++ k ∷ []) (kept-is n) in
      record {
        exact = λ n k fits S.
            enter_is n k fits S
            ∙ choose_yes (not (none ls) && ltb t.count 64) _ _ h
            ∙ ap (serve_verdict m (state_with n d t) S f) a.judged
            ∙ choose_yes (within_limits (entry_for (entry_at (state_with n d t)) ps a.typed)) _ _ (ap (λ (E : ℕ → theory.Entry). within_limits (entry_for E ps a.typed)) (known_is n) ∙ a.limited.0)
            ∙ (λ i. reply (number (count_is d t s i)) (record { serials = n; draft = calls.shut; formulas = sym (formulas-are n) i; run = calls.absent }) S);
        stays =
            (λ i. sound (dropped (c.same i)) (v-is i))
            ∙ dropped_other d (kept t e rows codes) u.rows
            (kept_sound d t e rows codes s few (let w = q.rows in omega arith) (let w = q.codes in omega arith) (ap (λ (k : ℕ). coded k rows) wide ∙ own)) c.long;
      }

  -- ---- questions 6 and on, by the numbers of the draft and the tables

  none_some : {X : Type 0} (xs : List X) → 0 < length xs → none xs ≡ false
  none_some [] k = absurd (omega arith)
  none_some (x ∷ xs) k = refl

  -- there are lines, and a number is free
  pub asked_yes : 0 < d.height → t.count < 64 → (not (none ls) && ltb t.count 64) ≡ true
  asked_yes some few =
      let q = parts d t s in
      let long = q.long in
      let small = q.draft.few in
      let tall : length ls ≡ d.height = lines_length d.codes (take d.height d.rows) ∙ length-take-le d.height d.rows (omega arith) in
      and_from (not (none ls)) (ltb t.count 64) (ap not (none_some ls (omega arith))) (lt-ltb t.count 64 few)

  -- there are none, or no number is free
  pub asked_no : (d.height ≡ 0) ⊎ (64 ≤ t.count) → (not (none ls) && ltb t.count 64) ≡ false
  asked_no (inl e) = and_left (not (none ls)) (ltb t.count 64) (ap (λ (n : ℕ). not (none (lines_in d.codes (take n d.rows)))) e)
  asked_no (inr k) = and_right (not (none ls)) (ltb t.count 64) (le-ltb t.count 64 k)

  -- the lines and the codes of a checked draft fit the tables
  pub keep_fits : (u : Draft) (r : Result Entry Refusal) (rows : List Row) (codes : List ℕ) → DraftChecked m es d r u → rows ≡ take u.height u.rows → codes ≡ take u.width u.codes
      → (t.height + length rows ≤ 1024) × (t.width + length codes ≤ 4096)
  keep_fits u r rows codes c rows_are codes-are =
      let q = parts d t s in
      let long = q.long in
      let small = q.draft.few in
      let rows_long : length rows ≡ d.height = ap length (rows_are ∙ (λ i. take (c.same i).height u.rows)) ∙ length-take-le d.height u.rows (omega (arith, c.long)) in
      let codes-long : length codes ≡ d.width = ap length (codes-are ∙ (λ i. take (c.same i).width (c.same i).codes)) ∙ length-take-le d.width d.codes (let w = q.codes in omega arith) in
      (let w = q.rows in omega arith, let w = q.codes in omega arith)
