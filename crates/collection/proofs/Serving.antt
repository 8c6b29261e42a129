-- From what a call answers and leaves to the promise of the call.
use Rattle.std.proofs.Common.{◌≡◌, ℕ, zero, suc, ◌+◌, ◌<◌, Bool, true, false, cond, ◌&&◌, ltb, leb, List, [], ◌∷◌, ◌++◌, length, get_or, take, set, Some, None, Option, Result, sym, refl, ap, ◌∙◌, subst, arith, length-take-le}
use Rattle.std.proofs.lemmas.List.{get_or-take, get_or-map}
use Rattle.std.proofs.lemmas.Bool.{and_parts, ltb-true, eqb-true}
use Rattle.remora.specs.Algebras.{Meaning, Sample, Formed}
use Rattle.remora.specs.Formulas as theory
use Rattle.remora.specs.Machine.{choose}
use Rattle.remora.specs.Numbers.{no_entry}
use Rattle.remora.specs.Calls as calls
use Rattle.remora.specs.Calls.{State, Call, Answer, Reply, reply, serve, refused, number, ok, states, opened, known_types, open', line, enter, scrap, withdraw, entry, slip_fits, has_space, in_order, in_use, draft_lines, codes_in, lines_kept, codes_kept}
use Rattle.remora.specs.Histories.{event, Led}
use Rattle.remora.proofs.Deciding.{histories_go_on}
use Rattle.remora.proofs.Holding.{every_history_holds}
use Rattle.lines.specs.declared.fields.Fields.{Fields}
use Rattle.lines.specs.Lines.{InOrder}
use Rattle.lines.specs.declared.refusals.Refusal.{Refusal}
use Rattle.typing.specs.declared.found.Entry.{Entry}
use Rattle.typing.specs.Typings.{types_of}
use Rattle.typing.specs.Plans.{entry_of, mark_of}
use Rattle.checker.specs.declared.drafts.Draft.{Draft}
use Rattle.checker.specs.declared.tables.Tables.{Tables}
use Rattle.typing.specs.declared.parameters.Parameters.{Parameters}
use Rattle.checker.specs.Views.{draft_of, shown, lines_in, kept_in, formulas_of}
use Rattle.checker.specs.Changes.{begun, grown, dropped, withdrawn_at, marked, absent}
use Rattle.typing.specs.Parameters.{KnownTypes}
use Rattle.checker.specs.Sound.{sound}
use Rattle.checker.proofs.Viewing.{lines_length, lines_codes, lines_grown, kept_length, kept_entry, kept_mark, kept_withdrawn, kept_lines, kept_codes}
use Rattle.checker.proofs.Sounding.{parts, Parts}
use Rattle.collection.specs.States.{state_with}
use Rattle.collection.specs.Promises.{Serves, Entered, numbered}

-- a history goes on by the call and its answer, and the law holds of it
pub serves : (m : Meaning) → Formed m → (before : State) (c : Call) (a : Answer) (after : State) → ((S : List Sample) → serve m before S c ≡ reply a after S) → Serves m before c a after
serves m formed before c a after exact = record {
  exact = exact;
  law = λ h S led.
      let on : Led m (h ++ event c a ∷ []) after S =
      subst (λ (r : Reply). Led m (h ++ event c r.answer ∷ []) r.state r.store) (exact S) (histories_go_on.goes_on m h before S c led) in
      (on, every_history_holds m formed (h ++ event c a ∷ []) after S on);
}

-- ---- questions

pub choose_yes : {Z : Type 0} (b : Bool) (x y : Z) → b ≡ true → choose b x y ≡ x
unfolding choose
choose_yes b x y e = ap (λ (t : Bool). choose t x y) e

pub choose_no : {Z : Type 0} (b : Bool) (x y : Z) → b ≡ false → choose b x y ≡ y
unfolding choose
choose_no b x y e = ap (λ (t : Bool). choose t x y) e

-- ---- open

module _ (m : Meaning) (formed : Formed m) (n : ℕ) (d : Draft) (t : Tables) (ps : List theory.ArrayType) where
  -- a million drafts were opened
  pub open_many : ltb n 1000000 ≡ false → Serves m (state_with n d t) (open' ps) (refused 1 None) (state_with n d t)
  open_many h = serves m formed (state_with n d t) (open' ps) (refused 1 None) (state_with n d t) (λ S. choose_no (ltb n 1000000) _ _ h)

  -- a parameter is not known
  pub open_unknown : ltb n 1000000 ≡ true → KnownTypes m ps None → Serves m (state_with n d t) (open' ps) (refused 2 None) (state_with n d t)
  open_unknown h k = serves m formed (state_with n d t) (open' ps) (refused 2 None) (state_with n d t) (λ S. choose_yes (ltb n 1000000) _ _ h ∙ choose_no (leb (length ps) 4 && known_types m ps) _ _ k)

  -- a draft is opened
  pub open_done : (p : Parameters) (e : Draft) → ltb n 1000000 ≡ true → KnownTypes m ps (Some p) → e ≡ begun d n p → Serves m (state_with n d t) (open' ps) (number n) (state_with (n + 1) e t)
  open_done p e h k is = serves m formed (state_with n d t) (open' ps) (number n) (state_with (n + 1) e t)
      (λ S. choose_yes (ltb n 1000000) _ _ h ∙ choose_yes (leb (length ps) 4 && known_types m ps) _ _ k.0
      ∙ (λ i. reply (number n) (record { serials = n + 1; draft = opened n (sym k.1 i) []; formulas = formulas_of t; run = calls.absent }) S)
      ∙ (λ i. reply (number n) (state_with (n + 1) (sym is i) t) S))

-- ---- line

-- a draft whose slip was shown is open and has its serial
pub slip_open : (d : Draft) (k : ℕ) → slip_fits (draft_of d) k ≡ true → d.serial ≡ Some k
slip_open d k = go d.serial (types_of (take d.parameters.count d.parameters.all)) (lines_in d.codes (take d.height d.rows))
  where
    go : (o : Option ℕ) (ps : List theory.ArrayType) (ls : List theory.Line) → slip_fits (shown o ps ls) k ≡ true → o ≡ Some k
    go (Some n) ps ls h = ap Some (sym (eqb-true k n h))
    go None ps ls h = cc

-- and is this draft
pub draft_open : (d : Draft) (k : ℕ) → d.serial ≡ Some k → draft_of d ≡ opened k (types_of (take d.parameters.count d.parameters.all)) (lines_in d.codes (take d.height d.rows))
draft_open d k h = ap (λ (o : Option ℕ). shown o (types_of (take d.parameters.count d.parameters.all)) (lines_in d.codes (take d.height d.rows))) h

-- as many entries as extents
pub taken : (d : Draft) (t : Tables) → Parts d t → length (take t.count t.entries) ≡ length (take t.count t.extents)
taken d t p = let l = p.long in let f = p.tables.few in length-take-le t.count t.entries (omega arith) ∙ sym (length-take-le t.count t.extents (omega arith))

-- the numbers given are those below the count
pub count_is : (d : Draft) (t : Tables) → sound d t ≡ true → length (formulas_of t) ≡ t.count
count_is d t s =
    let p = parts d t s in
    let l = p.long in
    let f = p.tables.few in
    kept_length t.rows t.codes (take t.count t.entries) (take t.count t.extents) (taken d t p) ∙ length-take-le t.count t.entries (omega arith)

-- so a number that was given is below 64
pub given_below : (d : Draft) (t : Tables) (g : ℕ) → sound d t ≡ true → ltb g (length (formulas_of t)) ≡ true → g < t.count
given_below d t g s h = let b = ltb-true g (length (formulas_of t)) h in omega (arith, count_is d t s)

pub given_few : (d : Draft) (t : Tables) (g : ℕ) → sound d t ≡ true → ltb g (length (formulas_of t)) ≡ true → g < 64
given_few d t g s h = let b = given_below d t g s h in let f = (parts d t s).tables.few in omega arith

-- space for one more line with so many codes, by the numbers of the draft and the tables
abbrev pub space_for : Draft → Tables → ℕ → Bool
space_for d t k = leb (d.height + 1) 64 && (leb (t.height + d.height + 1) 1024 && leb (t.width + d.width + k) 4096)

-- is the space that the theory asks for
space_is : (n k : ℕ) (d : Draft) (t : Tables) (l : theory.Line) → sound d t ≡ true → d.serial ≡ Some k → has_space (state_with n d t) l ≡ space_for d t (length l.codes)
space_is n k d t l s h =
    let p = parts d t s in
    let long = p.long in
    let e = draft_open d k h in
    let ls : List theory.Line = lines_in d.codes (take d.height d.rows) in
    let height : length (draft_lines (draft_of d)) ≡ d.height = ap (λ (x : calls.Draft). length (draft_lines x)) e ∙ lines_length d.codes (take d.height d.rows) ∙ length-take-le d.height d.rows (let f = p.draft.few in omega arith) in
    let width : codes_in (draft_lines (draft_of d)) ≡ d.width = ap (λ (x : calls.Draft). codes_in (draft_lines x)) e ∙ lines_codes d.codes d.width (take d.height d.rows) (let f = p.codes in omega arith) p.draft.inside ∙ p.draft.total in
    let kept-rows : lines_kept (formulas_of t) ≡ t.height =
    kept_lines t.rows t.codes t.height t.width (take t.count t.entries) (take t.count t.extents) (taken d t p) (let f = p.rows in omega (arith, long.rows)) p.tables.stand ∙ p.tables.rows in
    let kept-width : codes_kept (formulas_of t) ≡ t.width =
    kept_codes t.rows t.codes t.height t.width (take t.count t.entries) (take t.count t.extents) (taken d t p) (let f = p.codes in omega (arith, long.codes)) p.tables.stand ∙ p.tables.codes in
    λ i. leb (height i + 1) 64 && (leb (kept-rows i + height i + 1) 1024 && leb (kept-width i + width i + length l.codes) 4096)

module _ (m : Meaning) (formed : Formed m) (n : ℕ) (d : Draft) (t : Tables) (k : ℕ) (l : theory.Line) where
  -- the slip is another's
  pub line_wrong : slip_fits (draft_of d) k ≡ false → Serves m (state_with n d t) (line k l) (refused 3 None) (state_with n d t)
  line_wrong h = serves m formed (state_with n d t) (line k l) (refused 3 None) (state_with n d t) (λ S. choose_no (slip_fits (draft_of d) k) _ _ h)

  module _ (s : sound d t ≡ true) (h : slip_fits (draft_of d) k ≡ true) where
    space : has_space (state_with n d t) l ≡ space_for d t (length l.codes)
    space = space_is n k d t l s (slip_open d k h)

    -- there is no space
    pub line_full : space_for d t (length l.codes) ≡ false → Serves m (state_with n d t) (line k l) (refused 4 None) (state_with n d t)
    line_full f = serves m formed (state_with n d t) (line k l) (refused 4 None) (state_with n d t)
        (λ S. choose_yes (slip_fits (draft_of d) k) _ _ h ∙ choose_no (has_space (state_with n d t) l) _ _ (space ∙ f))

    -- a field is not in order
    pub line_bad : space_for d t (length l.codes) ≡ true → InOrder m l None → Serves m (state_with n d t) (line k l) (refused 5 None) (state_with n d t)
    line_bad f o = serves m formed (state_with n d t) (line k l) (refused 5 None) (state_with n d t)
        (λ S. choose_yes (slip_fits (draft_of d) k) _ _ h ∙ choose_yes (has_space (state_with n d t) l) _ _ (space ∙ f) ∙ choose_no (in_order m l) _ _ o)

    -- the line is added
    pub line_done : (x : Fields) (e : Draft) → space_for d t (length l.codes) ≡ true → InOrder m l (Some x) → e ≡ grown d x l.codes → Serves m (state_with n d t) (line k l) (number d.height) (state_with n e t)
    line_done x e f o is =
        let p = parts d t s in
        let long = p.long in
        let here = draft_open d k (slip_open d k h) in
        let old : List theory.Line = lines_in d.codes (take d.height d.rows) in
        let room = and_parts (leb (d.height + 1) 64) _ f in
        let few : d.height < 64 = ltb-true d.height 64 (ap (λ (i : ℕ). leb i 64) one ∙ room.0) in
        let lines_are : lines_in (grown d x l.codes).codes (take (d.height + 1) (grown d x l.codes).rows) ≡ old ++ l ∷ [] =
        lines_grown d.rows d.height d.codes d.width x l.codes (omega arith) (let g = p.codes in omega arith) p.draft.inside ∙ ap (λ (z : theory.Line). old ++ z ∷ []) o.1 in
        let after : draft_of (grown d x l.codes) ≡ calls.added (draft_of d) l =
        ap (λ (o : Option ℕ). shown o (types_of (take d.parameters.count d.parameters.all)) (lines_in (grown d x l.codes).codes (take (d.height + 1) (grown d x l.codes).rows))) (slip_open d k h)
        ∙ ap (opened k (types_of (take d.parameters.count d.parameters.all))) lines_are ∙ sym (ap (λ (z : calls.Draft). calls.added z l) here) in
        let height : length (draft_lines (draft_of d)) ≡ d.height = ap (λ (z : calls.Draft). length (draft_lines z)) here ∙ lines_length d.codes (take d.height d.rows) ∙ length-take-le d.height d.rows (omega arith) in
        serves m formed (state_with n d t) (line k l) (number d.height) (state_with n e t)
        (λ S. choose_yes (slip_fits (draft_of d) k) _ _ h ∙ choose_yes (has_space (state_with n d t) l) _ _ (space ∙ f) ∙ choose_yes (in_order m l) _ _ o.0
        ∙ (λ i. reply (number (height i)) (record { serials = n; draft = (sym after ∙ ap draft_of (sym is)) i; formulas = formulas_of t; run = calls.absent }) S))
      where
        one : suc d.height ≡ d.height + 1
        one = omega arith

-- ---- enter

module _ (m : Meaning) (formed : Formed m) (n : ℕ) (d : Draft) (t : Tables) (k : ℕ) where
  -- the slip is another's
  pub enter_wrong : slip_fits (draft_of d) k ≡ false → Serves m (state_with n d t) (enter k) (refused 3 None) (state_with n d t)
  enter_wrong h = serves m formed (state_with n d t) (enter k) (refused 3 None) (state_with n d t) (λ S. choose_no (slip_fits (draft_of d) k) _ _ h)

  -- the draft was entered or refused, and is dropped
  pub enter_done : (r : Result ℕ Refusal) (u : Draft) (v : Tables) (e : Draft) → slip_fits (draft_of d) k ≡ true → Entered m d t r u v → e ≡ dropped u → Serves m (state_with n d t) (enter k) (numbered r) (state_with n e v)
  enter_done r u v e h is gone = serves m formed (state_with n d t) (enter k) (numbered r) (state_with n e v) (λ S. is.exact n k h S ∙ (λ i. reply (numbered r) (state_with n (sym gone i) v) S))

-- ---- scrap

module _ (m : Meaning) (formed : Formed m) (n : ℕ) (d : Draft) (t : Tables) (k : ℕ) where
  -- the slip is another's
  pub scrap_wrong : slip_fits (draft_of d) k ≡ false → Serves m (state_with n d t) (scrap k) (refused 3 None) (state_with n d t)
  scrap_wrong h = serves m formed (state_with n d t) (scrap k) (refused 3 None) (state_with n d t) (λ S. choose_no (slip_fits (draft_of d) k) _ _ h)

  -- the draft is dropped
  pub scrap_done : (e : Draft) → slip_fits (draft_of d) k ≡ true → e ≡ dropped d → Serves m (state_with n d t) (scrap k) ok (state_with n e t)
  scrap_done e h is = serves m formed (state_with n d t) (scrap k) ok (state_with n e t) (λ S. choose_yes (slip_fits (draft_of d) k) _ _ h ∙ (λ i. reply ok (state_with n (sym is i) t) S))

-- ---- withdraw and entry

-- the first of a list that was changed at one place
take_set : {X : Type 0} (k : ℕ) (xs : List X) (i : ℕ) (y : X) → take k (set xs i y) ≡ set (take k xs) i y
take_set zero xs i y = refl
take_set (suc k) [] i y = refl
take_set (suc k) (x ∷ xs) zero y = refl
take_set (suc k) (x ∷ xs) (suc i) y = ap (λ (zs : List _). x ∷ zs) (take_set k xs i y)

module _ (d : Draft) (t : Tables) (s : sound d t ≡ true) (g : ℕ) (h : g < t.count) where
  -- what is known of a number
  pub entry_is : (get_or (formulas_of t) g calls.no_formula).entry ≡ entry_of (get_or t.entries g absent)
  entry_is =
      let p = parts d t s in
      let l = p.long in
      let f = p.tables.few in
      let known = length-take-le t.count t.entries (omega arith) in
      kept_entry t.rows t.codes (take t.count t.entries) (take t.count t.extents) g (taken d t p)
      ∙ get_or-map entry_of (take t.count t.entries) g absent no_entry (omega arith) ∙ ap entry_of (get_or-take t.count t.entries g absent h)

  -- and its mark
  pub mark_is : (get_or (formulas_of t) g calls.no_formula).withdrawn ≡ (get_or t.entries g absent).withdrawn
  mark_is =
      let p = parts d t s in
      let l = p.long in
      let f = p.tables.few in
      let known = length-take-le t.count t.entries (omega arith) in
      kept_mark t.rows t.codes (take t.count t.entries) (take t.count t.extents) g (taken d t p)
      ∙ get_or-map mark_of (take t.count t.entries) g absent false (omega arith) ∙ ap mark_of (get_or-take t.count t.entries g absent h)

  -- the formulas with this one withdrawn
  withdrawn_is : formulas_of (withdrawn_at t g) ≡ set (formulas_of t) g (calls.marked (get_or (formulas_of t) g calls.no_formula))
  withdrawn_is =
      let p = parts d t s in
      let l = p.long in
      let f = p.tables.few in
      let es : List Entry = take t.count t.entries in
      let known = length-take-le t.count t.entries (omega arith) in
      ap (λ (zs : List Entry). kept_in t.rows t.codes zs (take t.count t.extents))
      (take_set t.count t.entries g (marked (get_or t.entries g absent)) ∙ ap (λ (x : Entry). set es g (marked x)) (sym (get_or-take t.count t.entries g absent h)))
      ∙ kept_withdrawn t.rows t.codes es (take t.count t.extents) g (taken d t p) (omega arith)

module _ (m : Meaning) (formed : Formed m) (n : ℕ) (d : Draft) (t : Tables) (g : ℕ) where
  -- the number is not in use
  pub withdraw_not : in_use (state_with n d t) g ≡ false → Serves m (state_with n d t) (withdraw g) (refused 15 None) (state_with n d t)
  withdraw_not h = serves m formed (state_with n d t) (withdraw g) (refused 15 None) (state_with n d t) (λ S. choose_no (in_use (state_with n d t) g) _ _ h)

  -- the number is withdrawn
  pub withdraw_done : (u : Tables) → sound d t ≡ true → in_use (state_with n d t) g ≡ true → u ≡ withdrawn_at t g → Serves m (state_with n d t) (withdraw g) ok (state_with n d u)
  withdraw_done u s h is =
      let both = and_parts (ltb g (length (formulas_of t))) _ h in
      let below : g < t.count = given_below d t g s both.0 in
      serves m formed (state_with n d t) (withdraw g) ok (state_with n d u)
      (λ S. choose_yes (in_use (state_with n d t) g) _ _ h
      ∙ (λ i. reply ok (record { serials = n; draft = draft_of d; formulas = (sym (withdrawn_is d t s g below) ∙ ap formulas_of (sym is)) i; run = calls.absent }) S))

  -- the number was not given
  pub entry_not : ltb g (length (formulas_of t)) ≡ false → Serves m (state_with n d t) (entry g) (refused 23 None) (state_with n d t)
  entry_not h = serves m formed (state_with n d t) (entry g) (refused 23 None) (state_with n d t) (λ S. choose_no (ltb g (length (formulas_of t))) _ _ h)

  -- what is known is told
  pub entry_done : sound d t ≡ true → ltb g (length (formulas_of t)) ≡ true
      → Serves m (state_with n d t) (entry g) (states (entry_of (get_or t.entries g absent)) (get_or t.entries g absent).withdrawn) (state_with n d t)
  entry_done s h =
      let below : g < t.count = given_below d t g s h in
      serves m formed (state_with n d t) (entry g) (states (entry_of (get_or t.entries g absent)) (get_or t.entries g absent).withdrawn) (state_with n d t)
      (λ S. choose_yes (ltb g (length (formulas_of t))) _ _ h
      ∙ (λ i. reply (states (entry_is d t s g below i) (mark_is d t s g below i)) (state_with n d t) S))
