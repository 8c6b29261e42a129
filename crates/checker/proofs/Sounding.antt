-- The draft and the tables stay sound.
use Rattle.std.proofs.Common.{◌≡◌, ℕ, ◌+◌, ◌<◌, ◌≤◌, true, ◌&&◌, eqb, leb, List, [], ◌∷◌, ◌++◌, length, take, set, sym, refl, ap, ◌∙◌, arith, length-set}
use Rattle.std.proofs.lemmas.List.{take_more_set}
use Rattle.std.proofs.lemmas.Bool.{and_parts, and_from, leb-true, le-leb, eqb-true, eq-eqb}
use Rattle.lines.specs.declared.fields.Fields.{Fields}
use Rattle.typing.specs.declared.found.Entry.{Entry}
use Rattle.typing.specs.declared.parameters.Parameters.{Parameters}
use Rattle.checker.specs.declared.rows.Row.{Row}
use Rattle.checker.specs.declared.drafts.Draft.{Draft}
use Rattle.checker.specs.declared.tables.Extent.{Extent}
use Rattle.checker.specs.declared.tables.Tables.{Tables}
use Rattle.checker.specs.Views.{rows_of}
use Rattle.checker.specs.Changes.{pasted, row_with, begun, grown, dropped, kept, withdrawn_at}
use Rattle.checker.specs.Sound.{within, code_count, coded, stands, all_stand, row_total, code_total, draft_sound, tables_sound, both_sound, sized, sound}
use Rattle.checker.specs.Checking.{with_rows}
use Rattle.checker.proofs.Pasting.{same_part, pasted_before, pasted_there, length_pasted}

-- ---- what a sound draft and sound tables say

pub record DraftParts (d : Draft) : Type 0 where
  pub few : d.height ≤ 64
  pub inside : within d.width (take d.height d.rows) ≡ true
  pub total : code_count (take d.height d.rows) ≡ d.width

pub draft_parts : (d : Draft) → draft_sound d ≡ true → DraftParts d
draft_parts d s =
    let both = and_parts (leb d.height 64) (coded d.width (take d.height d.rows)) s in
    let own = and_parts (within d.width (take d.height d.rows)) (eqb (code_count (take d.height d.rows)) d.width) both.1 in
    record { few = leb-true _ 64 both.0; inside = own.0; total = eqb-true _ _ own.1 }

pub record TablesParts (t : Tables) : Type 0 where
  pub few : t.count ≤ 64
  pub stand : all_stand t.rows t.height t.width (take t.count t.extents) ≡ true
  pub rows : row_total (take t.count t.extents) ≡ t.height
  pub codes : code_total (take t.count t.extents) ≡ t.width

pub tables_parts : (t : Tables) → tables_sound t ≡ true → TablesParts t
tables_parts t s =
    let xs = take t.count t.extents in
    let a = and_parts (leb t.count 64) _ s in
    let b = and_parts (all_stand t.rows t.height t.width xs) _ a.1 in
    let c = and_parts (eqb (row_total xs) t.height) (eqb (code_total xs) t.width) b.1 in
    record { few = leb-true _ 64 a.0; stand = b.0; rows = eqb-true _ _ c.0; codes = eqb-true _ _ c.1 }

-- the lengths of the arrays
pub record Long (d : Draft) (t : Tables) : Type 0 where
  pub draft_rows : length d.rows ≡ 64
  pub draft_codes : length d.codes ≡ 4096
  pub entries : length t.entries ≡ 64
  pub extents : length t.extents ≡ 64
  pub rows : length t.rows ≡ 1024
  pub codes : length t.codes ≡ 4096

pub record Parts (d : Draft) (t : Tables) : Type 0 where
  pub is_draft_sound : draft_sound d ≡ true
  pub are_tables_sound : tables_sound t ≡ true
  pub draft : DraftParts d
  pub tables : TablesParts t
  pub rows : t.height + d.height ≤ 1024
  pub codes : t.width + d.width ≤ 4096
  pub long : Long d t

-- the lengths in tests
lengths : (d : Draft) (t : Tables) → sized d t ≡ true → Long d t
lengths d t s =
    let a = and_parts (eqb (length d.rows) 64 && eqb (length d.codes) 4096) _ s in
    let b = and_parts (eqb (length d.rows) 64) (eqb (length d.codes) 4096) a.0 in
    let e = and_parts (eqb (length t.entries) 64 && eqb (length t.extents) 64) _ a.1 in
    let f = and_parts (eqb (length t.entries) 64) (eqb (length t.extents) 64) e.0 in
    let h = and_parts (eqb (length t.rows) 1024) (eqb (length t.codes) 4096) e.1 in
    record {
      draft_rows = eqb-true _ 64 b.0;
      draft_codes = eqb-true _ 4096 b.1;
      entries = eqb-true _ 64 f.0;
      extents = eqb-true _ 64 f.1;
      rows = eqb-true _ 1024 h.0;
      codes = eqb-true _ 4096 h.1;
    }

tested : (d : Draft) (t : Tables) → Long d t → sized d t ≡ true
tested d t l =
    and_from (eqb (length d.rows) 64 && eqb (length d.codes) 4096) _
    (and_from (eqb (length d.rows) 64) (eqb (length d.codes) 4096) (eq-eqb _ 64 l.draft_rows) (eq-eqb _ 4096 l.draft_codes))
    (and_from (eqb (length t.entries) 64 && eqb (length t.extents) 64) _
    (and_from (eqb (length t.entries) 64) (eqb (length t.extents) 64) (eq-eqb _ 64 l.entries) (eq-eqb _ 64 l.extents))
    (and_from (eqb (length t.rows) 1024) (eqb (length t.codes) 4096) (eq-eqb _ 1024 l.rows) (eq-eqb _ 4096 l.codes)))

-- what soundness says
pub parts : (d : Draft) (t : Tables) → sound d t ≡ true → Parts d t
parts d t s =
    let a = and_parts (draft_sound d && tables_sound t) _ s in
    let b = and_parts (draft_sound d) (tables_sound t) a.0 in
    let e = and_parts (both_sound d t) (sized d t) a.1 in
    let c = and_parts (leb (t.height + d.height) 1024) (leb (t.width + d.width) 4096) e.0 in
    record {
      is_draft_sound = b.0;
      are_tables_sound = b.1;
      draft = draft_parts d b.0;
      tables = tables_parts t b.1;
      rows = leb-true _ 1024 c.0;
      codes = leb-true _ 4096 c.1;
      long = lengths d t e.1;
    }

-- the draft and the tables apart, and what they have together
pub sound_of : (d : Draft) (t : Tables) → draft_sound d ≡ true → tables_sound t ≡ true → t.height + d.height ≤ 1024 → t.width + d.width ≤ 4096 → Long d t → sound d t ≡ true
sound_of d t a b h w l =
    and_from (draft_sound d && tables_sound t) _ (and_from (draft_sound d) (tables_sound t) a b)
    (and_from (both_sound d t) (sized d t) (and_from (leb (t.height + d.height) 1024) (leb (t.width + d.width) 4096) (le-leb _ 1024 h) (le-leb _ 4096 w)) (tested d t l))

-- ---- the draft

-- a draft without lines is sound
pub begun_sound : (d : Draft) (t : Tables) (serial : ℕ) (ps : Parameters) → sound d t ≡ true → sound (begun d serial ps) t ≡ true
begun_sound d t serial ps s = let p = parts d t s in let l = p.long in
    sound_of (begun d serial ps) t refl p.are_tables_sound (omega arith) (omega arith)
    (record { draft_rows = l.draft_rows; draft_codes = l.draft_codes; entries = l.entries; extents = l.extents; rows = l.rows; codes = l.codes })

pub dropped_sound : (d : Draft) (t : Tables) → sound d t ≡ true → sound (dropped d) t ≡ true
dropped_sound d t s = let p = parts d t s in let l = p.long in
    sound_of (dropped d) t refl p.are_tables_sound (omega arith) (omega arith)
    (record { draft_rows = l.draft_rows; draft_codes = l.draft_codes; entries = l.entries; extents = l.extents; rows = l.rows; codes = l.codes })

-- a formula withdrawn
pub withdrawn_sound : (d : Draft) (t : Tables) (g : ℕ) → sound d t ≡ true → sound d (withdrawn_at t g) ≡ true
withdrawn_sound d t g s = let p = parts d t s in let l = p.long in
    sound_of d (withdrawn_at t g) p.is_draft_sound p.are_tables_sound p.rows p.codes
    (record { draft_rows = l.draft_rows; draft_codes = l.draft_codes; entries = length-set t.entries g _ ∙ l.entries; extents = l.extents; rows = l.rows; codes = l.codes })

-- lines whose codes stand among the first n, among more
within_more : (m n : ℕ) (rs : List Row) → m ≤ n → within m rs ≡ true → within n rs ≡ true
within_more m n [] k h = refl
within_more m n (r ∷ rs) k h =
    let both = and_parts (leb (r.given.start + r.given.length) m) (within m rs) h in
    let here : r.given.start + r.given.length ≤ m = leb-true _ m both.0 in
    and_from (leb (r.given.start + r.given.length) n) (within n rs) (le-leb _ n (omega arith)) (within_more m n rs k both.1)

-- and with one line more
within_push : (n : ℕ) (rs : List Row) (r : Row) → within n rs ≡ true → r.given.start + r.given.length ≤ n → within n (rs ++ r ∷ []) ≡ true
within_push n [] r h k = and_from (leb (r.given.start + r.given.length) n) true (le-leb _ n k) refl
within_push n (x ∷ rs) r h k =
    let both = and_parts (leb (x.given.start + x.given.length) n) (within n rs) h in
    and_from (leb (x.given.start + x.given.length) n) (within n (rs ++ r ∷ [])) both.0 (within_push n rs r both.1 k)

-- the codes of lines with one more
count_push : (rs : List Row) (r : Row) → code_count (rs ++ r ∷ []) ≡ code_count rs + r.given.length
count_push [] r = omega arith
count_push (x ∷ rs) r = omega (arith, count_push rs r)

-- a draft with one more line
pub grown_sound : (d : Draft) (t : Tables) (f : Fields) (cs : List ℕ) → sound d t ≡ true → d.height < 64 → t.height + d.height < 1024 → t.width + d.width + length cs ≤ 4096
    → sound (grown d f cs) t ≡ true
grown_sound d t f cs s few rows codes =
    let p = parts d t s in
    let l = p.long in
    let long = l.draft_rows in
    let r : Row = row_with f d.width (length cs) in
    let more : take (d.height + 1) (set d.rows d.height r) ≡ take d.height d.rows ++ r ∷ [] = take_more_set d.rows d.height r (omega arith) in
    let inside : within (d.width + length cs) (take (d.height + 1) (set d.rows d.height r)) ≡ true =
    ap (within (d.width + length cs)) more ∙ within_push (d.width + length cs) (take d.height d.rows) r (within_more d.width (d.width + length cs) (take d.height d.rows) (omega arith) p.draft.inside) (omega arith) in
    let total : code_count (take (d.height + 1) (set d.rows d.height r)) ≡ d.width + length cs =
    ap code_count more ∙ count_push (take d.height d.rows) r ∙ ap (λ (n : ℕ). n + length cs) p.draft.total in
    sound_of (grown d f cs) t
    (and_from (leb (d.height + 1) 64) _ (le-leb _ 64 (omega arith)) (and_from (within (d.width + length cs) (take (d.height + 1) (set d.rows d.height r))) _ inside (eq-eqb _ _ total)))
    p.are_tables_sound (omega arith) (omega arith)
    (record {
      draft_rows = length-set d.rows d.height r ∙ l.draft_rows;
      draft_codes = length_pasted d.codes d.width cs (let e = l.draft_codes in omega arith) ∙ l.draft_codes;
      entries = l.entries;
      extents = l.extents;
      rows = l.rows;
      codes = l.codes;
    })

-- ---- the tables

-- a formula stands in every table that begins alike
stands_same : (rs ss : List Row) (h w k v : ℕ) (x : Extent) → take h rs ≡ take h ss → h ≤ k → w ≤ v → stands rs h w x ≡ true → stands ss k v x ≡ true
stands_same rs ss h w k v x e a b s =
    let here = and_parts (leb (x.first + x.rows) h && leb (x.start + x.codes) w) (coded x.codes (rows_of x rs)) s in
    let places = and_parts (leb (x.first + x.rows) h) (leb (x.start + x.codes) w) here.0 in
    let end : x.first + x.rows ≤ h = leb-true _ h places.0 in
    let last : x.start + x.codes ≤ w = leb-true _ w places.1 in
    and_from (leb (x.first + x.rows) k && leb (x.start + x.codes) v) (coded x.codes (rows_of x ss))
    (and_from (leb (x.first + x.rows) k) (leb (x.start + x.codes) v) (le-leb _ k (omega arith)) (le-leb _ v (omega arith)))
    (ap (coded x.codes) (sym (same_part rs ss h x.first x.rows e end)) ∙ here.1)

-- so do all of them, and one that stands with them
all_push : (rs ss : List Row) (h w k v : ℕ) (xs : List Extent) (y : Extent) → take h rs ≡ take h ss → h ≤ k → w ≤ v → all_stand rs h w xs ≡ true → stands ss k v y ≡ true → all_stand ss k v (xs ++ y ∷ []) ≡ true
all_push rs ss h w k v [] y e a b s z = and_from (stands ss k v y) true z refl
all_push rs ss h w k v (x ∷ xs) y e a b s z =
    let both = and_parts (stands rs h w x) (all_stand rs h w xs) s in
    and_from (stands ss k v x) (all_stand ss k v (xs ++ y ∷ [])) (stands_same rs ss h w k v x e a b both.0) (all_push rs ss h w k v xs y e a b both.1 z)

-- lines and codes of formulas with one more
row_push : (xs : List Extent) (y : Extent) → row_total (xs ++ y ∷ []) ≡ row_total xs + y.rows
row_push [] y = omega arith
row_push (x ∷ xs) y = omega (arith, row_push xs y)

code_push : (xs : List Extent) (y : Extent) → code_total (xs ++ y ∷ []) ≡ code_total xs + y.codes
code_push [] y = omega arith
code_push (x ∷ xs) y = omega (arith, code_push xs y)

-- tables with one more formula, whose lines have its codes, and no draft
pub kept_sound : (d : Draft) (t : Tables) (e : Entry) (rs : List Row) (cs : List ℕ) → sound d t ≡ true → t.count < 64 → t.height + length rs ≤ 1024 → t.width + length cs ≤ 4096
    → coded (length cs) rs ≡ true → sound (dropped d) (kept t e rs cs) ≡ true
kept_sound d t e rs cs s few tall wide own =
    let p = parts d t s in
    let l = p.long in
    let extents = l.extents in
    let rows = l.rows in
    let x : Extent = record { first = t.height; rows = length rs; start = t.width; codes = length cs } in
    let k : ℕ = t.height + length rs in
    let v : ℕ = t.width + length cs in
    let all : List Row = pasted t.rows t.height rs in
    let more : take (t.count + 1) (set t.extents t.count x) ≡ take t.count t.extents ++ x ∷ [] = take_more_set t.extents t.count x (omega arith) in
    let there : rows_of x all ≡ rs = pasted_there t.rows t.height rs (omega arith) in
    let new : stands all k v x ≡ true =
    and_from (leb (t.height + length rs) k && leb (t.width + length cs) v) (coded (length cs) (rows_of x all))
    (and_from (leb (t.height + length rs) k) (leb (t.width + length cs) v) (le-leb _ k (omega arith)) (le-leb _ v (omega arith))) (ap (coded (length cs)) there ∙ own) in
    let stand : all_stand all k v (take (t.count + 1) (set t.extents t.count x)) ≡ true =
    ap (all_stand all k v) more
    ∙ all_push t.rows all t.height t.width k v (take t.count t.extents) x (sym (pasted_before t.rows t.height rs (omega arith))) (omega arith) (omega arith) p.tables.stand new in
    let row-sum : row_total (take (t.count + 1) (set t.extents t.count x)) ≡ k = ap row_total more ∙ row_push (take t.count t.extents) x ∙ ap (λ (n : ℕ). n + length rs) p.tables.rows in
    let code_sum : code_total (take (t.count + 1) (set t.extents t.count x)) ≡ v = ap code_total more ∙ code_push (take t.count t.extents) x ∙ ap (λ (n : ℕ). n + length cs) p.tables.codes in
    sound_of (dropped d) (kept t e rs cs) refl
    (and_from (leb (t.count + 1) 64) _ (le-leb _ 64 (omega arith))
    (and_from (all_stand all k v (take (t.count + 1) (set t.extents t.count x))) _ stand
    (and_from (eqb (row_total (take (t.count + 1) (set t.extents t.count x))) k) _ (eq-eqb _ _ row-sum) (eq-eqb _ _ code_sum))))
    (omega arith) (omega arith)
    (record {
      draft_rows = l.draft_rows;
      draft_codes = l.draft_codes;
      entries = length-set t.entries t.count e ∙ l.entries;
      extents = length-set t.extents t.count x ∙ l.extents;
      rows = length_pasted t.rows t.height rs (omega arith) ∙ l.rows;
      codes = length_pasted t.codes t.width cs (let f = l.codes in omega arith) ∙ l.codes;
    })

-- the lines of a dropped draft do not matter
pub dropped_other : (d : Draft) (t : Tables) (rs : List Row) → sound (dropped d) t ≡ true → length rs ≡ length d.rows → sound (dropped (with_rows d rs)) t ≡ true
dropped_other d t rs s e = let p = parts (dropped d) t s in let l = p.long in
    sound_of (dropped (with_rows d rs)) t refl p.are_tables_sound p.rows p.codes
    (record { draft_rows = e ∙ l.draft_rows; draft_codes = l.draft_codes; entries = l.entries; extents = l.extents; rows = l.rows; codes = l.codes })
