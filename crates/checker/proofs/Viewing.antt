-- The theory's draft and formulas after the draft and the tables were changed.
use Rattle.std.proofs.Common.{◌≡◌, ℕ, zero, suc, ◌+◌, ◌<◌, ◌≤◌, Bool, true, false, ◌&&◌, eqb, leb, List, [], ◌∷◌, ◌++◌, map, length, get_or, take, set, sym, refl, ap, ◌∙◌, arith, length-take-le}
use Rattle.std.proofs.lemmas.List.{take_more_set}
use Rattle.std.proofs.lemmas.Bool.{and_parts, and_from, leb-true, eqb-true}
use Rattle.remora.specs.Formulas as theory
use Rattle.remora.specs.Calls as calls
use Rattle.lines.specs.declared.fields.Fields.{Fields}
use Rattle.lines.specs.Lines.{line_with}
use Rattle.typing.specs.declared.found.Entry.{Entry}
use Rattle.typing.specs.Plans.{mark_of, known_in, planned}
use Rattle.checker.specs.declared.rows.Given.{Given}
use Rattle.checker.specs.declared.rows.Row.{Row}
use Rattle.checker.specs.declared.tables.Extent.{Extent}
use Rattle.checker.specs.declared.tables.Tables.{Tables}
use Rattle.checker.specs.Views.{line_in, lines_in, plans_in, kept_with, rows_of, codes_of, kept_in, formulas_of}
use Rattle.checker.specs.Changes.{pasted, row_with, kept, marked, absent}
use Rattle.checker.specs.Sound.{within, code_count, coded, stands, all_stand, row_total, code_total}
use Rattle.checker.specs.Checking.{givens}
use Rattle.checker.proofs.Pasting.{same_part, pasted_before, pasted_there, length_part}

-- ---- lines and their codes

-- lines one behind the other
pub lines_append : (cs : List ℕ) (rs ss : List Row) → lines_in cs (rs ++ ss) ≡ lines_in cs rs ++ lines_in cs ss
lines_append cs [] ss = refl
lines_append cs (r ∷ rs) ss = ap (λ (ls : List theory.Line). line_in cs r.given ∷ ls) (lines_append cs rs ss)

-- there are as many
pub lines_length : (cs : List ℕ) (rs : List Row) → length (lines_in cs rs) ≡ length rs
lines_length cs [] = refl
lines_length cs (r ∷ rs) = ap suc (lines_length cs rs)

-- a line whose codes stand among the first n has the same codes in every list that begins alike
line_same : (cs ds : List ℕ) (n : ℕ) (r : Row) → take n cs ≡ take n ds → leb (r.given.start + r.given.length) n ≡ true → line_in cs r.given ≡ line_in ds r.given
line_same cs ds n r e h = ap (line_with r.given.fields) (same_part cs ds n r.given.start r.given.length e (leb-true _ n h))

-- and so do lines
pub lines_same : (cs ds : List ℕ) (n : ℕ) (rs : List Row) → take n cs ≡ take n ds → within n rs ≡ true → lines_in cs rs ≡ lines_in ds rs
lines_same cs ds n [] e h = refl
lines_same cs ds n (r ∷ rs) e h =
    let both = and_parts (leb (r.given.start + r.given.length) n) (within n rs) h in
    λ i. line_same cs ds n r e both.0 i ∷ lines_same cs ds n rs e both.1 i

-- and their plans
pub plans_same : (cs ds : List ℕ) (n : ℕ) (rs : List Row) → take n cs ≡ take n ds → within n rs ≡ true → plans_in cs rs ≡ plans_in ds rs
plans_same cs ds n [] e h = refl
plans_same cs ds n (r ∷ rs) e h =
    let both = and_parts (leb (r.given.start + r.given.length) n) (within n rs) h in
    λ i. planned (line_same cs ds n r e both.0 i) r.found r.offset ∷ plans_same cs ds n rs e both.1 i

-- lines have as many codes as they say
pub lines_codes : (cs : List ℕ) (n : ℕ) (rs : List Row) → n ≤ length cs → within n rs ≡ true → calls.codes_in (lines_in cs rs) ≡ code_count rs
lines_codes cs n [] k h = refl
lines_codes cs n (r ∷ rs) k h =
    let both = and_parts (leb (r.given.start + r.given.length) n) (within n rs) h in
    let here : r.given.start + r.given.length ≤ n = leb-true _ n both.0 in
    λ i. length_part cs r.given.start r.given.length (omega arith) i + lines_codes cs n rs k both.1 i

-- a draft's lines with one more
pub lines_grown : (rs : List Row) (h : ℕ) (cs : List ℕ) (w : ℕ) (f : Fields) (ds : List ℕ) → h < length rs → w ≤ length cs → within w (take h rs) ≡ true
    → lines_in (pasted cs w ds) (take (h + 1) (set rs h (row_with f w (length ds)))) ≡ lines_in cs (take h rs) ++ line_with f ds ∷ []
lines_grown rs h cs w f ds k m inside =
    ap (lines_in (pasted cs w ds)) (take_more_set rs h (row_with f w (length ds)) k)
    ∙ lines_append (pasted cs w ds) (take h rs) (row_with f w (length ds) ∷ [])
    ∙ (λ i. lines_same (pasted cs w ds) cs w (take h rs) (pasted_before cs w ds m) inside i ++ line_with f (pasted_there cs w ds m i) ∷ [])

-- ---- formulas

-- formulas one behind the other
pub kept_append : (rs : List Row) (cs : List ℕ) (es fs : List Entry) (xs ys : List Extent) → length es ≡ length xs → kept_in rs cs (es ++ fs) (xs ++ ys) ≡ kept_in rs cs es xs ++ kept_in rs cs fs ys
kept_append rs cs [] fs [] ys e = refl
kept_append rs cs [] fs (x ∷ xs) ys e = absurd (omega (arith, e))
kept_append rs cs (f ∷ es) fs [] ys e = absurd (omega (arith, e))
kept_append rs cs (f ∷ es) fs (x ∷ xs) ys e =
    ap (λ (ks : List calls.Kept). kept_with f (rows_of x rs) (codes_of x cs) ∷ ks) (kept_append rs cs es fs xs ys (omega arith))

-- formulas that stand among the first lines and codes are the same in every table that begins alike
pub kept_same : (rs ss : List Row) (cs ds : List ℕ) (h w : ℕ) (es : List Entry) (xs : List Extent) → take h rs ≡ take h ss → take w cs ≡ take w ds → all_stand rs h w xs ≡ true
    → kept_in rs cs es xs ≡ kept_in ss ds es xs
kept_same rs ss cs ds h w [] xs e f k = refl
kept_same rs ss cs ds h w (x ∷ es) [] e f k = refl
kept_same rs ss cs ds h w (x ∷ es) (y ∷ xs) e f k =
    let both = and_parts (stands rs h w y) (all_stand rs h w xs) k in
    let here = and_parts (leb (y.first + y.rows) h && leb (y.start + y.codes) w) (coded y.codes (rows_of y rs)) both.0 in
    let places = and_parts (leb (y.first + y.rows) h) (leb (y.start + y.codes) w) here.0 in
    λ i. kept_with x (same_part rs ss h y.first y.rows e (leb-true _ h places.0) i) (same_part cs ds w y.start y.codes f (leb-true _ w places.1) i) ∷ kept_same rs ss cs ds h w es xs e f both.1 i

-- and stand in it
stands_alike : (rs ss : List Row) (h w : ℕ) (xs : List Extent) → take h rs ≡ take h ss → all_stand rs h w xs ≡ true → all_stand ss h w xs ≡ true
stands_alike rs ss h w [] e k = refl
stands_alike rs ss h w (x ∷ xs) e k =
    let both = and_parts (stands rs h w x) (all_stand rs h w xs) k in
    let here = and_parts (leb (x.first + x.rows) h && leb (x.start + x.codes) w) (coded x.codes (rows_of x rs)) both.0 in
    let places = and_parts (leb (x.first + x.rows) h) (leb (x.start + x.codes) w) here.0 in
    and_from (stands ss h w x) (all_stand ss h w xs)
    (and_from (leb (x.first + x.rows) h && leb (x.start + x.codes) w) (coded x.codes (rows_of x ss)) here.0 (ap (coded x.codes) (sym (same_part rs ss h x.first x.rows e (leb-true _ h places.0))) ∙ here.1))
    (stands_alike rs ss h w xs e both.1)

-- as many formulas as entries and extents
pub kept_length : (rs : List Row) (cs : List ℕ) (es : List Entry) (xs : List Extent) → length es ≡ length xs → length (kept_in rs cs es xs) ≡ length es
kept_length rs cs [] xs e = refl
kept_length rs cs (f ∷ es) [] e = absurd (omega (arith, e))
kept_length rs cs (f ∷ es) (x ∷ xs) e = ap suc (kept_length rs cs es xs (omega arith))

-- what is known of formula g
pub kept_entry : (rs : List Row) (cs : List ℕ) (es : List Entry) (xs : List Extent) (g : ℕ) → length es ≡ length xs → (get_or (kept_in rs cs es xs) g calls.no_formula).entry ≡ known_in es g
kept_entry rs cs [] xs g e = refl
kept_entry rs cs (f ∷ es) [] g e = absurd (omega (arith, e))
kept_entry rs cs (f ∷ es) (x ∷ xs) zero e = refl
kept_entry rs cs (f ∷ es) (x ∷ xs) (suc g) e = kept_entry rs cs es xs g (omega arith)

-- and whether it is withdrawn
pub kept_mark : (rs : List Row) (cs : List ℕ) (es : List Entry) (xs : List Extent) (g : ℕ) → length es ≡ length xs → (get_or (kept_in rs cs es xs) g calls.no_formula).withdrawn ≡ get_or (map mark_of es) g false
kept_mark rs cs [] xs g e = refl
kept_mark rs cs (f ∷ es) [] g e = absurd (omega (arith, e))
kept_mark rs cs (f ∷ es) (x ∷ xs) zero e = refl
kept_mark rs cs (f ∷ es) (x ∷ xs) (suc g) e = kept_mark rs cs es xs g (omega arith)

-- a formula withdrawn
pub kept_withdrawn : (rs : List Row) (cs : List ℕ) (es : List Entry) (xs : List Extent) (g : ℕ) → length es ≡ length xs → g < length es
    → kept_in rs cs (set es g (marked (get_or es g absent))) xs ≡ set (kept_in rs cs es xs) g (calls.marked (get_or (kept_in rs cs es xs) g calls.no_formula))
kept_withdrawn rs cs [] xs g e h = absurd (omega (arith, h))
kept_withdrawn rs cs (f ∷ es) [] g e h = absurd (omega (arith, e))
kept_withdrawn rs cs (f ∷ es) (x ∷ xs) zero e h = refl
kept_withdrawn rs cs (f ∷ es) (x ∷ xs) (suc g) e h =
    ap (λ (ks : List calls.Kept). kept_with f (rows_of x rs) (codes_of x cs) ∷ ks) (kept_withdrawn rs cs es xs g (omega arith) (omega arith))

-- the lines of all formulas
pub kept_lines : (rs : List Row) (cs : List ℕ) (h w : ℕ) (es : List Entry) (xs : List Extent) → length es ≡ length xs → h ≤ length rs → all_stand rs h w xs ≡ true → calls.lines_kept (kept_in rs cs es xs) ≡ row_total xs
kept_lines rs cs h w [] [] e k a = refl
kept_lines rs cs h w [] (x ∷ xs) e k a = absurd (omega (arith, e))
kept_lines rs cs h w (f ∷ es) [] e k a = absurd (omega (arith, e))
kept_lines rs cs h w (f ∷ es) (x ∷ xs) e k a =
    let both = and_parts (stands rs h w x) (all_stand rs h w xs) a in
    let here = and_parts (leb (x.first + x.rows) h && leb (x.start + x.codes) w) (coded x.codes (rows_of x rs)) both.0 in
    let places = and_parts (leb (x.first + x.rows) h) (leb (x.start + x.codes) w) here.0 in
    let end : x.first + x.rows ≤ h = leb-true _ h places.0 in
    λ i. (lines_length (codes_of x cs) (rows_of x rs) ∙ length_part rs x.first x.rows (omega arith)) i + kept_lines rs cs h w es xs (omega arith) k both.1 i

-- the codes of all formulas
pub kept_codes : (rs : List Row) (cs : List ℕ) (h w : ℕ) (es : List Entry) (xs : List Extent) → length es ≡ length xs → w ≤ length cs → all_stand rs h w xs ≡ true → calls.codes_kept (kept_in rs cs es xs) ≡ code_total xs
kept_codes rs cs h w [] [] e k a = refl
kept_codes rs cs h w [] (x ∷ xs) e k a = absurd (omega (arith, e))
kept_codes rs cs h w (f ∷ es) [] e k a = absurd (omega (arith, e))
kept_codes rs cs h w (f ∷ es) (x ∷ xs) e k a =
    let both = and_parts (stands rs h w x) (all_stand rs h w xs) a in
    let here = and_parts (leb (x.first + x.rows) h && leb (x.start + x.codes) w) (coded x.codes (rows_of x rs)) both.0 in
    let places = and_parts (leb (x.first + x.rows) h) (leb (x.start + x.codes) w) here.0 in
    let end : x.start + x.codes ≤ w = leb-true _ w places.1 in
    let own = and_parts (within x.codes (rows_of x rs)) (eqb (code_count (rows_of x rs)) x.codes) here.1 in
    let long : length (codes_of x cs) ≡ x.codes = length_part cs x.start x.codes (omega arith) in
    λ i. (lines_codes (codes_of x cs) x.codes (rows_of x rs) (omega (arith, long)) own.0 ∙ eqb-true _ _ own.1) i + kept_codes rs cs h w es xs (omega arith) k both.1 i

-- the formulas with one more
pub kept_more : (t : Tables) (e : Entry) (rs : List Row) (cs : List ℕ) → length t.entries ≡ 64 → length t.extents ≡ 64 → t.height ≤ length t.rows → t.width ≤ length t.codes → t.count < 64
    → all_stand t.rows t.height t.width (take t.count t.extents) ≡ true → formulas_of (kept t e rs cs) ≡ formulas_of t ++ kept_with e rs cs ∷ []
kept_more t e rs cs entries extents tall wide few stand =
    let x : Extent = record { first = t.height; rows = length rs; start = t.width; codes = length cs } in
    let all : List Row = pasted t.rows t.height rs in
    let codes : List ℕ = pasted t.codes t.width cs in
    let es : List Entry = take t.count t.entries in
    let xs : List Extent = take t.count t.extents in
    let even : length es ≡ length xs = length-take-le t.count t.entries (omega arith) ∙ sym (length-take-le t.count t.extents (omega arith)) in
    (λ i. kept_in all codes (take_more_set t.entries t.count e (omega arith) i) (take_more_set t.extents t.count x (omega arith) i))
    ∙ kept_append all codes es (e ∷ []) xs (x ∷ []) even
    ∙ (λ i. kept_same all t.rows codes t.codes t.height t.width es xs (pasted_before t.rows t.height rs tall) (pasted_before t.codes t.width cs wide) stand_back i
    ++ kept_with e (pasted_there t.rows t.height rs tall i) (pasted_there t.codes t.width cs wide i) ∷ [])
  where
    stand_back : all_stand (pasted t.rows t.height rs) t.height t.width (take t.count t.extents) ≡ true
    stand_back = stands_alike t.rows (pasted t.rows t.height rs) t.height t.width (take t.count t.extents) (sym (pasted_before t.rows t.height rs tall)) stand

-- ---- what was handed over

-- lines, their places and their number of codes depend on what was handed over alone
pub lines_given : (cs : List ℕ) (rs ss : List Row) → givens rs ≡ givens ss → lines_in cs rs ≡ lines_in cs ss
lines_given cs rs ss e = by_given rs ∙ ap (map (line_in cs)) e ∙ sym (by_given ss)
  where
    by_given : (rs : List Row) → lines_in cs rs ≡ map (line_in cs) (givens rs)
    by_given [] = refl
    by_given (r ∷ rs) = ap (λ (ls : List theory.Line). line_in cs r.given ∷ ls) (by_given rs)

-- so are whether the codes stand there and how many there are
pub coded_given : (n : ℕ) (rs ss : List Row) → givens rs ≡ givens ss → coded n rs ≡ coded n ss
coded_given n rs ss e = λ i. (by_place rs ∙ ap placed e ∙ sym (by_place ss)) i && eqb ((by_count rs ∙ ap counted e ∙ sym (by_count ss)) i) n
  where
    placed : List Given → Bool
    placed [] = true
    placed (g ∷ gs) = leb (g.start + g.length) n && placed gs

    counted : List Given → ℕ
    counted [] = 0
    counted (g ∷ gs) = g.length + counted gs

    by_place : (rs : List Row) → within n rs ≡ placed (givens rs)
    by_place [] = refl
    by_place (r ∷ rs) = ap (λ (b : Bool). leb (r.given.start + r.given.length) n && b) (by_place rs)

    by_count : (rs : List Row) → code_count rs ≡ counted (givens rs)
    by_count [] = refl
    by_count (r ∷ rs) = ap (λ (k : ℕ). r.given.length + k) (by_count rs)
