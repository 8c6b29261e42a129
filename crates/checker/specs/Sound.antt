-- What the numbers in the draft and the tables keep to, whatever the algebra.
use Rattle.std.specs.Prelude.{ℕ, ◌+◌, Bool, true, ◌&&◌, List, [], ◌∷◌, length, take, ◌==◌, nat_le}
use Rattle.checker.specs.declared.rows.Row.{Row}
use Rattle.checker.specs.declared.drafts.Draft.{Draft}
use Rattle.checker.specs.declared.tables.Extent.{Extent}
use Rattle.checker.specs.declared.tables.Tables.{Tables}
use Rattle.checker.specs.Views.{rows_of}

-- The codes of each line stand among the first n.
abbrev pub within : ℕ → List Row → Bool
within n [] = true
within n (r ∷ rs) = nat_le (r.given.start + r.given.length) n && within n rs

-- How many codes lines have.
abbrev pub code_count : List Row → ℕ
code_count [] = 0
code_count (r ∷ rs) = r.given.length + code_count rs

-- Lines have this many codes, which all stand among the first so many.
abbrev pub coded : ℕ → List Row → Bool
coded n rs = within n rs && code_count rs == n

-- A formula's lines stand among the first `height`, its codes among the first `width`, and its lines have those codes.
abbrev pub stands : List Row → ℕ → ℕ → Extent → Bool
stands rs height width x = (nat_le (x.first + x.rows) height && nat_le (x.start + x.codes) width) && coded x.codes (rows_of x rs)

-- Each formula does.
abbrev pub all_stand : List Row → ℕ → ℕ → List Extent → Bool
all_stand rs height width [] = true
all_stand rs height width (x ∷ xs) = stands rs height width x && all_stand rs height width xs

-- The lines of formulas.
abbrev pub row_total : List Extent → ℕ
row_total [] = 0
row_total (x ∷ xs) = x.rows + row_total xs

-- The codes of formulas.
abbrev pub code_total : List Extent → ℕ
code_total [] = 0
code_total (x ∷ xs) = x.codes + code_total xs

-- The draft has at most 64 lines, and its codes are those of its lines.
abbrev pub draft_sound : Draft → Bool
draft_sound d = nat_le d.height 64 && coded d.width (take d.height d.rows)

-- There are at most 64 formulas, and their lines and codes are all that there are.
abbrev pub tables_sound : Tables → Bool
tables_sound t =
    nat_le t.count 64
    && (all_stand t.rows t.height t.width (take t.count t.extents)
    && (row_total (take t.count t.extents) == t.height && code_total (take t.count t.extents) == t.width))

-- Draft and tables together have at most 1,024 lines and 4,096 codes.
abbrev pub both_sound : Draft → Tables → Bool
both_sound d t = nat_le (t.height + d.height) 1024 && nat_le (t.width + d.width) 4096

-- The arrays have their lengths.
abbrev pub sized : Draft → Tables → Bool
sized d t =
    (length d.rows == 64 && length d.codes == 4096)
    && ((length t.entries == 64 && length t.extents == 64) && (length t.rows == 1024 && length t.codes == 4096))

-- Draft and tables are sound.
abbrev pub sound : Draft → Tables → Bool
sound d t = (draft_sound d && tables_sound t) && (both_sound d t && sized d t)
