-- The draft and the tables as the theory's draft and formulas.
use Rattle.std.specs.Prelude.{ℕ, List, [], ◌∷◌, take, drop, Some, None, Option}
use Rattle.remora.specs.Formulas as theory
use Rattle.remora.specs.Machine as machine
use Rattle.remora.specs.Calls as calls
use Rattle.lines.specs.Lines.{line_with}
use Rattle.typing.specs.declared.found.Entry.{Entry}
use Rattle.typing.specs.Typings.{types_of}
use Rattle.typing.specs.Plans.{entry_of, planned}
use Rattle.checker.specs.declared.rows.Given.{Given}
use Rattle.checker.specs.declared.rows.Row.{Row}
use Rattle.checker.specs.declared.drafts.Draft.{Draft}
use Rattle.checker.specs.declared.tables.Extent.{Extent}
use Rattle.checker.specs.declared.tables.Tables.{Tables}

-- A line as it was handed over, with its codes out of these.
abbrev pub line_in : List ℕ → Given → theory.Line
line_in cs g = line_with g.fields (take g.length (drop g.start cs))

-- Lines as they were handed over.
abbrev pub lines_in : List ℕ → List Row → List theory.Line
lines_in cs [] = []
lines_in cs (r ∷ rs) = line_in cs r.given ∷ lines_in cs rs

-- The plans of lines.
abbrev pub plans_in : List ℕ → List Row → List machine.Plan
plans_in cs [] = []
plans_in cs (r ∷ rs) = planned (line_in cs r.given) r.found r.offset ∷ plans_in cs rs

-- A draft of this serial, if it has one, with these parameters and lines.
abbrev pub shown : Option ℕ → List theory.ArrayType → List theory.Line → calls.Draft
shown None ps ls = calls.shut
shown (Some n) ps ls = calls.opened n ps ls

-- The draft.
abbrev pub draft_of : Draft → calls.Draft
draft_of d = shown d.serial (types_of (take d.parameters.count d.parameters.all)) (lines_in d.codes (take d.height d.rows))

-- A formula with its lines and codes, of which these are its own.
abbrev pub kept_with : Entry → List Row → List ℕ → calls.Kept
kept_with e rs cs =
    record { formula = record { parameters = types_of (take e.parameters.count e.parameters.all); lines = lines_in cs rs }; entry = entry_of e; plan = plans_in cs rs; withdrawn = e.withdrawn }

-- The lines of a formula, out of all.
abbrev pub rows_of : Extent → List Row → List Row
rows_of x rs = take x.rows (drop x.first rs)

-- The codes of a formula, out of all.
abbrev pub codes_of : Extent → List ℕ → List ℕ
codes_of x cs = take x.codes (drop x.start cs)

-- Formulas whose lines and codes stand in these.
abbrev pub kept_in : List Row → List ℕ → List Entry → List Extent → List calls.Kept
kept_in rs cs [] xs = []
kept_in rs cs (e ∷ es) [] = []
kept_in rs cs (e ∷ es) (x ∷ xs) = kept_with e (rows_of x rs) (codes_of x cs) ∷ kept_in rs cs es xs

-- The formulas by number.
abbrev pub formulas_of : Tables → List calls.Kept
formulas_of t = kept_in t.rows t.codes (take t.count t.entries) (take t.count t.extents)
