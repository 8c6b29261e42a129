-- What the functions of the draft and the tables leave.
use Rattle.std.specs.Prelude.{ℕ, ◌+◌, true, false, List, [], ◌++◌, length, take, drop, replicate, slice_index_or, slice_set, Some, None}
use Rattle.lines.specs.declared.fields.Fields.{Fields}
use Rattle.lines.specs.declared.given.Kind.TheVariants.{Literal}
use Rattle.shapes.specs.declared.ArrayType.{ArrayType}
use Rattle.shapes.specs.declared.Shape.{Shape}
use Rattle.typing.specs.declared.parameters.Parameters.{Parameters}
use Rattle.typing.specs.declared.found.Entry.{Entry}
use Rattle.typing.specs.declared.found.Typed.{Typed}
use Rattle.checker.specs.declared.rows.Row.{Row}
use Rattle.checker.specs.declared.drafts.Draft.{Draft}
use Rattle.checker.specs.declared.tables.Tables.{Tables}

-- These written over the ones from place n on.
abbrev pub pasted : {X : Type 0} → List X → ℕ → List X → List X
pasted xs n ys = take n xs ++ (ys ++ drop (n + length ys) xs)

-- ---- what there is at first

-- The type without atoms.
abbrev pub nothing : ArrayType
nothing = record { base = 0; shape = record { axes = replicate 4 0; rank = 1 } }

-- No parameters.
abbrev pub none : Parameters
none = record { all = replicate 4 nothing; count = 0 }

-- What stands where nothing was found.
abbrev pub not_found : Typed
not_found = record { array = nothing; cells = 0; items = record { number = 0; atoms = 0 }; lifts = replicate 4 (record { repeats = 0; size = 0 }) }

-- A line with these fields and its codes, which begin at this place.
abbrev pub row_with : Fields → ℕ → ℕ → Row
row_with f start n = record { given = record { fields = f; start = start; length = n }; found = not_found; offset = 0 }

-- What stands where there is no line.
abbrev pub blank : Row
blank = row_with (record { kind = Literal; base = 0; shape = record { axes = replicate 4 0; rank = 0 }; function = 0; operands = replicate 4 0; count = 0 }) 0 0

-- No draft was opened yet.
abbrev pub no_draft : Draft
no_draft = record { serial = None; parameters = none; rows = replicate 64 blank; height = 0; codes = replicate 4096 0; width = 0 }

-- What stands where there is no formula.
abbrev pub unknown : Entry
unknown = record { parameters = none; result = nothing; steps = 0; room = 0; depth = 0; withdrawn = false }

-- No formula was entered yet.
abbrev pub no_tables : Tables
no_tables = record { entries = replicate 64 unknown; extents = replicate 64 (record { first = 0; rows = 0; start = 0; codes = 0 }); count = 0; rows = replicate 1024 blank; height = 0; codes = replicate 4096 0; width = 0 }

-- ---- the draft

-- A draft that was opened.
abbrev pub begun : Draft → ℕ → Parameters → Draft
begun d serial ps = record { serial = Some serial; parameters = ps; rows = d.rows; height = 0; codes = d.codes; width = 0 }

-- A draft with one more line.
abbrev pub grown : Draft → Fields → List ℕ → Draft
grown d f cs =
    record { serial = d.serial; parameters = d.parameters; rows = slice_set d.rows d.height (row_with f d.width (length cs)); height = d.height + 1; codes = pasted d.codes d.width cs; width = d.width + length cs }

-- No draft.
abbrev pub dropped : Draft → Draft
dropped d = record { serial = None; parameters = d.parameters; rows = d.rows; height = 0; codes = d.codes; width = 0 }

-- ---- the tables

-- The tables with one more formula.
abbrev pub kept : Tables → Entry → List Row → List ℕ → Tables
kept t e rs cs =
    record {
      entries = slice_set t.entries t.count e;
      extents = slice_set t.extents t.count (record { first = t.height; rows = length rs; start = t.width; codes = length cs });
      count = t.count + 1;
      rows = pasted t.rows t.height rs;
      height = t.height + length rs;
      codes = pasted t.codes t.width cs;
      width = t.width + length cs;
    }

-- What a read past the end of the entries stands for.
abbrev pub no_shape : Shape
no_shape = record { axes = []; rank = 0 }

-- What a read past the end of the entries stands for.
abbrev pub absent : Entry
absent = record { parameters = record { all = []; count = 0 }; result = record { base = 0; shape = no_shape }; steps = 0; room = 0; depth = 0; withdrawn = false }

-- A formula with the mark of withdrawal.
abbrev pub marked : Entry → Entry
marked e = record { parameters = e.parameters; result = e.result; steps = e.steps; room = e.room; depth = e.depth; withdrawn = true }

-- The tables with a formula withdrawn.
abbrev pub withdrawn_at : Tables → ℕ → Tables
withdrawn_at t g =
    record { entries = slice_set t.entries g (marked (slice_index_or t.entries g absent)); extents = t.extents; count = t.count; rows = t.rows; height = t.height; codes = t.codes; width = t.width }
