-- A collection as the theory's state.
use Rattle.std.specs.Prelude.{ℕ}
use Rattle.remora.specs.Calls.{State, absent}
use Rattle.checker.specs.declared.drafts.Draft.{Draft}
use Rattle.checker.specs.declared.tables.Tables.{Tables}
use Rattle.checker.specs.Views.{draft_of, formulas_of}
use Rattle.collection.specs.declared.holdings.Collection.{Collection}

-- The state of a collection that opened so many drafts, with this draft and these tables.
abbrev pub state_with : ℕ → Draft → Tables → State
state_with n d t = record { serials = n; draft = draft_of d; formulas = formulas_of t; run = absent }

-- The state of a collection.
abbrev pub state_of : {A : Type 0} → Collection A → State
state_of c = state_with c.serials c.draft c.tables
