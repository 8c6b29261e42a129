-- Where the codes of a command come from.
use Rattle.std.specs.Prelude.{◌≡◌, ℕ, Bool, true, false, List}
use Rattle.scripts.specs.declared.fields.Codes.{Codes}
use Rattle.scripts.specs.declared.fields.Codes.TheVariants.{Given, File}

-- Codes that stand in the script are these.
abbrev pub Gives : Codes → List ℕ → Type 0
Gives (Given cs) xs = xs ≡ cs.items
Gives (File path) xs = Unit {0}

-- The codes stand in a file.
abbrev pub in_file : Codes → Bool
in_file (Given cs) = false
in_file (File path) = true
