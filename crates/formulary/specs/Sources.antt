-- What a trace is read from, and what messages call it.
use Rattle.std.specs.Prelude.{ℕ, List, Some, None, string_bytes, codes, Option, String}
use Rattle.std.specs.declared.alloc.Global.{Global}
use Rattle.formulary.specs.declared.Source.{Source}
use Rattle.formulary.specs.declared.Source.TheVariants.{File, StandardInput}

-- The source that the first argument names, if there is one.
abbrev pub source_of : Option (String Global) → Source
source_of (Some name) = File name
source_of None = StandardInput

-- The name of a source.
abbrev pub name_of : Source → List ℕ
name_of (File name) = string_bytes name
name_of StandardInput = codes "standard input"
