-- What the values that are read hold, as numbers and lists.
use Rattle.std.specs.Prelude.{ℕ, List, map, Some, None, vec_items, string_bytes, Option, Vec}
use Rattle.std.specs.Borrow.{Bor}
use Rattle.std.specs.declared.alloc.Global.{Global}
use Rattle.scripts.specs.declared.names.TypeWord.{TypeWord}
use Rattle.scripts.specs.declared.fields.Codes.{Codes}
use Rattle.scripts.specs.declared.fields.Codes.TheVariants.{Given, File}
use Rattle.scripts.specs.declared.fields.LineFields.{LineFields}
use Rattle.scripts.specs.declared.commands.Command.{Command}
use Rattle.scripts.specs.declared.commands.Command.TheVariants.{Nothing, Algebra, Store, Open, Line, Enter, Scrap, Withdraw, Entry, Begin, Step, Result, Close, Run}
use Rattle.scripts.specs.Names.{Typed}
use Rattle.scripts.specs.Fields.{CodesMeant, numbers, path, LineMeant}
use Rattle.scripts.specs.Commands as commands
use Rattle.scripts.specs.Commands.{Meant}

-- A type that was read.
abbrev pub type_seen : TypeWord → Typed
type_seen t = record { base = t.base; axes = vec_items t.axes }

-- A part of the text, if there is one.
abbrev pub text_seen : Option (Bor (List ℕ)) → Option (List ℕ)
text_seen None = None
text_seen (Some t) = Some t.now

-- Codes that were read.
abbrev pub codes_seen : Codes → CodesMeant
codes_seen (Given v) = numbers (vec_items v)
codes_seen (File s) = path (string_bytes s)

-- The fields of a line that was read.
abbrev pub line_seen : LineFields → LineMeant
line_seen l = record {
  slip = l.slip;
  kind = l.kind;
  base = l.base;
  function = l.function;
  shape = vec_items l.shape;
  operands = vec_items l.operands;
  codes = codes_seen l.codes;
}

-- Types that were read.
abbrev pub types_seen : Vec TypeWord Global → List Typed
types_seen v = map type_seen (vec_items v)

-- A formula and codes that were read.
abbrev pub pair_seen : (ℕ × Codes) → (ℕ × CodesMeant)
pair_seen p = (p.0, codes_seen p.1)

-- A command that was read.
abbrev pub command_seen : Command → Meant
command_seen Nothing = commands.nothing
command_seen (Algebra a) = commands.algebra a
command_seen (Store n) = commands.store n
command_seen (Open ts) = commands.opens (types_seen ts)
command_seen (Line l) = commands.line (line_seen l)
command_seen (Enter s) = commands.enter s
command_seen (Scrap s) = commands.scrap s
command_seen (Withdraw n) = commands.withdraw n
command_seen (Entry n) = commands.entry n
command_seen (Begin n cs) = commands.begin n (codes_seen cs)
command_seen (Step n) = commands.step n
command_seen (Result n) = commands.result n
command_seen Close = commands.close
command_seen (Run n cs) = commands.run n (codes_seen cs)
