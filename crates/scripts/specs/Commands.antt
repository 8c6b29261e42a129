-- What one line of a script says.
use Rattle.std.specs.Prelude.{ℕ, cond, List, [], ◌∷◌, Some, None, Ok, Err, codes, Option, ◌==◌, slice_index}
use Rattle.scripts.specs.declared.names.AlgebraName.{AlgebraName}
use Rattle.scripts.specs.declared.fields.FieldSet.TheVariants.{OnlySlip, OnlyCodes}
use Rattle.scripts.specs.declared.commands.Verb.{Verb}
use Rattle.scripts.specs.declared.commands.Verb.TheVariants.{Algebra, Store, Open, Line, Enter, Scrap, Withdraw, Entry, Begin, Step, Result, Close, Run}
use Rattle.scripts.specs.Readings.{Fault, Said, and_then, or_fault, all_said, no_command, surplus, missing_number, missing_algebra}
use Rattle.scripts.specs.Words.{words_of}
use Rattle.scripts.specs.Numbers.{number_said, limit}
use Rattle.scripts.specs.Names.{algebra_said, lookup, Typed, type_of}
use Rattle.scripts.specs.Fields.{field_names, known, slip_of, codes_of, line_of, CodesMeant, LineMeant}

-- What a line may say.
pub data Meant : Type 0 where
  nothing : Meant
  algebra : AlgebraName → Meant
  store : ℕ → Meant
  opens : List Typed → Meant
  line : LineMeant → Meant
  enter : Option ℕ → Meant
  scrap : Option ℕ → Meant
  withdraw : ℕ → Meant
  entry : ℕ → Meant
  begin : ℕ → CodesMeant → Meant
  step : Option ℕ → Meant
  result : Option ℕ → Meant
  close : Meant
  run : ℕ → CodesMeant → Meant

-- The names of the commands.
abbrev pub verbs : List (List ℕ × Verb)
verbs =
    (codes "algebra", Algebra) ∷ (codes "store", Store) ∷ (codes "open", Open) ∷ (codes "line", Line) ∷ (codes "enter", Enter)
    ∷ (codes "scrap", Scrap) ∷ (codes "withdraw", Withdraw) ∷ (codes "entry", Entry) ∷ (codes "begin", Begin) ∷ (codes "step", Step)
    ∷ (codes "result", Result) ∷ (codes "close", Close) ∷ (codes "run", Run) ∷ []

-- The command that a word names.
abbrev pub verb_of : List ℕ → Option Verb
verb_of w = lookup verbs w

-- No word.
abbrev pub nothing_in : List (List ℕ) → Said (Unit {0})
nothing_in [] = Ok tt
nothing_in (w ∷ ws) = Err (surplus w)

-- One word, or else what is missing.
abbrev pub only_word : Fault → List (List ℕ) → Said (List ℕ)
only_word missing [] = Err missing
only_word missing (w ∷ ws) = and_then (nothing_in ws) (λ _. Ok w)

-- One number.
abbrev pub only_number : List (List ℕ) → Said ℕ
only_number ws = and_then (only_word missing_number ws) number_said

-- The number of one formula.
abbrev pub only_formula : List (List ℕ) → Said ℕ
only_formula ws = and_then (only_number ws) (λ n. Ok (limit n))

-- One algebra.
abbrev pub only_algebra : List (List ℕ) → Said AlgebraName
only_algebra ws = and_then (only_word missing_algebra ws) algebra_said

-- A slip that may be named, and nothing more.
abbrev pub only_slip : List (List ℕ) → Said (Option ℕ)
only_slip ws = and_then (known (field_names OnlySlip) ws) (λ _. slip_of ws)

-- One number, or none.
abbrev pub may_number : List (List ℕ) → Said (Option ℕ)
may_number [] = Ok None
may_number (w ∷ ws) = and_then (number_said w) (λ n. and_then (nothing_in ws) (λ _. Ok (Some n)))

-- The number of a formula, and codes that may follow.
abbrev pub formula_codes : List (List ℕ) → Said (ℕ × CodesMeant)
formula_codes [] = Err missing_number
formula_codes (w ∷ ws) = and_then (number_said w) (λ n. and_then (known (field_names OnlyCodes) ws) (λ _. and_then (codes_of ws) (λ cs. Ok (limit n, cs))))

-- The types that these words say, if each says one.
abbrev pub types_of : AlgebraName → List (List ℕ) → Said (List Typed)
types_of a ws = all_said (type_of a) ws

-- What the words behind the name of a command say.
abbrev pub arguments_of : AlgebraName → Verb → List (List ℕ) → Said Meant
arguments_of a Algebra ws = and_then (only_algebra ws) (λ n. Ok (algebra n))
arguments_of a Store ws = and_then (only_number ws) (λ n. Ok (store n))
arguments_of a Open ws = and_then (types_of a ws) (λ ts. Ok (opens ts))
arguments_of a Line ws = and_then (line_of a ws) (λ l. Ok (line l))
arguments_of a Enter ws = and_then (only_slip ws) (λ s. Ok (enter s))
arguments_of a Scrap ws = and_then (only_slip ws) (λ s. Ok (scrap s))
arguments_of a Withdraw ws = and_then (only_formula ws) (λ n. Ok (withdraw n))
arguments_of a Entry ws = and_then (only_formula ws) (λ n. Ok (entry n))
arguments_of a Begin ws = and_then (formula_codes ws) (λ p. Ok (begin p.0 p.1))
arguments_of a Step ws = and_then (may_number ws) (λ n. Ok (step n))
arguments_of a Result ws = and_then (may_number ws) (λ n. Ok (result n))
arguments_of a Close ws = and_then (nothing_in ws) (λ _. Ok close)
arguments_of a Run ws = and_then (formula_codes ws) (λ p. Ok (run p.0 p.1))

-- What these words say in a session that works in this algebra.
abbrev pub said : AlgebraName → List (List ℕ) → Said Meant
said a [] = Ok nothing
said a (w ∷ ws) = cond (slice_index w 0 == 35) (Ok nothing) (and_then (or_fault (verb_of w) (no_command w)) (λ v. arguments_of a v ws))

-- What a line says in a session that works in this algebra.
abbrev pub meaning : AlgebraName → List ℕ → Said Meant
meaning a text = said a (words_of text)
