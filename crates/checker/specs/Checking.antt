-- The check of a draft's lines: the theory's verdict, what was found, and the forecasts.
use Rattle.std.specs.Prelude.{◌≡◌, ℕ, ◌+◌, ◌*◌, ◌^◌, ◌≤◌, max, true, false, cond, List, [], ◌∷◌, ◌++◌, map, length, take, drop, Some, None, Ok, Err, Option, Result}
use Rattle.remora.specs.Algebras.{Meaning}
use Rattle.remora.specs.Formulas as theory
use Rattle.remora.specs.Questions.{first_no, questions, Verdict, all_typed, refused_at, before, judge}
use Rattle.remora.specs.Forecasts.{atoms, lines_steps, room_from, deepest, limited, within_limits}
use Rattle.remora.specs.Forecasts.{entry_of as entry_for}
use Rattle.remora.specs.Machine.{plans}
use Rattle.remora.specs.Calls.{Answer, refused}
use Rattle.lines.specs.declared.refusals.Refusal.{Refusal}
use Rattle.lines.specs.Refusals.{answer_of}
use Rattle.shapes.specs.declared.ArrayType.{ArrayType}
use Rattle.typing.specs.declared.parameters.Parameters.{Parameters}
use Rattle.typing.specs.declared.found.Entry.{Entry}
use Rattle.typing.specs.Typings.{types_of, Refused}
use Rattle.typing.specs.Plans.{entry_of, known_in, usable_in, AllAllowed, Found}
use Rattle.checker.specs.declared.rows.Given.{Given}
use Rattle.checker.specs.declared.rows.Row.{Row}
use Rattle.checker.specs.declared.drafts.Draft.{Draft}
use Rattle.checker.specs.declared.forecasts.Forecast.{Forecast}
use Rattle.checker.specs.Views.{line_in, lines_in, plans_in}
use Rattle.checker.specs.Forecasting.{room_in}

-- What was handed over of lines.
abbrev pub givens : List Row → List Given
givens rs = map (λ r. r.given) rs

-- ---- one line

-- One line typed after lines of these types and put at this place: what was handed over stays; a refusal leaves the whole line as it was.
abbrev pub RowTyped : Meaning → List Entry → List theory.ArrayType → List theory.ArrayType → List ℕ → ℕ → ℕ → Row → Result (Unit {0}) Refusal → Row → Type 0
RowTyped m es ps types cs line place r (Ok u) s =
    (s.given ≡ r.given) × (s.offset ≡ place)
    × (first_no (questions m (length es) (known_in es) (usable_in es) ps types (line_in cs s.given)) ≡ None) × Found m (known_in es) ps types (line_in cs s.given) s.found
RowTyped m es ps types cs line place r (Err e) s = Refused (questions m (length es) (known_in es) (usable_in es) ps types (line_in cs r.given)) line e × (s ≡ r)

-- ---- all lines

-- The theory's verdict on the lines of a draft.
abbrev pub verdict : Meaning → List Entry → List theory.ArrayType → List theory.ArrayType → List theory.Line → Verdict
verdict m es ps types ls = judge m (length es) (known_in es) (usable_in es) ps types ls

-- Typed lines before a verdict.
abbrev pub before_all : List theory.TypedLine → Verdict → Verdict
before_all [] v = v
before_all (r ∷ rs) v = before r (before_all rs v)

-- The atoms of lines.
abbrev pub atoms_in : List theory.TypedLine → ℕ
atoms_in [] = 0
atoms_in (r ∷ rs) = atoms r + atoms_in rs

-- The first k lines are typed: the verdict on all is that on the rest behind them, and what was found of them is their plan and their forecast.
pub record Progress (m : Meaning) (es : List Entry) (ps : List theory.ArrayType) (cs : List ℕ) (first : List Row) (k : ℕ) (types : List ArrayType) (rows : List Row) (f : Forecast) : Type 0 where
  pub done : List theory.TypedLine
  pub judged : verdict m es ps [] (lines_in cs first) ≡ before_all done (verdict m es ps (theory.types_of done) (drop k (lines_in cs first)))
  pub types_are : types_of (take k types) ≡ theory.types_of done
  pub small : AllAllowed (theory.types_of done)
  pub given : givens rows ≡ givens first
  pub planned : plans_in cs (take k rows) ≡ plans m (known_in es) [] 0 done
  pub steps : f.steps ≡ lines_steps (known_in es) done
  pub place : f.place ≡ atoms_in done
  pub most : (rest : List theory.TypedLine) → room_from (known_in es) 0 (done ++ rest) ≡ max f.most (room_from (known_in es) f.place rest)
  pub depth : f.depth ≡ deepest (known_in es) done
  pub few_steps : f.steps ≤ k * 2 ^ 64
  pub few_atoms : f.place ≤ k * 65536

-- All lines are typed, and this is what was found of them.
pub record Checked (m : Meaning) (es : List Entry) (ps : List theory.ArrayType) (cs : List ℕ) (first rows : List Row) (f : Forecast) : Type 0 where
  pub typed : List theory.TypedLine
  pub judged : verdict m es ps [] (lines_in cs first) ≡ all_typed typed
  pub given : givens rows ≡ givens first
  pub planned : plans_in cs rows ≡ plans m (known_in es) [] 0 typed
  pub steps : f.steps ≡ lines_steps (known_in es) typed
  pub room : room_in f ≡ room_from (known_in es) 0 typed
  pub depth : f.depth ≡ deepest (known_in es) typed
  pub few_steps : f.steps ≤ length first * 2 ^ 64

-- The lines are refused, by the number of the first no and with the lowest line that has one.
pub record RefusedBy (v : Verdict) (e : Refusal) : Type 0 where
  pub number : ℕ
  pub line : ℕ
  pub judged : v ≡ refused_at number line
  pub answer : answer_of e ≡ refused number (Some line)

-- The check of a draft's lines.
abbrev pub CheckedAs : Meaning → List Entry → List theory.ArrayType → List ℕ → List Row → Result Forecast Refusal → List Row → Type 0
CheckedAs m es ps cs first (Ok f) rows = Checked m es ps cs first rows f
CheckedAs m es ps cs first (Err e) rows = RefusedBy (verdict m es ps [] (lines_in cs first)) e × (givens rows ≡ givens first)

-- ---- the whole draft

-- What stands behind a verdict: a refusal with its number and line, or by 14 if the forecasts are beyond the limits, or none.
abbrev pub refusal_of : (ℕ → theory.Entry) → List theory.ArrayType → Verdict → Option Answer
refusal_of E ps (all_typed rs) = cond (within_limits (entry_for E ps rs)) None (Some (refused 14 None))
refusal_of E ps (refused_at q k) = Some (refused q (Some k))

-- The draft with other lines in place of its own.
abbrev pub with_rows : Draft → List Row → Draft
with_rows d rs = record { serial = d.serial; parameters = d.parameters; rows = rs; height = d.height; codes = d.codes; width = d.width }

-- The forecasts of a formula, by those of its lines, are within the limits; what is then known of the formula.
abbrev pub LimitedBy : Parameters → ArrayType → Forecast → Result Entry Refusal → Type 0
LimitedBy ps result f (Ok e) =
    (limited (1 + f.steps) (room_in f) (1 + f.depth) ≡ true) × (e ≡ record { parameters = ps; result = result; steps = 1 + f.steps; room = room_in f; depth = 1 + f.depth; withdrawn = false })
LimitedBy ps result f (Err x) = (limited (1 + f.steps) (room_in f) (1 + f.depth) ≡ false) × (answer_of x ≡ refused 14 None)

-- What is known of a formula once its lines are checked, if the forecasts are within the limits.
abbrev pub Limited : (ℕ → theory.Entry) → List theory.ArrayType → List theory.TypedLine → Result Entry Refusal → Type 0
Limited E ps rs (Ok e) = (within_limits (entry_for E ps rs) ≡ true) × (entry_of e ≡ entry_for E ps rs) × (e.withdrawn ≡ false)
Limited E ps rs (Err x) = (within_limits (entry_for E ps rs) ≡ false) × (answer_of x ≡ refused 14 None)

-- A draft is checked: its lines stay as they were handed over; they are typed, with these plans, and this is known of the formula; or the refusal is the one for the verdict.
pub record Accepted (m : Meaning) (es : List Entry) (d : Draft) (rows : List Row) (e : Entry) : Type 0 where
  pub typed : List theory.TypedLine
  pub judged : verdict m es (types_of (take d.parameters.count d.parameters.all)) [] (lines_in d.codes (take d.height d.rows)) ≡ all_typed typed
  pub planned : plans_in d.codes (take d.height rows) ≡ plans m (known_in es) [] 0 typed
  pub limited : Limited (known_in es) (types_of (take d.parameters.count d.parameters.all)) typed (Ok e)

-- The check of a draft.
abbrev pub DraftCheckedAs : Meaning → List Entry → Draft → Result Entry Refusal → List Row → Type 0
DraftCheckedAs m es d (Ok e) rows = Accepted m es d rows e
DraftCheckedAs m es d (Err x) rows = refusal_of (known_in es) (types_of (take d.parameters.count d.parameters.all)) (verdict m es (types_of (take d.parameters.count d.parameters.all)) [] (lines_in d.codes (take d.height d.rows))) ≡ Some (answer_of x)

-- And nothing but what was found is changed.
pub record DraftChecked (m : Meaning) (es : List Entry) (d : Draft) (r : Result Entry Refusal) (u : Draft) : Type 0 where
  pub told : DraftCheckedAs m es d r u.rows
  pub same : u ≡ with_rows d u.rows
  pub given : givens (take d.height u.rows) ≡ givens (take d.height d.rows)
  pub long : length u.rows ≡ length d.rows
