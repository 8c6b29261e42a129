-- Formulas by number: a list of them, newest first, so that a formula calls only formulas further down the list.
use Rattle.std.specs.Prelude.{ℕ, Bool, true, false, List, [], ◌∷◌, length, take, drop, ◌==◌}
use Rattle.remora.specs.Shapes.{size}
use Rattle.remora.specs.Algebras.{Meaning}
use Rattle.remora.specs.Formulas.{ArrayType, no_type, Formula, Entry, TypedLine}
use Rattle.remora.specs.Typing.{TypesAll}
use Rattle.remora.specs.Questions.{typed_lines}
use Rattle.remora.specs.Forecasts.{entry_of}
use Rattle.remora.specs.Evaluation.{Array, array_of, Outcome, yields, Operations, on_codes, eval_lines}

-- a if the test says so, else b.
abbrev pub pick : {Z : Type 0} → Bool → Z → Z → Z
pick true a b = a
pick false a b = b

-- The typed lines of a formula, by what is known of the formulas before it.
abbrev pub lines_of : Meaning → (ℕ → Entry) → Formula → List TypedLine
lines_of m E f = typed_lines m E f.parameters [] f.lines

-- What is known of a number that was not given.
abbrev pub no_entry : Entry
no_entry = record { parameters = []; result = no_type; steps = 0; room = 0; depth = 0 }

-- What is known of formula g.
unfoldable pub known : Meaning → List Formula → ℕ → Entry
known m [] g = no_entry
known m (f ∷ fs) g = pick (g == length fs) (entry_of (known m fs) f.parameters (lines_of m (known m fs) f)) (known m fs g)

-- Evaluation of formula g on its arguments.
unfoldable pub eval : {X : Type 0} → Meaning → Operations X → List Formula → ℕ → List (Array X) → Outcome X
eval m O [] g args = yields []
eval m O (f ∷ fs) g args =
    pick (g == length fs) (eval_lines m O (known m fs) (eval m O fs) g args [] (lines_of m (known m fs) f)) (eval m O fs g args)

-- The arguments of these types whose items stand one behind the other.
abbrev pub arguments : {X : Type 0} → List ArrayType → List X → List (Array X)
arguments [] xs = []
arguments (t ∷ ts) xs = array_of t (take (size t.shape) xs) ∷ arguments ts (drop (size t.shape) xs)

-- The outcome of formula g, as it was entered, on argument codes.
abbrev pub outcome : Meaning → List Formula → ℕ → List ℕ → Outcome ℕ
outcome m fs g cs = eval m (on_codes m) fs g (arguments (known m fs g).parameters cs)

-- Every formula may be called.
abbrev pub any_number : ℕ → Bool
any_number g = true

-- Each formula is typed, calling formulas further down.
abbrev pub AllTyped : Meaning → List Formula → Type 0
AllTyped m [] = Unit {0}
AllTyped m (f ∷ fs) = TypesAll m (length fs) (known m fs) any_number f.parameters [] f.lines (lines_of m (known m fs) f) × AllTyped m fs
