-- The theorems on typing, evaluation and the course of histories; Histories has the law and the bounds.
use Rattle.std.specs.Prelude.{◌≡◌, ℕ, ◌+◌, ◌<◌, Bool, true, List, [], ◌∷◌, ◌++◌, length, Some}
use Rattle.remora.specs.Shapes.{Shape, size, agree, principal, Join}
use Rattle.remora.specs.Algebras.{Sample, Meaning, Formed}
use Rattle.remora.specs.Formulas.{ArrayType, Line, Formula, Entry, TypedLine, types_of}
use Rattle.remora.specs.Typing.{InSet, Types, TypesAll}
use Rattle.remora.specs.Questions.{AllYes, first_no, typed, questions, Verdict, all_typed, refused_at, judge}
use Rattle.remora.specs.Evaluation.{Outcome, yields, faults}
use Rattle.remora.specs.Numbers.{known, outcome, AllTyped}
use Rattle.remora.specs.Calls.{State, empty, Call, parameter_atoms, codes_fit, serve}
use Rattle.remora.specs.Histories.{Event, event, Led, Caused}

-- ---- frames

-- The principal frame of frames that agree is their join, and frames that have a join agree and have no other.
abbrev pub PrincipalFrameIsJoin : Type 0
PrincipalFrameIsJoin = (fs : List Shape) → (agree fs ≡ true → Join fs (principal fs)) × ((p : Shape) → Join fs p → (agree fs ≡ true) × (p ≡ principal fs))

-- ---- typing

-- All questions of a line are answered by yes exactly when the typing relation gives the line a type, and it is the one that the questions find.
abbrev pub QuestionsDecideTyping : Type 0
QuestionsDecideTyping =
    (m : Meaning) (n : ℕ) (E : ℕ → Entry) (usable : ℕ → Bool) (ps types : List ArrayType) (l : Line)
    → (AllYes (questions m n E usable ps types l) → Types m n E usable ps types l (typed m E ps types l))
    × ((r : TypedLine) → Types m n E usable ps types l r → AllYes (questions m n E usable ps types l) × (r ≡ typed m E ps types l))

-- The lowest line with a no: the lines before it are typed, and the number is that of its first no.
pub record RefusedAt (m : Meaning) (n : ℕ) (E : ℕ → Entry) (usable : ℕ → Bool) (ps types : List ArrayType) (ls : List Line) (q k : ℕ) : Type 0 where
  pub past : List Line
  pub line : Line
  pub rest : List Line
  pub before : List TypedLine
  pub apart : ls ≡ past ++ line ∷ rest
  pub typed_before : TypesAll m n E usable ps types past before
  pub number : k ≡ length types + length past
  pub the_first_no : first_no (questions m n E usable ps (types ++ types_of before) line) ≡ Some q

-- What a verdict says of a draft: that its lines are typed, or which line is the lowest with a no.
abbrev pub Says : Meaning → ℕ → (ℕ → Entry) → (ℕ → Bool) → List ArrayType → List ArrayType → List Line → Verdict → Type 0
Says m n E usable ps types ls (all_typed rs) = TypesAll m n E usable ps types ls rs
Says m n E usable ps types ls (refused_at q k) = RefusedAt m n E usable ps types ls q k

-- The verdict on a draft is right, and a draft that is typed is found to be.
abbrev pub VerdictDecidesTyping : Type 0
VerdictDecidesTyping =
    (m : Meaning) (n : ℕ) (E : ℕ → Entry) (usable : ℕ → Bool) (ps types : List ArrayType) (ls : List Line)
    → Says m n E usable ps types ls (judge m n E usable ps types ls)
    × ((rs : List TypedLine) → TypesAll m n E usable ps types ls rs → judge m n E usable ps types ls ≡ all_typed rs)

-- ---- evaluation

-- An outcome is of this type: as many codes as its size, all of its base type; or a fault whose cause is the algebra's own.
abbrev pub OfType : Meaning → ArrayType → Outcome ℕ → Type 0
OfType m t (yields ys) = (length ys ≡ size t.shape) × InSet m.holds t.base ys
OfType m t (faults x) = Caused m x

-- A typed formula on codes of its parameters' types has an outcome of its result type.
abbrev pub TypedFormulasAreSound : Type 0
TypedFormulasAreSound =
    (m : Meaning) → Formed m → (fs : List Formula) → AllTyped m fs → (g : ℕ) → g < length fs → (cs : List ℕ) → length cs ≡ parameter_atoms (known m fs g).parameters
    → codes_fit m.holds (known m fs g).parameters cs ≡ true → OfType m (known m fs g).result (outcome m fs g cs)

-- ---- histories

-- A new collection has the empty history, whatever the store; and each call carries a history on.
pub record HistoriesGoOn : Type 0 where
  pub starts : (m : Meaning) (S : List Sample) → Led m [] empty S
  pub goes_on : (m : Meaning) (h : List Event) (s : State) (S : List Sample) (c : Call) → Led m h s S
      → Led m (h ++ event c (serve m s S c).answer ∷ []) (serve m s S c).state (serve m s S c).store
