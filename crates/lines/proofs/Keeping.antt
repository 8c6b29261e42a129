-- The kinds of lines are those of the theory.
use Rattle.std.proofs.Common.{◌≡◌, refl}
use Rattle.remora.specs.Formulas as theory
use Rattle.lines.specs.declared.given.Kind.{Kind}
use Rattle.lines.specs.declared.given.Kind.TheVariants.{Literal, Parameter, Frame, Operator, Call, Fold, Append, Reverse}
use Rattle.lines.specs.Lines.{number_for, kind_for}

-- the number of a kind is that of the theory's
pub kind_is : (k : Kind) → theory.kind_of (number_for k) ≡ kind_for k
kind_is Literal = refl
kind_is Parameter = refl
kind_is Frame = refl
kind_is Operator = refl
kind_is Call = refl
kind_is Fold = refl
kind_is Append = refl
kind_is Reverse = refl
