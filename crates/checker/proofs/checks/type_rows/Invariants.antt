-- The lines so far are typed.
use Rattle.std.proofs.Common.{◌≡◌, length}
use Rattle.typing.specs.Typings.{types_of}
use Rattle.checker.specs.Checking.{Progress}
use Rattle.checker.proofs.checks.type_rows.Given as goal

abbrev pub invariant-loop-k : goal.invariant-loop-k
invariant-loop-k g l =
    Progress g.A.Algebra.meaning l.formulas (types_of l.parameters) l.codes l.initial.rows l.k l.types l.rows l.forecast
    × (length l.types ≡ 64)
