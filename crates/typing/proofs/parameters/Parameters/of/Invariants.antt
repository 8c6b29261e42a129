-- The types so far are those that were handed over, and whether all are known is whether the rest are.
use Rattle.std.proofs.Common.{◌≡◌, length, take, drop}
use Rattle.remora.specs.Calls.{known_types}
use Rattle.lines.specs.Lines.{types_given}
use Rattle.typing.specs.Typings.{types_of}
use Rattle.typing.proofs.parameters.Parameters.of.Given as goal

abbrev pub invariant-loop-i : goal.invariant-loop-i
invariant-loop-i g l =
    (known_types g.A.Algebra.meaning (types_given l.given) ≡ known_types g.A.Algebra.meaning (drop l.i (types_given l.given)))
    × (types_of (take l.i l.all) ≡ take l.i (types_given l.given))
    × (length l.all ≡ 4)
