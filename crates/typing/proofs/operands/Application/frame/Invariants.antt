-- The frames gone through agree, and this is their principal frame.
use Rattle.std.proofs.Common.{◌≡◌, ℕ, true, map, length, take}
use Rattle.std.specs.List.{zip}
use Rattle.remora.specs.Shapes.{agree, principal}
use Rattle.shapes.specs.declared.ArrayType.{ArrayType}
use Rattle.shapes.specs.Axes.{dims}
use Rattle.typing.specs.Typings.{types_of}
use Rattle.typing.proofs.Asking.{frame_at}
use Rattle.typing.proofs.operands.Application.frame.Given as goal

abbrev pub invariant-loop-operand : goal.invariant-loop-operand
invariant-loop-operand l =
    (agree (map (λ (p : ℕ × ArrayType). frame_at (types_of l.self.types.now) p.0 p.1) (take (length l.yielded) (zip l.self.operands.now l.self.wanted.now))) ≡ true)
    × (dims l.principal ≡ principal (map (λ (p : ℕ × ArrayType). frame_at (types_of l.self.types.now) p.0 p.1) (take (length l.yielded) (zip l.self.operands.now l.self.wanted.now))))
