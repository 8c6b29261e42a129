-- The product is the volume of the axes gone through, and small enough to go on.
use Rattle.std.proofs.Common.{◌≡◌, ◌*◌, ◌^◌, ◌≤◌, take}
use Rattle.shapes.specs.Axes.{dims, volume}
use Rattle.shapes.proofs.Shape.volume.Given as goal

abbrev pub invariant-loop-axis : goal.invariant-loop-axis
invariant-loop-axis l = (l.product ≡ volume l.least (take l.axis-index (dims l.fn.self))) × (l.product ≤ 2 ^ (32 * l.axis-index))
