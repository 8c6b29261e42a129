-- One axis more multiplies the volume by it, and four axes of 32 bits stay within 128.
use Rattle.std.proofs.Common.{◌≡◌, ℕ, max, List, get_or, ◌*◌, ◌^◌, ◌<◌, ◌≤◌, length, ap, mul-le-mul, arith, pow_mono}
use Rattle.shapes.specs.Axes.{dims}
use Rattle.shapes.proofs.Products.{volume_next, power_next}
use Rattle.shapes.proofs.Shape.volume.Goals as goal

pub overflow_mul-product : goal.overflow_mul-product
overflow_mul-product c =
    let few : 32 * c.loop-axis.axis-index ≤ 96 = omega arith in
    let one : c.loop-axis.product ≤ 2 ^ 96 = omega (arith, c.loop-axis.invariant.1, pow_mono few) in
    let two : c.from-product.result ≤ 4294967295 = omega arith in
    omega (arith, mul-le-mul one two)

pub loop-axis-preserved : goal.loop-axis-preserved
loop-axis-preserved c =
    let i = c.loop-axis.axis-index in
    let p = c.loop-axis.product in
    let below : i < length (dims c.args.self) = omega (arith, ap length c.axes-axis-items.ensures.axes) in
    let item = ap (λ (xs : List ℕ). get_or xs i 0) c.axes-axis-items.ensures.axes in
    let factor : c.from-product.result ≡ max c.args.least (get_or (dims c.args.self) i 0) = omega (arith, item, c.max.ensures) in (
      volume_next c.args.least (dims c.args.self) i p c.from-product.result below c.loop-axis.invariant.0 factor,
      power_next i p c.from-product.result c.loop-axis.invariant.1 (omega arith),
    )
