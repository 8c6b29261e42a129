-- The frame of an allowed shape is allowed, so that its size is exact.
use Rattle.std.proofs.Common.{◌≡◌, true, ◌++◌, refl}
use Rattle.remora.specs.Shapes.{allowed}
use Rattle.shapes.specs.Axes.{dims}
use Rattle.typing.specs.Typings.{shape_asked}
use Rattle.typing.proofs.Judging.{all_yes}
use Rattle.typing.proofs.Repeating.{allowed_parts}
use Rattle.typing.proofs.operands.Application.over.Goals as goal

pub returns : goal.returns
returns c =
    let p = dims c.args.frame in
    let d = dims c.args.cell.shape in
    let u = c.in_ok-array.ensures in
    let h : allowed (p ++ d) ≡ true = (all_yes (shape_asked (p ++ d)) u.0).0 in
    (u.0, record { type = u.1; cells = c.small_size.ensures.whole (allowed_parts p d h).0; lifted = c.lifted.ensures; items = refl })
