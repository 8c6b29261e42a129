-- Shapes of other ranks are not the same.
use Rattle.std.proofs.Common.{◌≢◌, length, sym, ◌∙◌, arith}
use Rattle.std.proofs.lemmas.Bool.{ne_eqb}
use Rattle.shapes.specs.Axes.{dims}
use Rattle.shapes.proofs.Prefixes.{same_uneven}
use Rattle.shapes.proofs.ShapePartialEq.eq.Goals as goal

pub returns-else-rank : goal.returns-else-rank
returns-else-rank c =
    let f = dims c.args.self.now in
    let g = dims c.args.other.now in
    let apart : length f ≢ length g = omega arith in
    ne_eqb c.rank.result c.rank-2.result c.if-rank.false ∙ sym (same_uneven f g apart)
