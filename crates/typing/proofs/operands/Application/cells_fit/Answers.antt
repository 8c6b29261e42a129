-- All operands are tested beside their cells.
use Rattle.std.proofs.Common.{ℕ, ◌∙◌, rules, tests}
use Rattle.std.proofs.lemmas.Iterator.{YieldsList-from_slice, YieldsList-from_zip}
use Rattle.std.proofs.lemmas.Iterator.Search.{all_from_yields_List}
use Rattle.remora.specs.Shapes.{ends}
use Rattle.remora.specs.Questions.{type_at}
use Rattle.shapes.specs.declared.ArrayType.{ArrayType}
use Rattle.shapes.specs.Axes.{dims}
use Rattle.typing.specs.Typings.{types_of}
use Rattle.typing.proofs.Asking.{fits_all}
use Rattle.typing.proofs.operands.Application.cells_fit.Goals as goal

pub returns : goal.returns
returns c =
    let a = c.args.self.now in
    all_from_yields_List (λ (p : ℕ × ArrayType). ends (dims p.1.shape) (type_at (types_of a.types.now) p.0).shape) c.all.new.self _ _ c.all.ensures.ran
    (YieldsList-from_zip (YieldsList-from_slice a.operands.now cc) (YieldsList-from_slice a.wanted.now cc)) (λ x b q k. search (rules, tests))
    ∙ fits_all (λ t w. ends w.shape t.shape) (types_of a.types.now) a.wanted.now a.operands.now
