-- All operands are tested.
use Rattle.std.proofs.Common.{refl, ◌∙◌, rules, tests}
use Rattle.std.proofs.lemmas.Iterator.{YieldsList-from_slice}
use Rattle.std.proofs.lemmas.Iterator.Search.{all_from_yields_List}
use Rattle.remora.specs.Shapes.{same}
use Rattle.remora.specs.Questions.{type_at, same_shape}
use Rattle.shapes.specs.Axes.{dims}
use Rattle.typing.specs.Typings.{types_of}
use Rattle.typing.proofs.Asking.{asked_of_all}
use Rattle.typing.proofs.contents.parts_of_shape.Goals as goal

pub returns : goal.returns
returns c =
    let types = types_of c.args.types.now in
    let s = dims c.args.shape in
    all_from_yields_List (λ o. same (type_at types o).shape s) _ _ _ c.all.ensures.ran (YieldsList-from_slice c.args.operands.now cc) (λ x b q k. search (rules, tests)) ∙ asked_of_all _ (same_shape types s) refl (λ x xs. refl) c.args.operands.now
