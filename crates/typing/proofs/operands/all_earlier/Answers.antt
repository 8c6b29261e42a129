-- All operands are tested.
use Rattle.std.proofs.Common.{ltb, length, refl, ◌∙◌, rules, tests}
use Rattle.std.proofs.lemmas.Iterator.{YieldsList-from_slice}
use Rattle.std.proofs.lemmas.Iterator.Search.{all_from_yields_List}
use Rattle.remora.specs.Questions.{earlier}
use Rattle.typing.specs.Typings.{types_of}
use Rattle.typing.proofs.Asking.{asked_of_all}
use Rattle.typing.proofs.operands.all_earlier.Goals as goal

pub returns : goal.returns
returns c =
    let types = types_of c.args.types.now in
    all_from_yields_List (λ o. ltb o (length types)) _ _ _ c.all.ensures.ran (YieldsList-from_slice c.args.operands.now cc) (λ x b q k. search (rules, tests)) ∙ asked_of_all _ (earlier types) refl (λ x xs. refl) c.args.operands.now
