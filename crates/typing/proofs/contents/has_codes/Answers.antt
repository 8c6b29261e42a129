-- All codes are tested.
use Rattle.std.proofs.Common.{refl, ◌∙◌, rules, tests}
use Rattle.std.proofs.lemmas.Iterator.{YieldsList-from_slice}
use Rattle.std.proofs.lemmas.Iterator.Search.{all_from_yields_List}
use Rattle.remora.specs.Questions.{in_set}
use Rattle.typing.proofs.Asking.{asked_of_all}
use Rattle.typing.proofs.contents.has_codes.Goals as goal

pub returns : goal.returns
returns g c =
    let holds = g.A.Algebra.meaning.holds in
    all_from_yields_List (holds c.args.base) _ _ _ c.all.ensures.ran (YieldsList-from_slice c.args.codes.now cc) (λ x b q k. search (rules, tests)) ∙ asked_of_all _ (in_set holds c.args.base) refl (λ x xs. refl) c.args.codes.now
