-- Both other cells have the axes of the first behind their own first axis.
use Rattle.std.proofs.Common.{◌≡◌, ℕ, ◌+◌, List, [], ◌∷◌, get_or, take, drop, refl, ap, ◌∙◌, subst}
use Rattle.remora.specs.Formulas as theory
use Rattle.remora.specs.Formulas.{shaped}
use Rattle.shapes.specs.Axes.{array_type, dims}
use Rattle.typing.specs.Typings.{types_of}
use Rattle.typing.specs.Plans.{small}
use Rattle.typing.specs.declared.found.Items.{Items}
use Rattle.typing.specs.Plans.{Applied}
use Rattle.typing.proofs.Ruling.{applied_at, applied_small}
use Rattle.typing.proofs.asked.Asked.appended.Goals as goal

pub returns : goal.returns
returns c =
    let ts = types_of c.args.self.now.context.now.types.now in
    let w : theory.ArrayType = array_type c.args.first in
    let s = dims c.args.first.shape in
    let b = c.args.first.base in
    let k = c.args.more in
    let x = c.items_of-items.result in
    let os = take c.args.self.now.fields.now.count c.args.self.now.fields.now.operands in
    let x_is = c.items_of-items.ensures in
    let number : x.number ≡ get_or s 0 0 = ap (λ (v : Items). v.number) x_is in
    let sum = c.saturating_add.result in
    let sum_is : sum ≡ small (get_or s 0 0 + k) = c.saturating_add.ensures ∙ ap (λ (v : ℕ). small (v + k)) number in
    subst (λ (v : Items). Applied ts (w ∷ shaped b (k ∷ drop 1 s) ∷ []) os (shaped b ((get_or s 0 0 + k) ∷ drop 1 s)) v c.args.self.now.line c.applied.result) x_is
    (applied_small ts (w ∷ shaped b (k ∷ drop 1 s) ∷ []) os (drop 1 s) b (get_or s 0 0 + k) sum x c.args.self.now.line c.applied.result sum_is
    (applied_at ts (w ∷ shaped b (dims c.led.result) ∷ []) (w ∷ shaped b (k ∷ drop 1 s) ∷ []) os os (shaped b (dims c.led-2.result)) (shaped b (sum ∷ drop 1 s)) x c.args.self.now.line c.applied.result
    (ap (λ (v : List ℕ). w ∷ shaped b v ∷ []) c.led.ensures) refl (ap (shaped b) c.led-2.ensures) c.applied.ensures))
