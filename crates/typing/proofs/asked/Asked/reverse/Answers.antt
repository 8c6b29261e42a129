-- The operand's base type is the cell's.
use Rattle.std.proofs.Common.{◌≡◌, ℕ, List, [], ◌∷◌, length, get_or, take, refl, ap, ◌∙◌, subst}
use Rattle.remora.specs.Formulas as theory
use Rattle.remora.specs.Formulas.{shaped}
use Rattle.remora.specs.Questions.{type_at}
use Rattle.shapes.specs.Axes.{dims}
use Rattle.lines.specs.Lines.{number_for}
use Rattle.typing.specs.Typings.{types_of}
use Rattle.typing.specs.Plans.{known_in, usable_in}
use Rattle.typing.proofs.Ruling.{reverse_ruled}
use Rattle.typing.specs.declared.found.Items.{Items}
use Rattle.typing.specs.Plans.{Applied}
use Rattle.typing.proofs.asked.Asked.reverse.Goals as goal

pub returns : goal.returns
returns c = λ m.
    let x = c.args.self.now.context.now in
    let f = c.args.self.now.fields.now in
    let es = x.formulas.now in
    let ts = types_of x.types.now in
    let ps = types_of x.parameters.now in
    let os = take f.count f.operands in
    let os-is = c.operands-operands.ensures.all in
    let w : theory.ArrayType = shaped c.type_at-given.result.base (dims f.shape) in
    let base : c.type_at-given.result.base ≡ (type_at ts (get_or os 0 0)).base = ap (λ (t : theory.ArrayType). t.base) c.type_at-given.ensures ∙ ap (λ (v : List ℕ). (type_at ts (get_or v 0 0)).base) os-is in
    reverse_ruled m (length es) (known_in es) (usable_in es) ps ts (number_for f.kind) f.base f.function (dims f.shape) os [] os w c.args.self.now.line c.applied.result
    (ap (λ (b : ℕ). shaped b (dims f.shape)) base) refl c.args.self.now.earlier c.requires.one c.requires.axis
    (subst (λ (v : Items). Applied ts (w ∷ []) os w v c.args.self.now.line c.applied.result) c.items_of.ensures c.applied.ensures)
