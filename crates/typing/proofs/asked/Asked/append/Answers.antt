-- The base type is the first operand's, the other number of items the second's.
use Rattle.std.proofs.Common.{◌≡◌, ℕ, ◌-◌, List, [], length, get_or, take, drop, ap, ◌∙◌, arith, refl}
use Rattle.remora.specs.Formulas as theory
use Rattle.remora.specs.Formulas.{shaped}
use Rattle.remora.specs.Questions.{type_at, first_axis}
use Rattle.shapes.specs.Axes.{dims}
use Rattle.lines.specs.Lines.{number_for}
use Rattle.typing.specs.Typings.{types_of}
use Rattle.typing.specs.Plans.{known_in, usable_in}
use Rattle.typing.proofs.Ruling.{first_read, append_ruled}
use Rattle.typing.proofs.asked.Asked.append.Goals as goal

pub returns : goal.returns
returns c = λ m.
    let x = c.args.self.now.context.now in
    let f = c.args.self.now.fields.now in
    let es = x.formulas.now in
    let ts = types_of x.types.now in
    let ps = types_of x.parameters.now in
    let os = take f.count f.operands in
    let os-is = c.operands-operands.ensures.all in
    let w : theory.ArrayType = shaped c.type_at-left.result.base (dims f.shape) in
    let base : c.type_at-left.result.base ≡ (type_at ts (get_or os 0 0)).base = ap (λ (t : theory.ArrayType). t.base) c.type_at-left.ensures ∙ ap (λ (v : List ℕ). (type_at ts (get_or v 0 0)).base) os-is in
    let right_is : dims c.type_at-right.result.shape ≡ (type_at ts (get_or os 1 0)).shape = ap (λ (t : theory.ArrayType). t.shape) c.type_at-right.ensures ∙ ap (λ (v : List ℕ). (type_at ts (get_or v 1 0)).shape) os-is in
    let start_is : c.saturating_sub-start.result ≡ length (dims c.type_at-right.result.shape) - length (dims f.shape) = omega arith in
    append_ruled m (length es) (known_in es) (usable_in es) ps ts (number_for f.kind) f.base f.function c.axis-more.result (dims f.shape) os [] os w c.args.self.now.line c.appended.result
    (ap (λ (b : ℕ). shaped b (dims f.shape)) base)
    (c.axis-more.ensures ∙ first_read (dims c.back.result) ∙ ap first_axis c.back.ensures.axes ∙ ap (λ (k : ℕ). first_axis (drop k (dims c.type_at-right.result.shape))) start_is ∙ ap (λ (v : List ℕ). first_axis (drop (length v - length (dims f.shape)) v)) right_is)
    refl c.args.self.now.earlier c.requires.two c.requires.axis c.appended.ensures
