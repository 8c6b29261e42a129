-- The formula's parameters are what is wanted, and its result is the cell.
use Rattle.std.proofs.Common.{◌≡◌, [], length, take, ◌≤◌, sym, refl, ap, ◌∙◌, arith}
use Rattle.remora.specs.Formulas as theory
use Rattle.lines.specs.Lines.{line_with}
use Rattle.typing.specs.Typings.{types_of}
use Rattle.typing.specs.Plans.{known_in, usable_in}
use Rattle.typing.proofs.Ruling.{call_refused, call_ruled}
use Rattle.typing.proofs.Asking.{types_length}
use Rattle.typing.proofs.asked.Asked.call.Goals as goal

pub returns-then-operands-wanted : goal.returns-then-operands-wanted
returns-then-operands-wanted c = λ m.
    let x = c.args.self.now.context.now in
    let f = c.args.self.now.fields.now in
    let es = x.formulas.now in
    let ws-is : types_of c.parameters-wanted.result.now ≡ (known_in es f.function).parameters = ap types_of c.parameters-wanted.ensures ∙ ap (λ (e : theory.Entry). e.parameters) c.in-Some.ensures.1 in
    call_refused m (length es) (known_in es) (usable_in es) (types_of x.parameters.now) (types_of x.types.now) (line_with f []) c.args.self.now.line
    (λ e. c.if-operands-wanted.true (ap length c.operands.ensures.all ∙ e ∙ sym (ap length ws-is) ∙ types_length c.parameters-wanted.result.now))

pub returns : goal.returns
returns c = λ m.
    let x = c.args.self.now.context.now in
    let f = c.args.self.now.fields.now in
    let es = x.formulas.now in
    let ts = types_of x.types.now in
    let ps = types_of x.parameters.now in
    let few : length (take f.count f.operands) ≤ 4 = omega (arith, ap length c.operands.ensures.all, c.operands.ensures.few) in
    let said = c.in-Some.ensures in
    let ws-is : types_of c.parameters-wanted.result.now ≡ (known_in es f.function).parameters = ap types_of c.parameters-wanted.ensures ∙ ap (λ (e : theory.Entry). e.parameters) said.1 in
    let long = types_length c.parameters-wanted.result.now in
    let count : length (take f.count f.operands) ≡ length (known_in es f.function).parameters = sym (ap length c.operands.ensures.all) ∙ c.if-operands-wanted.false ∙ sym long ∙ ap length ws-is in
    call_ruled m (length es) (known_in es) (usable_in es) ps ts (line_with f []) (take f.count f.operands) (types_of c.parameters-wanted.result.now) _ c.args.self.now.line c.applied.result
    ws-is refl (ap (λ (e : theory.Entry). e.result) said.1) few c.args.self.now.earlier said.0 count c.applied.ensures
