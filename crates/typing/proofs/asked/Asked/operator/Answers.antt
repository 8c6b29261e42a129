-- The operator's signature says what is wanted and given.
use Rattle.std.proofs.Common.{◌≡◌, [], ◌∷◌, length, take, ◌≤◌, sym, refl, ap, ◌∙◌, arith}
use Rattle.remora.specs.Algebras.{Operator}
use Rattle.algebra.specs.Operands.{listed}
use Rattle.remora.specs.Formulas.{shaped, scalars}
use Rattle.shapes.specs.Axes.{array_type}
use Rattle.lines.specs.Lines.{line_with}
use Rattle.typing.specs.Typings.{types_of}
use Rattle.typing.specs.Plans.{known_in, usable_in}
use Rattle.typing.proofs.Ruling.{operator_ruled}
use Rattle.typing.proofs.asked.Asked.operator.Goals as goal

pub returns-in-One : goal.returns-in-One
returns-in-One g c =
    let m = g.A.Algebra.meaning in
    let x = c.args.self.now.context.now in
    let f = c.args.self.now.fields.now in
    let es = x.formulas.now in
    let few : length (take f.count f.operands) ≤ 4 = omega (arith, ap length c.operands.ensures.all, c.operands.ensures.few) in
    let said = c.in-Some.ensures in
    let bases : c.in-One.a ∷ [] ≡ (m.operator f.function).operands = ap listed (sym c.in-One.is) ∙ ap (λ (o : Operator). o.operands) said.1 in
    let wanted : array_type c.scalar.result ∷ [] ≡ scalars (c.in-One.a ∷ []) = cc in
    operator_ruled m (length es) (known_in es) (usable_in es) (types_of x.parameters.now) (types_of x.types.now) (line_with f []) (take f.count f.operands) _ _ c.args.self.now.line c.applied.result
    (wanted ∙ ap scalars bases) refl (c.scalar-cell.ensures ∙ ap (λ (o : Operator). shaped o.result []) said.1) few c.args.self.now.earlier said.0
    (sym (ap length c.operands.ensures.all) ∙ c.if-operands-count.false ∙ c.count.ensures.exact ∙ ap (λ (o : Operator). length o.operands) said.1) c.applied.ensures

pub returns-in-Two : goal.returns-in-Two
returns-in-Two g c =
    let m = g.A.Algebra.meaning in
    let x = c.args.self.now.context.now in
    let f = c.args.self.now.fields.now in
    let es = x.formulas.now in
    let few : length (take f.count f.operands) ≤ 4 = omega (arith, ap length c.operands.ensures.all, c.operands.ensures.few) in
    let said = c.in-Some.ensures in
    let bases : c.in-Two.a ∷ c.in-Two.b ∷ [] ≡ (m.operator f.function).operands = ap listed (sym c.in-Two.is) ∙ ap (λ (o : Operator). o.operands) said.1 in
    let wanted : array_type c.scalar-in-Two.result ∷ array_type c.scalar-in-Two-2.result ∷ [] ≡ scalars (c.in-Two.a ∷ c.in-Two.b ∷ []) = cc in
    operator_ruled m (length es) (known_in es) (usable_in es) (types_of x.parameters.now) (types_of x.types.now) (line_with f []) (take f.count f.operands) _ _ c.args.self.now.line c.applied-in-Two.result
    (wanted ∙ ap scalars bases) refl (c.scalar-cell.ensures ∙ ap (λ (o : Operator). shaped o.result []) said.1) few c.args.self.now.earlier said.0
    (sym (ap length c.operands.ensures.all) ∙ c.if-operands-count.false ∙ c.count.ensures.exact ∙ ap (λ (o : Operator). length o.operands) said.1) c.applied-in-Two.ensures

pub returns-in-Three : goal.returns-in-Three
returns-in-Three g c =
    let m = g.A.Algebra.meaning in
    let x = c.args.self.now.context.now in
    let f = c.args.self.now.fields.now in
    let es = x.formulas.now in
    let few : length (take f.count f.operands) ≤ 4 = omega (arith, ap length c.operands.ensures.all, c.operands.ensures.few) in
    let said = c.in-Some.ensures in
    let bases : c.in-Three.a ∷ c.in-Three.b ∷ c.in-Three.c ∷ [] ≡ (m.operator f.function).operands = ap listed (sym c.in-Three.is) ∙ ap (λ (o : Operator). o.operands) said.1 in
    let wanted : array_type c.scalar-in-Three.result ∷ array_type c.scalar-in-Three-2.result ∷ array_type c.scalar-in-Three-3.result ∷ [] ≡ scalars (c.in-Three.a ∷ c.in-Three.b ∷ c.in-Three.c ∷ []) = cc in
    operator_ruled m (length es) (known_in es) (usable_in es) (types_of x.parameters.now) (types_of x.types.now) (line_with f []) (take f.count f.operands) _ _ c.args.self.now.line c.applied-in-Three.result
    (wanted ∙ ap scalars bases) refl (c.scalar-cell.ensures ∙ ap (λ (o : Operator). shaped o.result []) said.1) few c.args.self.now.earlier said.0
    (sym (ap length c.operands.ensures.all) ∙ c.if-operands-count.false ∙ c.count.ensures.exact ∙ ap (λ (o : Operator). length o.operands) said.1) c.applied-in-Three.ensures
