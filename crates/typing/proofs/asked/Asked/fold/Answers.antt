-- The operator's signature says the base type and the unit.
use Rattle.std.proofs.Common.{ℕ, [], length, take, sym, ap, ◌∙◌, arith, refl}
use Rattle.remora.specs.Formulas.{shaped}
use Rattle.shapes.specs.Axes.{dims}
use Rattle.lines.specs.Lines.{number_for}
use Rattle.typing.specs.Typings.{types_of}
use Rattle.typing.specs.Plans.{known_in, usable_in}
use Rattle.remora.specs.Algebras.{Operator}
use Rattle.remora.specs.Questions.{foldable}
use Rattle.typing.proofs.Ruling.{some_axis, fold_ruled}
use Rattle.typing.proofs.asked.Asked.fold.Goals as goal

pub returns : goal.returns
returns g c =
    let m = g.A.Algebra.meaning in
    let x = c.args.self.now.context.now in
    let f = c.args.self.now.fields.now in
    let es = x.formulas.now in
    let ts = types_of x.types.now in
    let ps = types_of x.parameters.now in
    let s = c.in-Some.signature in
    let said = c.in-Some.ensures in
    let os = take f.count f.operands in
    let same = said.1 in
    fold_ruled m (length es) (known_in es) (usable_in es) ps ts (number_for f.kind) f.base f.function (dims f.shape) os [] os (shaped c.from.result (dims f.shape)) s.unit c.args.self.now.line c.folded.result
    (ap (λ (b : ℕ). shaped b (dims f.shape)) c.from.ensures ∙ ap (λ (o : Operator). shaped o.result (dims f.shape)) same) (ap (λ (o : Operator). o.unit) same) refl c.args.self.now.earlier said.0
    (sym (ap (λ (o : Operator). foldable o.operands o.result) same) ∙ sym c.if-not-is_foldable.ensures) c.requires (some_axis (dims f.shape) (λ e. c.if-rank-eq0.false (omega arith))) c.folded.ensures
