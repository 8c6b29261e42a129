-- A part of an allowed shape is allowed, so that the size of a cell is exact.
use Rattle.std.proofs.Common.{◌≡◌, ◌≤◌, true, [], eqb, leb, length, take, drop, sym, refl, ap, ◌∙◌, arith}
use Rattle.std.proofs.lemmas.Bool.{and_parts, eqb-true, leb-true}
use Rattle.remora.specs.Questions.{same_base, same_shape}
use Rattle.remora.specs.Shapes.{allowed, size}
use Rattle.shapes.specs.Axes.{dims}
use Rattle.lines.specs.Lines.{line_with}
use Rattle.typing.specs.Typings.{types_of, frame_asked}
use Rattle.typing.specs.Plans.{known_in, usable_in}
use Rattle.typing.proofs.Judging.{all_yes}
use Rattle.typing.proofs.Repeating.{allowed_back}
use Rattle.typing.proofs.Ruling.{framing_ruled}
use Rattle.typing.proofs.asked.Asked.framing.Goals as goal

pub returns : goal.returns
returns c = λ m.
    let x = c.args.self.now.context.now in
    let f = c.args.self.now.fields.now in
    let es = x.formulas.now in
    let ts = types_of x.types.now in
    let ps = types_of x.parameters.now in
    let s = dims f.shape in
    let os = c.operands-operands.result.now in
    let os-is = c.operands-operands.ensures.all in
    let few : length (take f.count f.operands) ≤ 4 = omega (arith, ap length os-is, c.operands-operands.ensures.few) in
    let u = c.in_ok-array.ensures in
    let y = all_yes (frame_asked ts f.base s f.function os) u.0 in
    let both = and_parts (leb f.function (length s)) (eqb (length os) (size (take f.function s))) y.1.0 in
    let h : allowed s ≡ true = y.1.1.1.1.0 in
    let cell : dims c.back.result ≡ drop f.function s = c.back.ensures.axes in
    framing_ruled m (length es) (known_in es) (usable_in es) ps ts (line_with f []) c.in_ok-array.array (length os) (record { repeats = 1; size = c.small_size.result })
    c.args.self.now.earlier (leb-true f.function (length s) both.0) (sym (ap length os-is) ∙ eqb-true (length os) (size (take f.function s)) both.1)
    (ap (same_base ts f.base) (sym os-is) ∙ y.1.1.0) (ap (same_shape ts (drop f.function s)) (sym os-is) ∙ y.1.1.1.0)
    h few u.1 (ap length os-is) refl (c.small_size.ensures.whole (ap allowed cell ∙ allowed_back f.function s h) ∙ ap size cell)
