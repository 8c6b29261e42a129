-- One frame more, or the first that does not agree.
use Rattle.std.proofs.Common.{ℕ, map, length, sym, ap, ◌∙◌, arith, length-append}
use Rattle.std.specs.List.{zip}
use Rattle.std.proofs.lemmas.Iterator.{YieldsList-from_slice, YieldsList-from_zip}
use Rattle.std.proofs.lemmas.Iterator.Consumers.{YieldsList-turn, YieldsList-end}
use Rattle.std.proofs.lemmas.List.{take_all}
use Rattle.remora.specs.Formulas as theory
use Rattle.remora.specs.Shapes.{frame_of, agree, principal}
use Rattle.shapes.specs.declared.ArrayType.{ArrayType}
use Rattle.shapes.specs.Axes.{dims}
use Rattle.typing.specs.Typings.{types_of}
use Rattle.typing.proofs.Asking.{frame_at, frames_zip, joins, differs}
use Rattle.typing.proofs.operands.Application.frame.Goals as goal

pub returns-in_err-principal : goal.returns-in_err-principal
returns-in_err-principal c =
    let a = c.args.self.now in
    let types = types_of a.types.now in
    let l = c.loop-operand in
    let here = YieldsList-turn (YieldsList-from_zip (YieldsList-from_slice a.operands.now cc) (YieldsList-from_slice a.wanted.now cc))
    l.yielded l.operand-iterator l.yielded_by c.next.result c.next.new.self (c.in-Some.operand, c.in-Some.cell) c.in-Some.is c.next.ensures.steps in
    let same = c.frame.ensures ∙ ap (λ (t : theory.ArrayType). frame_of (dims c.in-Some.cell.now.shape) t.shape) c.type_at-given.ensures in
    rw c.from_residual.ensures (ap agree (sym (frames_zip types a.wanted.now a.operands.now))
    ∙ differs (λ p. frame_at types p.0 p.1) (zip a.operands.now a.wanted.now) (length l.yielded) (c.in-Some.operand.now, c.in-Some.cell.now) (dims l.principal) here.0 here.1 l.invariant.0 l.invariant.1 (dims c.frame.result) same c.in_err-principal.ensures)

pub loop-operand-preserved : goal.loop-operand-preserved
loop-operand-preserved c =
    let a = c.args.self.now in
    let types = types_of a.types.now in
    let l = c.loop-operand in
    let here = YieldsList-turn (YieldsList-from_zip (YieldsList-from_slice a.operands.now cc) (YieldsList-from_slice a.wanted.now cc))
    l.yielded l.operand-iterator l.yielded_by c.next.result c.next.new.self (c.in-Some.operand, c.in-Some.cell) c.in-Some.is c.next.ensures.steps in
    let same = c.frame.ensures ∙ ap (λ (t : theory.ArrayType). frame_of (dims c.in-Some.cell.now.shape) t.shape) c.type_at-given.ensures in
    simp length-append
    (joins (λ p. frame_at types p.0 p.1) (zip a.operands.now a.wanted.now) (length l.yielded) (c.in-Some.operand.now, c.in-Some.cell.now) (dims l.principal) here.0 here.1 l.invariant.0 l.invariant.1 (dims c.frame.result) (dims c.in_ok-principal.principal)
    same c.in_ok-principal.ensures.0 c.in_ok-principal.ensures.1)

pub returns : goal.returns
returns c =
    let a = c.args.self.now in
    let types = types_of a.types.now in
    let xs = zip a.operands.now a.wanted.now in
    let l = c.loop-operand in
    let end = YieldsList-end (YieldsList-from_zip (YieldsList-from_slice a.operands.now cc) (YieldsList-from_slice a.wanted.now cc))
    l.yielded l.operand-iterator l.yielded_by c.next.result c.next.new.self c.in-None.is c.next.ensures.steps in
    let all = ap (map (λ (p : ℕ × ArrayType). frame_at types p.0 p.1)) (take_all (length l.yielded) xs (omega (arith, end.1))) ∙ frames_zip types a.wanted.now a.operands.now in
    (ap agree (sym all) ∙ l.invariant.0, l.invariant.1 ∙ ap principal all)
