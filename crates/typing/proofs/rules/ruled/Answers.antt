-- What was ruled for the kind of the line holds of the line.
use Rattle.std.proofs.Common.{length, sym, ap, ◌∙◌, arith}
use Rattle.remora.specs.Formulas as theory
use Rattle.lines.specs.declared.given.Kind.{Kind}
use Rattle.lines.specs.declared.given.Kind.TheVariants.{Parameter, Frame, Operator, Call, Fold, Append, Reverse}
use Rattle.lines.specs.Lines.{number_for, line_with}
use Rattle.typing.proofs.Ruling.{ruled_at, kind_ruled, asked_ruled, append_refused}
use Rattle.typing.proofs.rules.ruled.Goals as goal
use Rattle.typing.proofs.rules.ruled.Goals.{then-count-eq2+else-rank-gt0, else-count-eq2}

pub returns-in-Literal-default : goal.returns-in-Literal-default
returns-in-Literal-default g c =
    ruled_at g.A.Algebra.meaning c.args.context.now (line_with c.args.fields.now c.args.codes.now) theory.a_literal c.args.line c.literal.result (ap (λ (v : Kind). theory.kind_of (number_for v)) c.in-Literal-default.is-0) (c.literal.ensures c.args.context.now)

pub returns-in-Parameter-default : goal.returns-in-Parameter-default
returns-in-Parameter-default g c =
    kind_ruled g.A.Algebra.meaning c.args.context.now c.args.fields.now c.args.codes.now c.args.line Parameter c.parameter.result (λ e. cc) c.in-Parameter-default.is-0 (c.parameter.ensures g.A.Algebra.meaning)

pub returns-in-Frame-Some : goal.returns-in-Frame-Some
returns-in-Frame-Some g c =
    asked_ruled g.A.Algebra.meaning c.args.context.now c.args.fields.now c.args.codes.now c.args.line c.in-Frame-Some.asked Frame c.framing.result (λ e. cc) c.in-Frame-Some.is-0 c.in-Frame-Some.ensures (c.framing.ensures g.A.Algebra.meaning)

pub returns-in-Operator-Some : goal.returns-in-Operator-Some
returns-in-Operator-Some g c =
    asked_ruled g.A.Algebra.meaning c.args.context.now c.args.fields.now c.args.codes.now c.args.line c.in-Operator-Some.asked Operator c.operator.result (λ e. cc) c.in-Operator-Some.is-0 c.in-Operator-Some.ensures c.operator.ensures

pub returns-in-Call-Some : goal.returns-in-Call-Some
returns-in-Call-Some g c =
    asked_ruled g.A.Algebra.meaning c.args.context.now c.args.fields.now c.args.codes.now c.args.line c.in-Call-Some.asked Call c.call.result (λ e. cc) c.in-Call-Some.is-0 c.in-Call-Some.ensures (c.call.ensures g.A.Algebra.meaning)

pub returns-in-Fold-Some : goal.returns-in-Fold-Some
returns-in-Fold-Some g c =
    asked_ruled g.A.Algebra.meaning c.args.context.now c.args.fields.now c.args.codes.now c.args.line c.in-Fold-Some.asked Fold c.fold.result (λ e. cc) c.in-Fold-Some.is-0 c.in-Fold-Some.ensures c.fold.ensures

pub returns-in-Append-Some : goal.returns-in-Append-Some
returns-in-Append-Some g c =
    asked_ruled g.A.Algebra.meaning c.args.context.now c.args.fields.now c.args.codes.now c.args.line c.in-Append-Some.asked Append c.append.result (λ e. cc) c.in-Append-Some.is-0 c.in-Append-Some.ensures (c.append.ensures g.A.Algebra.meaning)

pub returns-in-Reverse-Some : goal.returns-in-Reverse-Some
returns-in-Reverse-Some g c =
    asked_ruled g.A.Algebra.meaning c.args.context.now c.args.fields.now c.args.codes.now c.args.line c.in-Reverse-Some.asked Reverse c.reverse.result (λ e. cc) c.in-Reverse-Some.is-0 c.in-Reverse-Some.ensures (c.reverse.ensures g.A.Algebra.meaning)

pub returns-in-Append-Some-2 : goal.returns-in-Append-Some-2
returns-in-Append-Some-2 g c = elim c.if-count-eq2.branch [
  | then-count-eq2+else-rank-gt0 w ↦
      append_refused g.A.Algebra.meaning c.args.context.now c.args.fields.now c.args.codes.now c.args.line c.in-Append-Some.asked c.in-Append-Some.is-0 c.in-Append-Some.ensures
      (sym (ap length c.operands-count.ensures.all) ∙ w.if-count-eq2.true) (omega arith)
  | else-count-eq2 w ↦ absurd (omega arith)
]
