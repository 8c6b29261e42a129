-- One more type that is known, or the first that is not.
use Rattle.std.proofs.Common.{leb, length, sym, ◌∙◌, subst, arith, length-set}
use Rattle.std.proofs.lemmas.Bool.{and_right}
use Rattle.remora.specs.Calls.{known_types}
use Rattle.lines.specs.Lines.{types_given}
use Rattle.typing.specs.Parameters.{KnownTypes}
use Rattle.typing.proofs.Opening.{known_yes, known_no, kept_more}
use Rattle.typing.proofs.parameters.Parameters.of.Goals as goal

pub returns-in_err-all : goal.returns-in_err-all
returns-in_err-all g c =
    let ts = c.args.given.now in
    let m = g.A.Algebra.meaning in
    subst (KnownTypes m (types_given ts)) (sym c.from_residual.ensures)
    (and_right (leb (length (types_given ts)) 4) (known_types m (types_given ts)) (c.loop-i.invariant.0 ∙ known_no m ts c.loop-i.i _ (omega arith) c.in_err-all.ensures))

pub loop-i-preserved : goal.loop-i-preserved
loop-i-preserved g c =
    let ts = c.args.given.now in
    let m = g.A.Algebra.meaning in
    let t = c.in_ok-all.field-0 in (
      c.loop-i.invariant.0 ∙ known_yes m ts c.loop-i.i _ (omega arith) t c.in_ok-all.ensures,
      kept_more m ts c.loop-i.i _ (omega arith) c.loop-i.all t (omega arith) c.loop-i.invariant.1 c.in_ok-all.ensures,
      length-set c.loop-i.all c.loop-i.i t ∙ c.loop-i.invariant.2,
    )
