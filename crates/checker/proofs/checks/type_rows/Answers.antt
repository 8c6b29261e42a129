-- One line more that is typed, or the first that is refused.
use Rattle.std.proofs.Common.{◌^◌, ◌<◌, take, refl, ap, ◌∙◌, subst, arith, length-set}
use Rattle.std.proofs.lemmas.Result.{err_from_is_err_and}
use Rattle.typing.specs.Typings.{types_of}
use Rattle.checker.specs.declared.forecasts.Share.{Share}
use Rattle.checker.specs.Forecasting.{share_of, added}
use Rattle.checker.proofs.Judging.{progress_start, progress_next, progress_stop, progress_all}
use Rattle.checker.proofs.checks.type_rows.Goals as goal

pub loop-k-init : goal.loop-k-init
loop-k-init g c =
    (progress_start g.A.Algebra.meaning c.args.formulas.now (types_of c.args.parameters.now) c.args.codes.now c.args.rows.now _ c.none-forecast.result c.none-forecast.ensures, refl)

pub returns-in_err-type_row : goal.returns-in_err-type_row
returns-in_err-type_row g c =
    let q = err_from_is_err_and c.from_residual.result c.from_residual.ensures.1 in
    let k = c.loop-k.k in
    rw (q.1, q.2) (progress_stop g.A.Algebra.meaning c.args.formulas.now (types_of c.args.parameters.now) c.args.codes.now c.args.rows.now k c.loop-k.types c.loop-k.rows c.loop-k.forecast
    c.loop-k.invariant.0 (omega arith) _ (take k c.loop-k.types) c.type_row.new.row _ c.loop-k.forecast.place refl (omega arith) c.in_err-type_row.ensures)

pub loop-k-preserved : goal.loop-k-preserved
loop-k-preserved g c =
    let k = c.loop-k.k in
    let share-is = c.of.ensures.exact in
    let few : (share_of c.known-callee.result c.type_row.new.row).steps < 2 ^ 64 = subst (λ (s : Share). s.steps < 2 ^ 64) share-is c.of.ensures.bound in (
      progress_next g.A.Algebra.meaning c.args.formulas.now (types_of c.args.parameters.now) c.args.codes.now c.args.rows.now k c.loop-k.types c.loop-k.rows c.loop-k.forecast
          c.loop-k.invariant.0 (omega arith) _ (take k c.loop-k.types) c.type_row.new.row _ c.known-callee.result c.add.new.self _ refl (omega arith) refl c.in_ok-type_row.ensures
          c.known-callee.ensures few (c.add.ensures ∙ ap (added c.loop-k.forecast) share-is),
      length-set c.loop-k.types k _ ∙ c.loop-k.invariant.1,
    )

pub returns : goal.returns
returns g c =
    progress_all g.A.Algebra.meaning c.args.formulas.now (types_of c.args.parameters.now) c.args.codes.now c.args.rows.now c.loop-k.k c.loop-k.types c.loop-k.rows c.loop-k.forecast
    c.loop-k.invariant.0 (omega arith)
