-- The lines are typed and the forecasts held against the limits, or the first no is told.
use Rattle.std.proofs.Common.{◌≡◌, ℕ, ◌-◌, length, take, ap, arith, rules}
use Rattle.checker.proofs.Drafting.{check_done}
use Rattle.checker.proofs.drafts.Draft.check.Goals as goal

pub returns : goal.returns
returns g c =
    let d = c.args.self.now in
    let many : length d.rows ≡ 64 = search rules in
    let front : take (d.height - 0) d.rows ≡ take d.height d.rows = ap (λ (n : ℕ). take n d.rows) (omega arith) in
    let own = c.as_slice.ensures.all in
    check_done g.A.Algebra.meaning c.args.formulas.now d (take (d.height - 0) d.rows) c.type_rows.new.rows c.as_slice.result.now c.in_ok-forecast.forecast
    front own (omega arith) _ c.entry_within.result c.requires.0 c.in_ok-forecast.ensures c.entry_within.ensures
