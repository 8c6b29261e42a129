-- Each line goes from what is left to what was read.
use Rattle.std.proofs.Common.{◌+◌, subst}
use Rattle.std.specs.Iterator.Adapters.{enumerate_source}
use Rattle.std.proofs.lemmas.Result.{err_from_is_err_and}
use Rattle.traces.specs.Texts.{words}
use Rattle.traces.specs.Readings.{Blames}
use Rattle.traces.proofs.Cuts.{next_line}
use Rattle.traces.proofs.Goings.{through_more, refused}
use Rattle.traces.proofs.reading.read_trace.Goals as goal

pub loop-i-preserved : goal.loop-i-preserved
loop-i-preserved c =
    let old = c.loop-i.invariant in
    let steps = c.in-Some.ensures.steps in
    let cut = next_line (enumerate_source c.loop-i.i-iterator) (enumerate_source c.next.new.self) c.in-Some.line old.1 steps.0 in
    let read = c.in_ok-read_line.ensures in
    (rw steps.2 (through_more old.0 _ _ cut.0 _ read.0 read.1), cut.1)

pub returns-in_err-read_line : goal.returns-in_err-read_line
returns-in_err-read_line c =
    let old = c.loop-i.invariant in
    let steps = c.in-Some.ensures.steps in
    let cut = next_line (enumerate_source c.loop-i.i-iterator) (enumerate_source c.next.new.self) c.in-Some.line old.1 steps.0 in
    let p = err_from_is_err_and c.from_residual.result c.from_residual.ensures.1 in
    rw (p.1, p.2) (refused old.0 _ _ cut.0 _ (subst (λ n. Blames c.in_err-read_line.field-0.0 (n + 1) (words c.in-Some.line.now)) steps.1 c.in_err-read_line.ensures))
