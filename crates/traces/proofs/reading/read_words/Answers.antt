-- Each piece goes from what is left to what was read.
use Rattle.std.proofs.lemmas.Result.{err_from_is_err_and}
use Rattle.traces.proofs.Cuts.{next_words}
use Rattle.traces.proofs.Goings.{gone_more, blamed}
use Rattle.traces.proofs.reading.read_words.Goals as goal

pub loop-word-preserved : goal.loop-word-preserved
loop-word-preserved c =
    let old = c.loop-word.invariant in
    let cut = next_words c.loop-word.word-iterator c.next.new.self c.in-Some.word old.1 c.in-Some.ensures.steps in
    let read = c.in_ok-read_word.ensures in
    (gone_more old.0 _ _ cut.0 _ read.0 read.1, cut.1)

pub returns-in_err-read_word : goal.returns-in_err-read_word
returns-in_err-read_word c =
    let old = c.loop-word.invariant in
    let cut = next_words c.loop-word.word-iterator c.next.new.self c.in-Some.word old.1 c.in-Some.ensures.steps in
    let p = err_from_is_err_and c.from_residual.result c.from_residual.ensures.1 in
    rw (p.1, p.2) (blamed old.0 _ _ cut.0 c.args.number _ c.in_err-read_word.ensures)
