-- An empty piece goes by, and any other goes from what is left to what was read.
use Rattle.std.proofs.Common.{vec_items, sym, ap, ◌∙◌}
use Rattle.std.specs.Str.Iter.{split_text, split_has_more, split_pattern}
use Rattle.traces.specs.Texts.{words_in}
use Rattle.scripts.specs.Numbers.{gap, number_said, numbers_in}
use Rattle.scripts.proofs.Cuts.{remaining, next_gap, words_empty, words_filled}
use Rattle.scripts.proofs.Exits.{reads_break, blames_like}
use Rattle.scripts.proofs.Runs.{after, after_more, after_bad}
use Rattle.scripts.proofs.numbers.read_numbers.Goals as goal

pub loop-piece-preserved-then-is_empty : goal.loop-piece-preserved-then-is_empty
loop-piece-preserved-then-is_empty c =
    let now = c.loop-piece.piece-iterator in
    let next = c.next.new.self in
    let steps = c.in-Some.ensures.steps in
    let piece = c.in-Some.piece.now in
    let numbers = vec_items c.loop-piece.numbers in
    let left = remaining gap (split_has_more next) (split_text next) in
    let cut = next_gap (split_pattern now) c.loop-piece.invariant.1 (split_text now) piece (split_text next) (split_has_more now) (split_has_more next) steps.0 steps.1.1 in
    (c.loop-piece.invariant.0 ∙ ap (λ l. after numbers (numbers_in l)) (ap words_in cut ∙ words_empty piece left (sym c.if-is_empty.ensures)), steps.1.0 gap c.loop-piece.invariant.1)

pub returns-in_err-number : goal.returns-in_err-number
returns-in_err-number c =
    let now = c.loop-piece.piece-iterator in
    let next = c.next.new.self in
    let steps = c.in-Some.ensures.steps in
    let piece = c.in-Some.piece.now in
    let numbers = vec_items c.loop-piece.numbers in
    let left = remaining gap (split_has_more next) (split_text next) in
    let cut = next_gap (split_pattern now) c.loop-piece.invariant.1 (split_text now) piece (split_text next) (split_has_more now) (split_has_more next) steps.0 steps.1.1 in
    let word = c.loop-piece.invariant.0 ∙ ap (λ l. after numbers (numbers_in l)) (ap words_in cut ∙ words_filled piece left (sym c.if-is_empty.ensures)) in
    reads_break _ _ c.from_residual.result _ c.from_residual.ensures.1 (blames_like (number_said piece) _ _ (λ f e. word ∙ after_bad numbers (number_said piece) (numbers_in (words_in left)) f e) c.in_err-number.ensures)

pub loop-piece-preserved : goal.loop-piece-preserved
loop-piece-preserved c =
    let now = c.loop-piece.piece-iterator in
    let next = c.next.new.self in
    let steps = c.in-Some.ensures.steps in
    let piece = c.in-Some.piece.now in
    let numbers = vec_items c.loop-piece.numbers in
    let left = remaining gap (split_has_more next) (split_text next) in
    let cut = next_gap (split_pattern now) c.loop-piece.invariant.1 (split_text now) piece (split_text next) (split_has_more now) (split_has_more next) steps.0 steps.1.1 in
    let word = c.loop-piece.invariant.0 ∙ ap (λ l. after numbers (numbers_in l)) (ap words_in cut ∙ words_filled piece left (sym c.if-is_empty.ensures)) in
    let more = after_more numbers (number_said piece) c.in_ok-number.number (numbers_in (words_in left)) c.in_ok-number.ensures in
    (word ∙ more ∙ ap (λ l. after l (numbers_in (words_in left))) (sym c.in_ok-push.ensures.items), steps.1.0 gap c.loop-piece.invariant.1)
