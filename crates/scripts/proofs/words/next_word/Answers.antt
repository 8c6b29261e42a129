-- An empty piece goes by, and the blanks behind it, and any other is the first word.
use Rattle.std.proofs.Common.{◌<◌, [], length, sym, refl, ◌∙◌, arith, rules}
use Rattle.std.proofs.lemmas.Bool.{eqb-false}
use Rattle.traces.specs.Texts.{pieces}
use Rattle.scripts.specs.Words.{blank}
use Rattle.scripts.proofs.Cuts.{words_none, words_cut, words_empty, words_filled, cut_falls}
use Rattle.scripts.proofs.words.next_word.Goals as goal

pub returns-then-not-is_empty : goal.returns-then-not-is_empty
returns-then-not-is_empty c =
    let h = c.in-Some.ensures.cases in
    let left = c.loop-piece.left.now in
    let piece = c.in-Some.piece.now in
    let rest = c.in-Some.rest.now in
    let f = h.2 blank (λ b. refl) in
    let less : length rest < length left = cut_falls blank left rest h.0 h.1 f h.7 in
    record {
      words = c.loop-piece.invariant.1 ∙ words_cut left piece rest h.0 h.1 f h.3 h.4 ∙ words_filled piece (pieces blank rest) (sym c.if-not-is_empty.ensures);
      falls = omega (arith, less, c.loop-piece.invariant.2);
    }

pub loop-piece-smaller : goal.loop-piece-smaller
loop-piece-smaller c =
    let h = c.in-Some.ensures.cases in
    omega (arith, cut_falls blank c.loop-piece.left.now c.in-Some.rest.now h.0 h.1 (h.2 blank (λ b. refl)) h.7, c.past_blanks-left.ensures.bound)

pub loop-piece-preserved : goal.loop-piece-preserved
loop-piece-preserved c =
    let h = c.in-Some.ensures.cases in
    let left = c.loop-piece.left.now in
    let piece = c.in-Some.piece.now in
    let rest = c.in-Some.rest.now in
    let f = h.2 blank (λ b. refl) in
    let less : length rest < length left = cut_falls blank left rest h.0 h.1 f h.7 in (
      search rules,
      c.loop-piece.invariant.1
          ∙ words_cut left piece rest h.0 h.1 f h.3 h.4
          ∙ words_empty piece (pieces blank rest) (sym c.if-not-is_empty.ensures)
          ∙ sym c.past_blanks-left.ensures.words,
      omega (arith, less, c.loop-piece.invariant.2, c.past_blanks-left.ensures.bound),
    )

pub returns-then-is_empty : goal.returns-then-is_empty
returns-then-is_empty c =
    let left = c.loop-piece.left.now in
    record {
      words = c.loop-piece.invariant.1 ∙ words_none left (c.in_default.ensures.cases blank (λ b. refl)) ∙ words_empty left [] (sym c.if-is_empty.ensures);
      falls = tt;
    }

pub returns-else-is_empty : goal.returns-else-is_empty
returns-else-is_empty c =
    let left = c.loop-piece.left.now in
    record {
      words = c.loop-piece.invariant.1 ∙ words_none left (c.in_default.ensures.cases blank (λ b. refl)) ∙ words_filled left [] (sym c.if-is_empty.ensures);
      falls = omega (arith, eqb-false (length left) 0 (sym c.if-is_empty.ensures), c.loop-piece.invariant.2);
    }
