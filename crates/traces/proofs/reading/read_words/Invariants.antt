-- Some words were read, the others are left, and the pattern still finds the bytes that part words.
use Rattle.std.proofs.Common.{vec_items}
use Rattle.traces.specs.Texts.{pieces, parts, words_in}
use Rattle.traces.proofs.Cuts.{words_left, AtParts}
use Rattle.traces.proofs.Goings.{Gone}
use Rattle.traces.proofs.reading.read_words.Given as goal

abbrev pub invariant-loop-word : goal.invariant-loop-word
invariant-loop-word l =
    Gone (words_in (pieces parts l.line)) (words_left l.word-iterator) (vec_items l.initial.codes) (vec_items l.codes)
    × AtParts l.word-iterator
