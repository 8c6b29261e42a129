-- Some numbers were read, the pieces of the others are left, and the pattern still finds the bytes that part them.
use Rattle.std.proofs.Common.{◌≡◌, ℕ, vec_items}
use Rattle.std.specs.Char.{char_set_contains}
use Rattle.std.specs.Str.Iter.{split_text, split_has_more, split_pattern}
use Rattle.traces.specs.Texts.{pieces, words_in}
use Rattle.scripts.specs.Numbers.{gap, numbers_in}
use Rattle.scripts.proofs.Cuts.{remaining}
use Rattle.scripts.proofs.Runs.{after}
use Rattle.scripts.proofs.numbers.read_numbers.Given as goal

abbrev pub invariant-loop-piece : goal.invariant-loop-piece
invariant-loop-piece l =
    (numbers_in (words_in (pieces gap l.text)) ≡ after (vec_items l.numbers) (numbers_in (words_in (remaining gap (split_has_more l.piece-iterator) (split_text l.piece-iterator)))))
    × ((c : ℕ) → char_set_contains (split_pattern l.piece-iterator) c ≡ gap c)
