-- The words of a line.
use Rattle.std.specs.Prelude.{ℕ, Bool, List, [], ◌∷◌}
use Rattle.std.specs.Char.{char_set_contains}
use Rattle.traces.specs.Texts.{pieces, words_in}

-- A byte parts words: a blank, a tab or a carriage return.
abbrev pub blank : ℕ → Bool
blank b = char_set_contains (32 ∷ 9 ∷ 13 ∷ []) b

-- The words of a line: its pieces between blanks that are not empty.
abbrev pub words_of : List ℕ → List (List ℕ)
words_of line = words_in (pieces blank line)
