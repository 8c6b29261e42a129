-- What the text of a trace says: its lines, their words, and the count of each word.
use Rattle.std.specs.Prelude.{◌≡◌, ℕ, Bool, false, cond, not, List, [], ◌∷◌, ◌++◌, map, length, filter, FitsSigned, ◌==◌}
use Rattle.std.specs.Int.{w32}
use Rattle.std.specs.Char.{char_set_contains}
use Rattle.std.specs.Str.Parse.{IsNumeral, without_leading_sign, signed_digits_value}
use Rattle.std.specs.List.{AllByRecursion}
use Rattle.counts.specs.Tables.{wrapped}

-- A byte stands before the first of these pieces.
abbrev pub grown : ℕ → List (List ℕ) → List (List ℕ)
grown b [] = (b ∷ []) ∷ []
grown b (p ∷ ps) = (b ∷ p) ∷ ps

-- The pieces of a text between the bytes that pass a test: one more than there are such bytes.
abbrev pub pieces : (ℕ → Bool) → List ℕ → List (List ℕ)
pieces t [] = [] ∷ []
pieces t (b ∷ bs) = cond (t b) ([] ∷ pieces t bs) (grown b (pieces t bs))

-- A byte ends a line: a newline.
abbrev pub ends : ℕ → Bool
ends b = b == 10

-- The lines of a text.
abbrev pub lines : List ℕ → List (List ℕ)
lines text = pieces ends text

-- A byte parts words: a blank, a tab, a carriage return or a comma.
abbrev pub parts : ℕ → Bool
parts b = char_set_contains (32 ∷ 9 ∷ 13 ∷ 44 ∷ []) b

-- A piece is a word if it has a byte.
abbrev pub filled : List ℕ → Bool
filled p = not (length p == 0)

-- A byte indents a line: a blank or a tab.
abbrev pub indents : ℕ → Bool
indents b = char_set_contains (32 ∷ 9 ∷ []) b

-- A line is a comment if its first byte that is no blank and no tab is `#`.
abbrev pub comment : List ℕ → Bool
comment [] = false
comment (b ∷ bs) = cond (indents b) (comment bs) (b == 35)

-- The words among these pieces.
abbrev pub words_in : List (List ℕ) → List (List ℕ)
words_in ps = filter filled ps

-- The words that a line says: none if it is a comment.
abbrev pub words : List ℕ → List (List ℕ)
words line = cond (comment line) [] (words_in (pieces parts line))

-- A word is a count: digits, after a sign that may be there, of a number from -2^31 to 2^31 - 1.
abbrev pub Count : List ℕ → Type 0
Count word = IsNumeral 10 (without_leading_sign word) × FitsSigned w32 (signed_digits_value 10 word)

-- The code of the count that a word says.
abbrev pub code : List ℕ → ℕ
code word = wrapped (signed_digits_value 10 word)

-- Each word of a line is a count.
abbrev pub Sound : List ℕ → Type 0
Sound line = AllByRecursion Count (words line)

-- The codes that these lines say.
abbrev pub codes : List (List ℕ) → List ℕ
codes [] = []
codes (l ∷ ls) = map code (words l) ++ codes ls

-- Among these words this is the first that is no count.
abbrev pub FirstBad : List (List ℕ) → List ℕ → Type 0
FirstBad ws w = (before : List (List ℕ)) × (after : List (List ℕ)) × (ws ≡ before ++ (w ∷ after)) × AllByRecursion Count before × (Count w → ⊥)
