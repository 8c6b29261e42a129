-- What a word says as a number, and as a list of numbers.
use Rattle.std.specs.Prelude.{ℕ, ◌+◌, ◌-◌, ◌*◌, ◌^◌, Bool, cond, ◌&&◌, List, [], ◌∷◌, map, length, Some, None, Ok, Option, ◌==◌, nat_lt}
use Rattle.std.specs.Char.{char_set_contains}
use Rattle.std.specs.Str.{all_ascii_digits}
use Rattle.traces.specs.Texts.{pieces}
use Rattle.scripts.specs.Readings.{Said, and_then, or_fault, all_said, no_number, no_list}

-- The number that digits write in decimal, after those that are read.
abbrev pub read_on : ℕ → List ℕ → ℕ
read_on n [] = n
read_on n (c ∷ cs) = read_on (10 * n + (c - 48)) cs

-- A word is a number: one digit or more, of a number below 2^64.
abbrev pub is_number : List ℕ → Bool
is_number w = all_ascii_digits w && (nat_lt 0 (length w) && nat_lt (read_on 0 w) (2 ^ 64))

-- The number of a word that is one.
abbrev pub number : List ℕ → Option ℕ
number w = cond (is_number w) (Some (read_on 0 w)) None

-- What a word says as a number.
abbrev pub number_said : List ℕ → Said ℕ
number_said w = or_fault (number w) (no_number w)

-- A number as one of 32 bits: the largest of them if it is too large.
abbrev pub limit : ℕ → ℕ
limit n = cond (nat_lt n 4294967295) n 4294967295

-- A byte parts the numbers of a list: a comma.
abbrev pub comma : ℕ → Bool
comma b = b == 44

-- A byte parts the numbers of a file of codes: a blank, a tab, a line end or a comma.
abbrev pub gap : ℕ → Bool
gap b = char_set_contains (32 ∷ 9 ∷ 13 ∷ 10 ∷ 44 ∷ []) b

-- The numbers that these words say.
abbrev pub numbers_in : List (List ℕ) → Said (List ℕ)
numbers_in ws = all_said number_said ws

-- The numbers between commas: none in an empty text.
abbrev pub between : List ℕ → Said (List ℕ)
between text = cond (length text == 0) (Ok []) (numbers_in (pieces comma text))

-- What follows this byte, if a text begins with it.
abbrev pub behind : ℕ → List ℕ → Option (List ℕ)
behind c [] = None
behind c (b ∷ bs) = cond (b == c) (Some bs) None

-- A byte before a text that may be there.
abbrev pub on_front : ℕ → Option (List ℕ) → Option (List ℕ)
on_front b None = None
on_front b (Some bs) = Some (b ∷ bs)

-- The text before a `]` at the end.
abbrev pub closed : List ℕ → Option (List ℕ)
closed [] = None
closed (b ∷ []) = cond (b == 93) (Some []) None
closed (b ∷ c ∷ bs) = on_front b (closed (c ∷ bs))

-- What follows the `[` of a list in a word: its numbers and a `]`.
abbrev pub closing : List ℕ → List ℕ → Said (List ℕ)
closing word rest = and_then (or_fault (closed rest) (no_list word)) between

-- The list of numbers that a word says.
abbrev pub listed : List ℕ → Said (List ℕ)
listed w = and_then (or_fault (behind 91 w) (no_list w)) (closing w)

-- The list of numbers of 32 bits that a word says.
abbrev pub places : List ℕ → Said (List ℕ)
places w = and_then (listed w) (λ ns. Ok (map limit ns))
