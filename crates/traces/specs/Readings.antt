-- What reading gives: the codes of all words, or the first word that is no count.
use Rattle.std.specs.Prelude.{◌≡◌, ℕ, ◌+◌, List, ◌∷◌, ◌++◌, map, length, Ok, Err, string_bytes, Result}
use Rattle.std.specs.List.{AllByRecursion}
use Rattle.traces.specs.declared.reading.TraceError.{TraceError}
use Rattle.traces.specs.declared.reading.TraceError.TheVariants.{NoCount, NoMemory}
use Rattle.traces.specs.Texts.{Count, Sound, FirstBad, words, code}

-- An error of the line of this number tells the first of its words that is no count, unless memory was wanting.
abbrev pub Blames : TraceError → ℕ → List (List ℕ) → Type 0
Blames (NoCount n w) number ws = (n ≡ number) × FirstBad ws (string_bytes w)
Blames NoMemory number ws = Unit {0}

-- The words of the line of this number were read after the codes `start`, or one is blamed.
abbrev pub Told : {X : Type 0} → ℕ → List (List ℕ) → List ℕ → List ℕ → Result X TraceError → Type 0
Told number ws start end (Ok x) = AllByRecursion Count ws × (end ≡ start ++ map code ws)
Told number ws start end (Err e) = Blames e number ws

-- An error tells the first line, numbered from 1, with a word that is no count, and that word, unless memory was wanting.
abbrev pub Refuses : List (List ℕ) → TraceError → Type 0
Refuses ls (NoCount n w) =
    (before : List (List ℕ)) × (line : List ℕ) × (after : List (List ℕ))
    × (ls ≡ before ++ (line ∷ after)) × (n ≡ length before + 1) × AllByRecursion Sound before × FirstBad (words line) (string_bytes w)
Refuses ls NoMemory = Unit {0}
