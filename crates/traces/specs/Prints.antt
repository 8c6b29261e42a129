-- The texts that are printed: of a summary, and of an error.
use Rattle.std.specs.Prelude.{ℕ, cond, List, ◌++◌, Some, None, Ok, Err, string_bytes, codes, decimal, Option, Result, ◌==◌}
use Rattle.std.specs.Fmt.{signed_decimal as written}
use Rattle.counts.specs.Tables.{signed}
use Rattle.traces.specs.declared.folding.Summary.{Summary}
use Rattle.traces.specs.declared.reading.TraceError.{TraceError}
use Rattle.traces.specs.declared.reading.TraceError.TheVariants.{NoCount, NoMemory}

-- A count is printed as its signed number in decimal.
abbrev pub count_text : ℕ → List ℕ
count_text code = written (signed code)

-- A count that may be wanting.
abbrev pub extreme_text : Option ℕ → List ℕ
extreme_text (Some code) = count_text code
extreme_text None = codes "none"

-- Why there is no quotient.
abbrev pub cause_text : ℕ → List ℕ
cause_text cause = cond (cause == 1) (codes "division by zero") (codes "cause " ++ decimal cause)

-- A mean, or why there is none.
abbrev pub mean_text : Result ℕ ℕ → List ℕ
mean_text (Ok code) = count_text code
mean_text (Err cause) = codes "none (" ++ (cause_text cause ++ codes ")")

-- A summary: one figure to a line.
abbrev pub summary_text : Summary → List ℕ
summary_text s =
    codes "samples: " ++ (decimal s.samples
    ++ (codes "\nsum: " ++ (count_text s.sum
    ++ (codes "\nsum of squares: " ++ (count_text s.squares
    ++ (codes "\nsmallest: " ++ (extreme_text s.smallest
    ++ (codes "\nlargest: " ++ (extreme_text s.largest
    ++ (codes "\nmean: " ++ mean_text s.mean))))))))))

-- An error: the line and the word, or want of memory.
abbrev pub error_text : TraceError → List ℕ
error_text (NoCount line word) =
    codes "line " ++ (decimal line
    ++ (codes ": '" ++ (string_bytes word
    ++ codes "' is no count (expected a whole number from -2147483648 to 2147483647)")))
error_text NoMemory = codes "out of memory"
