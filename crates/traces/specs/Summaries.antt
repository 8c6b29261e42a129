-- The summary of a trace.
use Rattle.std.specs.Prelude.{ℕ, List, length}
use Rattle.traces.specs.declared.folding.Summary.{Summary}
use Rattle.traces.specs.Folds as folds

-- The summary of these codes.
abbrev pub summary_of : List ℕ → Summary
summary_of codes = record {
  samples = length codes;
  sum = folds.total codes;
  squares = folds.total_squares codes;
  smallest = folds.smallest codes;
  largest = folds.largest codes;
  mean = folds.told_mean codes;
}
