-- Some lines were read, the others are left, and the pattern is still a newline.
use Rattle.std.proofs.Common.{◌≡◌, vec_items}
use Rattle.std.specs.Iterator.Adapters.{enumerate_source, enumerate_count}
use Rattle.std.specs.Str.Iter.{split_pattern}
use Rattle.traces.specs.Texts.{lines}
use Rattle.traces.proofs.Cuts.{lines_left}
use Rattle.traces.proofs.Goings.{Through}
use Rattle.traces.proofs.reading.read_trace.Given as goal

abbrev pub invariant-loop-i : goal.invariant-loop-i
invariant-loop-i l =
    Through (lines l.text) (lines_left (enumerate_source l.i-iterator)) (enumerate_count l.i-iterator) (vec_items l.codes)
    × (split_pattern (enumerate_source l.i-iterator) ≡ 10)
