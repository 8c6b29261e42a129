-- The text behind the `[` decides.
use Rattle.std.proofs.Common.{lit<, rules}
use Rattle.std.proofs.lemmas.Str.Pattern.{strip_prefix_char}
use Rattle.scripts.specs.Numbers.{behind, closing}
use Rattle.scripts.specs.Readings.{no_list}
use Rattle.scripts.proofs.Exits.{found_reads, fails_first, reads_break}
use Rattle.scripts.proofs.Numerals.{behind_seen}
use Rattle.scripts.proofs.numbers.read_list.Goals as goal

pub returns-in_err-rest : goal.returns-in_err-rest
returns-in_err-rest c =
    let word = c.args.word.now in
    let seen = behind_seen 91 word _ (strip_prefix_char 91 word c.strip_prefix.result c.strip_prefix.ensures.cases (lit< tt)) in
    let read = found_reads _ (λ x. x.now) (behind 91 word) word (no_list word) _ c.found_or.result seen (λ t e n h. search rules) c.found_or.ensures in
    reads_break _ _ c.from_residual.result _ c.from_residual.ensures.1 (fails_first _ (closing word) _ (rw c.in_err-rest.was at read))
