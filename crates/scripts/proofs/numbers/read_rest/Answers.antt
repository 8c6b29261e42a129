-- The text before the `]` decides.
use Rattle.std.proofs.Common.{◌≡◌, cond, [], Ok, vec_items, sym, ap, subst, lit<, rules}
use Rattle.std.proofs.lemmas.Str.Pattern.{strip_suffix_char}
use Rattle.traces.specs.Texts.{pieces}
use Rattle.scripts.specs.Numbers.{comma, numbers_in, between, closed}
use Rattle.scripts.specs.Readings.{Reads, no_list}
use Rattle.scripts.proofs.Exits.{found_reads, fails_first, reads_break, reads_next}
use Rattle.scripts.proofs.Numerals.{closed_seen}
use Rattle.scripts.proofs.numbers.read_rest.Goals as goal

pub returns-in_err-inner : goal.returns-in_err-inner
returns-in_err-inner c =
    let word = c.args.word.now in
    let rest = c.args.rest.now in
    let seen = closed_seen rest _ (strip_suffix_char 93 rest c.strip_suffix.result c.strip_suffix.ensures.cases (lit< tt)) in
    let read = found_reads _ (λ x. x.now) (closed rest) word (no_list word) _ c.found_or.result seen (λ t e n h. search rules) c.found_or.ensures in
    reads_break _ _ c.from_residual.result _ c.from_residual.ensures.1 (fails_first _ between _ (rw c.in_err-inner.was at read))

pub returns : goal.returns
returns c =
    let word = c.args.word.now in
    let rest = c.args.rest.now in
    let inner = c.in_ok-inner.inner.now in
    let seen = closed_seen rest _ (strip_suffix_char 93 rest c.strip_suffix.result c.strip_suffix.ensures.cases (lit< tt)) in
    let read = found_reads _ (λ x. x.now) (closed rest) word (no_list word) _ c.found_or.result seen (λ t e n h. search rules) c.found_or.ensures in
    let some : between inner ≡ numbers_in (pieces comma inner) = ap (λ v. cond v (Ok []) (numbers_in (pieces comma inner))) (sym c.if-is_empty.ensures) in
    reads_next _ between inner vec_items c.read_between.result (rw c.in_ok-inner.was at read) (subst (λ s. Reads s vec_items c.read_between.result) (sym some) c.read_between.ensures)
