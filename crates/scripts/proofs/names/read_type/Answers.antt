-- The text before the `[` is the base type, and that behind it the axes.
use Rattle.std.proofs.Common.{◌≡◌, ℕ, List, Option, Result, Bor, String, Global, map, Ok, sym, ap, ◌∙◌, lit<, rules}
use Rattle.scripts.specs.Names.{cut_at}
use Rattle.scripts.specs.Numbers.{limit}
use Rattle.std.proofs.lemmas.Str.Pattern.{IsSplitOnceResult}
use Rattle.scripts.specs.declared.errors.ReadError.{ReadError}
use Rattle.scripts.specs.declared.errors.ReadError.TheVariants.{NoType}
use Rattle.scripts.specs.Readings.{Reads, FoundOr, fault_seen, or_fault, no_type}
use Rattle.scripts.proofs.Exits.{then_said, found_reads, fails_first, fails_next, reads_break}
use Rattle.scripts.proofs.Places.{cut_split}
use Rattle.scripts.proofs.names.read_type.Goals as goal

-- The word is cut at its first `[`, or told as no type.
cut_read : (word : List ℕ) (s : Option (Bor (List ℕ) × Bor (List ℕ))) (tells : String Global → ReadError → Type 0) (r : Result (Bor (List ℕ) × Bor (List ℕ)) ReadError) → IsSplitOnceResult 91 word s → FoundOr s word tells r
    → ((text : String Global) (e : ReadError) → tells text e → e ≡ NoType text) → Reads (or_fault (cut_at 91 word) (no_type word)) (λ p. (p.0.now, p.1.now)) r
cut_read word s tells r cases found each = found_reads s (λ p. (p.0.now, p.1.now)) (cut_at 91 word) word (no_type word) tells r (cut_split 91 word s cases (lit< tt)) (λ text e n h. ap fault_seen (each text e h) ∙ ap no_type n) found

pub returns-in_err-name : goal.returns-in_err-name
returns-in_err-name c =
    let word = c.args.word.now in
    let read = cut_read word c.split_once.result _ c.found_or.result c.split_once.ensures.cases c.found_or.ensures (λ text e h. search rules) in
    reads_break _ _ c.from_residual.result _ c.from_residual.ensures.1 (fails_first _ _ _ (rw c.in_err-name.was at read))

pub returns-in_err-base : goal.returns-in_err-base
returns-in_err-base c =
    let word = c.args.word.now in
    let read = cut_read word c.split_once.result _ c.found_or.result c.split_once.ensures.cases c.found_or.ensures (λ text e h. search rules) in
    let cut = rw c.in_ok-name.was at read in
    reads_break _ _ c.from_residual-in_err-base.result _ c.from_residual-in_err-base.ensures.1 (fails_next _ _ _ _ cut (fails_first _ _ _ c.in_err-base.ensures))

pub returns-in_err-numbers : goal.returns-in_err-numbers
returns-in_err-numbers c =
    let word = c.args.word.now in
    let read = cut_read word c.split_once.result _ c.found_or.result c.split_once.ensures.cases c.found_or.ensures (λ text e h. search rules) in
    let cut = rw c.in_ok-name.was at read in
    reads_break _ _ c.from_residual-in_err-numbers.result _ c.from_residual-in_err-numbers.ensures.1 (fails_next _ _ _ _ cut (fails_next _ _ _ _ c.in_ok-base.ensures (fails_first _ _ _ c.in_err-numbers.ensures)))

pub returns : goal.returns
returns c =
    let word = c.args.word.now in
    let read = cut_read word c.split_once.result _ c.found_or.result c.split_once.ensures.cases c.found_or.ensures (λ text e h. search rules) in
    let cut = rw c.in_ok-name.was at read in
    then_said _ _ _ cut ∙ then_said _ _ _ c.in_ok-base.ensures ∙ then_said _ _ _ c.in_ok-numbers.ensures
    ∙ ap (λ l. Ok (record { base = c.in_ok-base.base; axes = l })) (sym (c.in_ok-axes.ensures ∙ ap (map limit) c.as_slice.ensures.value))
