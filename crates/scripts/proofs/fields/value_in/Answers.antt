-- The first value, if there is one, and whether a second follows.
use Rattle.std.proofs.Common.{◌≡◌, ℕ, List, Some, None, Err, ap, sym, ◌∙◌, inr, rules}
use Rattle.scripts.specs.Readings.{twice}
use Rattle.scripts.specs.Words.{words_of}
use Rattle.scripts.specs.Fields.{values_of, sole}
use Rattle.scripts.specs.declared.words.Words.{Words}
use Rattle.scripts.proofs.Values.{next_given, one_given, two_given}
use Rattle.scripts.proofs.fields.value_in.Goals as goal

-- The words that the values are looked for in are those of the text.
at_words : {text : List ℕ} {s t : Words} (name : List ℕ) → s ≡ t → t.left.now ≡ text → sole name (values_of name (words_of text)) ≡ sole name (values_of name (words_of s.left.now))
at_words name e h = ap (λ text. sole name (values_of name (words_of text))) (sym h) ∙ ap (λ w. sole name (values_of name (words_of w.left.now))) (sym e)

pub returns-in_default : goal.returns-in_default
returns-in_default c =
    let name = c.args.name.now in
    let first = next_given (λ s. words_of s.left.now) _ name _ (λ x r q k. search rules) _ c.next.new.self None c.filter_map-values.ensures.closure c.in_default.ensures.steps in
    at_words name c.filter_map-values.ensures.source c.new.ensures ∙ one_given name _ _ None first.1 first.1.1

pub returns-in_ok-from_str-in-Some-next : goal.returns-in_ok-from_str-in-Some-next
returns-in_ok-from_str-in-Some-next c =
    let name = c.args.name.now in
    let first = next_given (λ s. words_of s.left.now) _ name _ (λ x r q k. search rules) _ c.next.new.self (Some c.in-Some.value) c.filter_map-values.ensures.closure c.in-Some.ensures.steps in
    let second = next_given (λ s. words_of s.left.now) _ name _ (λ x r q k. search rules) _ c.next-2.new.self _ first.0 c.in-Some-next.ensures.steps in
    inr (at_words name c.filter_map-values.ensures.source c.new.ensures ∙ two_given name _ _ _ (Some c.in-Some.value) c.in-Some-next.field-0 first.1 second.1 ∙ ap (λ w. Err (twice w)) (sym c.in_ok-from_str-in-Some-next.ensures.ok))

pub returns-in-None : goal.returns-in-None
returns-in-None c =
    let name = c.args.name.now in
    let first = next_given (λ s. words_of s.left.now) _ name _ (λ x r q k. search rules) _ c.next.new.self (Some c.in-Some.value) c.filter_map-values.ensures.closure c.in-Some.ensures.steps in
    let second = next_given (λ s. words_of s.left.now) _ name _ (λ x r q k. search rules) _ c.next-2.new.self _ first.0 c.in-None.ensures.steps in
    at_words name c.filter_map-values.ensures.source c.new.ensures ∙ one_given name _ _ (Some c.in-Some.value) first.1 second.1.0
