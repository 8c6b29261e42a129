-- The numbers that were collected are those of the pieces.
use Rattle.std.proofs.Common.{◌≡◌, map, vec_items, ap, ◌∙◌, subst, rules}
use Rattle.std.specs.Str.Iter.{split_pattern}
use Rattle.traces.specs.Texts.{pieces}
use Rattle.scripts.specs.Numbers.{comma, number_said, numbers_in}
use Rattle.scripts.specs.Readings.{Reads}
use Rattle.scripts.proofs.Collected.{collected, commas_given, pieces_left, plain}
use Rattle.scripts.proofs.numbers.read_between.Goals as goal

pub returns : goal.returns
returns c =
    let pattern = ap split_pattern c.map.ensures.source ∙ c.split.ensures.pattern in
    let read = collected _ (pieces_left comma) _ commas_given _ _ number_said (λ n. n) (λ w r q h. search rules) c.map.result c.try_collect.result pattern c.map.ensures.closure c.try_collect.ensures.ran c.try_collect.ensures.err in
    let whole : pieces_left comma c.split.result ≡ pieces comma c.args.text.now = search rules in
    plain _ c.try_collect.result (subst (λ ps. Reads (numbers_in ps) (λ v. map (λ x. x) (vec_items v)) c.try_collect.result) (ap (pieces_left comma) c.map.ensures.source ∙ whole) read)
