-- One number more is limited, and at the end all are.
use Rattle.std.proofs.Common.{[], ◌∷◌, ◌++◌, map, take, sym, ap, ◌∙◌, arith}
use Rattle.std.proofs.lemmas.List.{map_more, take_all}
use Rattle.scripts.specs.Numbers.{limit}
use Rattle.scripts.proofs.numbers.limited_all.Goals as goal

pub loop-number-preserved : goal.loop-number-preserved
loop-number-preserved c =
    let xs = c.args.numbers.now in
    let i = c.loop-number.number-index in
    c.in_ok-push.ensures.items
    ∙ ap (λ l. l ++ (c.limited.result ∷ [])) c.loop-number.invariant
    ∙ ap (λ n. map limit (take i xs) ++ (n ∷ [])) c.limited.ensures
    ∙ sym (map_more limit xs i 0 (omega arith))

pub returns : goal.returns
returns c = c.loop-number.invariant ∙ ap (map limit) (take_all c.loop-number.number-index c.args.numbers.now (omega arith))
