-- A place is below the count of the names.
use Rattle.std.proofs.Common.{IfSome, map, ◌+◌, ◌<◌, length, arith, subst, sym, ◌∙◌, Option, ℕ}
use Rattle.std.proofs.lemmas.List.{length-map}
use Rattle.scripts.proofs.Places.{place_below}
use Rattle.scripts.proofs.names.named_or_number.Goals as goal

pub overflow_cast-result : goal.overflow_cast-result
overflow_cast-result c =
    let texts = map (λ (name : _). name.now) c.args.names.now in
    let below : c.in-Some.place < 0 + length texts = subst (λ (o : Option ℕ). IfSome o (λ i. i < 0 + length texts)) (sym c.place_in.ensures ∙ c.in-Some.is) (place_below c.args.word.now 0 texts) in
    omega (arith, below, c.requires, length-map c.args.names.now (λ (name : _). name.now))
