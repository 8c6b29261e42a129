-- The place is that of the first name that the word equals.
use Rattle.std.proofs.Common.{◌∙◌, rules, tests}
use Rattle.std.specs.Str.{bytes_eq}
use Rattle.std.proofs.lemmas.Iterator.Adapters.{position_from-zero}
use Rattle.std.proofs.lemmas.Iterator.Search.{position_from_yields_List}
use Rattle.std.proofs.lemmas.Iterator.{YieldsList-from_slice}
use Rattle.scripts.proofs.Places.{place_of_parts}
use Rattle.scripts.proofs.names.place_in.Goals as goal

pub returns : goal.returns
returns c =
    let word = c.args.word.now in
    position_from_yields_List (λ name. bytes_eq word name.now) _ _ c.position.result c.position.ensures.ran (YieldsList-from_slice _ c.iter.ensures.rest) (λ x b q k. search (rules, tests))
    ∙ position_from-zero _ c.args.names.now ∙ place_of_parts word 0 c.args.names.now
