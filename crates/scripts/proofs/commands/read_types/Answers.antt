-- The types that were collected are those of the words.
use Rattle.std.proofs.Common.{ap, ◌∙◌, subst, rules}
use Rattle.scripts.specs.Names.{type_of}
use Rattle.scripts.specs.Words.{words_of}
use Rattle.scripts.specs.Readings.{Reads}
use Rattle.scripts.specs.Commands.{types_of}
use Rattle.scripts.specs.Views.{type_seen, types_seen}
use Rattle.scripts.proofs.Collected.{collected, words_given}
use Rattle.scripts.proofs.commands.read_types.Goals as goal

pub returns : goal.returns
returns c =
    let a = c.args.algebra in
    let read = collected _ (λ w. words_of w.left.now) _ words_given _ _ (type_of a) type_seen (λ w r q h. search rules) c.map.result c.try_collect.result tt c.map.ensures.closure c.try_collect.ensures.ran c.try_collect.ensures.err in
    subst (λ ws. Reads (types_of a (words_of ws)) types_seen c.try_collect.result) (ap (λ w. w.left.now) c.map.ensures.source ∙ c.new.ensures) read
