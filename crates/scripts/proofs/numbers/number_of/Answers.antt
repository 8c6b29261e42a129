-- What was parsed is the number, since no sign stands before it.
use Rattle.std.proofs.Common.{◌∙◌, lit<}
use Rattle.std.proofs.lemmas.Str.Pattern.{starts_char}
use Rattle.std.proofs.lemmas.Bool.Decides.{not_from_Decides}
use Rattle.scripts.proofs.Numerals.{number_parsed}
use Rattle.scripts.proofs.numbers.number_of.Goals as goal

pub returns : goal.returns
returns c =
    let word = c.args.word.now in
    let plain = not_from_Decides c.starts_with.result (starts_char 43 word c.starts_with.result c.starts_with.ensures.cases (lit< tt) (lit< tt)) c.if-starts_with.false in
    c.ok.ensures.value ∙ number_parsed word plain c.parse.result c.parse.ensures.value.0
