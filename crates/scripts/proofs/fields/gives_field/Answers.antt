-- The text before the first `=` is the name.
use Rattle.std.proofs.Common.{sym, ap, ◌∙◌, lit<}
use Rattle.std.proofs.lemmas.Option.{MatchOption-at_some, MatchOption-at_none}
use Rattle.scripts.specs.Fields.{field_names, given_in}
use Rattle.scripts.proofs.Places.{cut_split}
use Rattle.scripts.proofs.fields.gives_field.Goals as goal

pub returns-in-Some : goal.returns-in-Some
returns-in-Some c =
    let cut = MatchOption-at_some _ _ _ c.in-Some.is (cut_split 61 c.args.word.now c.split_once.result c.split_once.ensures.cases (lit< tt)) in
    c.is_field.ensures ∙ sym (ap (given_in (field_names c.args.set)) cut)

pub returns-in-None : goal.returns-in-None
returns-in-None c =
    let cut = MatchOption-at_none _ _ c.in-None.is (cut_split 61 c.args.word.now c.split_once.result c.split_once.ensures.cases (lit< tt)) in
    sym (ap (given_in (field_names c.args.set)) cut)
