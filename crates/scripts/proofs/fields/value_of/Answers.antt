-- The text before the first `=` is the name, and that behind it the value.
use Rattle.std.proofs.Common.{cond, Some, None, sym, ap, ◌∙◌, lit<}
use Rattle.std.proofs.lemmas.Option.{MatchOption-at_some, MatchOption-at_none}
use Rattle.scripts.specs.Fields.{value_from}
use Rattle.scripts.specs.Views.{text_seen}
use Rattle.scripts.proofs.Places.{cut_split}
use Rattle.scripts.proofs.fields.value_of.Goals as goal

pub returns-in_err-given : goal.returns-in_err-given
returns-in_err-given c =
    let cut = MatchOption-at_none _ _ c.in_err-given.was (cut_split 61 c.args.word.now c.split_once.result c.split_once.ensures.cases (lit< tt)) in
    ap (value_from c.args.name.now) cut ∙ sym (ap text_seen c.from_residual.ensures)

pub returns-then-eq : goal.returns-then-eq
returns-then-eq c =
    let value = c.in_ok-given.value.now in
    let given = c.in_ok-given.given.now in
    let cut = MatchOption-at_some _ _ _ c.in_ok-given.was (cut_split 61 c.args.word.now c.split_once.result c.split_once.ensures.cases (lit< tt)) in
    ap (value_from c.args.name.now) cut ∙ ap (λ v. cond v (Some value) None) (sym c.eq.ensures ∙ c.if-eq.true)

pub returns-else-eq : goal.returns-else-eq
returns-else-eq c =
    let value = c.in_ok-given.value.now in
    let given = c.in_ok-given.given.now in
    let cut = MatchOption-at_some _ _ _ c.in_ok-given.was (cut_split 61 c.args.word.now c.split_once.result c.split_once.ensures.cases (lit< tt)) in
    ap (value_from c.args.name.now) cut ∙ ap (λ v. cond v (Some value) None) (sym c.eq.ensures ∙ c.if-eq.false)
