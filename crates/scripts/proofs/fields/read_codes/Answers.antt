-- What is no path is a list.
use Rattle.std.proofs.Common.{ap, ◌∙◌, lit<}
use Rattle.std.proofs.lemmas.Str.Pattern.{strip_prefix_char}
use Rattle.std.proofs.lemmas.Option.{MatchOption-at_none}
use Rattle.scripts.specs.Fields.{codes_from, codes_said}
use Rattle.scripts.specs.Numbers.{listed}
use Rattle.scripts.proofs.Exits.{reads_break, blames_like, then_wrong}
use Rattle.scripts.proofs.Numerals.{behind_seen}
use Rattle.scripts.proofs.fields.read_codes.Goals as goal

pub returns-in_err-read_list-in-None : goal.returns-in_err-read_list-in-None
returns-in_err-read_list-in-None c =
    let value = c.args.value.now in
    let seen = behind_seen 64 value _ (strip_prefix_char 64 value c.strip_prefix.result c.strip_prefix.ensures.cases (lit< tt)) in
    let plain = MatchOption-at_none _ _ c.in-None.is seen in
    let exit = c.from_residual-in_err-read_list-in-None in
    reads_break _ _ exit.result _ exit.ensures.1 (blames_like (listed value) (codes_said value) _ (λ f e. ap (codes_from value) plain ∙ then_wrong _ _ f e) c.in_err-read_list-in-None.ensures)
