-- The names of the set are those that the field is looked for in.
use Rattle.std.proofs.Common.{ap, ◌∙◌}
use Rattle.scripts.specs.Fields.{is_in}
use Rattle.scripts.proofs.Places.{is_in_parts}
use Rattle.scripts.proofs.fields.is_field.Goals as goal

pub returns : goal.returns
returns c =
    let name = c.args.name.now in
    c.contains.ensures.value ∙ is_in_parts name c.names_of.result.now ∙ ap (λ names. is_in names name) c.names_of.ensures
