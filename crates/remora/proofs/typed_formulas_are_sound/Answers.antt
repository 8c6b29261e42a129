-- The theorem, by its proof.
use Rattle.remora.proofs.Deciding.{typed_formulas_are_sound}
use Rattle.remora.proofs.typed_formulas_are_sound.Goals as goal

pub returns : goal.returns
returns c = typed_formulas_are_sound
