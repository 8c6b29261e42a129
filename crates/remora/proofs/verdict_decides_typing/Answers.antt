-- The theorem, by its proof.
use Rattle.remora.proofs.Deciding.{verdict_decides_typing}
use Rattle.remora.proofs.verdict_decides_typing.Goals as goal

pub returns : goal.returns
returns c = verdict_decides_typing
