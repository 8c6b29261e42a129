-- The theorem, by its proof.
use Rattle.remora.proofs.Holding.{every_history_holds}
use Rattle.remora.proofs.every_history_holds.Goals as goal

pub returns : goal.returns
returns c = every_history_holds
