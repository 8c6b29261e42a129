-- The theorem, by its proof.
use Rattle.remora.proofs.Deciding.{histories_go_on}
use Rattle.remora.proofs.histories_go_on.Goals as goal

pub returns : goal.returns
returns c = histories_go_on
