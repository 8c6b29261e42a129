-- The theorem, by its proof.
use Rattle.remora.proofs.Bounding.{every_run_bounded}
use Rattle.remora.proofs.every_run_is_bounded.Goals as goal

pub returns : goal.returns
returns c = every_run_bounded
