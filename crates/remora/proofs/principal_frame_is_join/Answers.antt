-- The theorem, by its proof.
use Rattle.remora.proofs.Deciding.{principal_frame_is_join}
use Rattle.remora.proofs.principal_frame_is_join.Goals as goal

pub returns : goal.returns
returns c = principal_frame_is_join
