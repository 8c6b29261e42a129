-- The theorem, by its proof.
use Rattle.remora.proofs.Deciding.{questions_decide_typing}
use Rattle.remora.proofs.questions_decide_typing.Goals as goal

pub returns : goal.returns
returns c = questions_decide_typing
