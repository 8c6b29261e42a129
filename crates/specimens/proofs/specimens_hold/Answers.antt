-- The table is computed.
use Rattle.std.proofs.Common.{refl}
use Rattle.remora.specs.Algebras.{applied}
use Rattle.remora.specs.Evaluation.{eval_line, eval_lines}
use Rattle.remora.specs.Numbers.{known, eval}
use Rattle.remora.specs.Machine.{operator_cell, fold_cell, append_cell, reverse_cell, choose, settle, return, step_line, step}
use Rattle.specimens.proofs.specimens_hold.Goals as goal

pub returns : goal.returns
unfolding applied eval_line eval_lines known eval operator_cell fold_cell append_cell reverse_cell choose settle return step_line step
returns c = refl
