-- Lemmas on the operands of a line, on cells in a frame, on lifting, on questions in their order, and on the rule for each kind.
pub mod Asking
pub mod Spreading
pub mod Repeating
pub mod Judging
pub mod Ruling
pub mod Opening
