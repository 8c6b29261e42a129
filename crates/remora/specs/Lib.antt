-- The theory, in the order in which to read it: shapes, algebras, lines, typing, questions, evaluation, forecasts, numbers, the step machine, the calls, histories and their law.
pub mod Shapes
pub mod Algebras
pub mod Formulas
pub mod Typing
pub mod Questions
pub mod Evaluation
pub mod Forecasts
pub mod Numbers
pub mod Machine
pub mod Calls
pub mod Histories
pub mod Theorems
