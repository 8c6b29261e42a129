-- The definitions that the contracts of this crate cite.
pub mod Folds
pub mod Summaries
pub mod Texts
pub mod Readings
pub mod Prints
