-- The definitions that the contracts of this crate cite.
pub mod Operands
pub mod Promises
