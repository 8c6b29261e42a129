-- The definitions that the contracts of this crate cite.
pub mod Typings
pub mod Plans
pub mod Parameters
