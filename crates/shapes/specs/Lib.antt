-- The definitions that the contracts of this crate cite.
pub mod Axes
pub mod Equality
