-- The definitions that the contracts of this crate cite.
pub mod Tables
pub mod Operators
pub mod Faults
pub mod Denoted
pub mod Lawful
pub mod Wraps
