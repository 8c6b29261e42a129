-- The definitions that the contracts of this crate cite.
pub mod Words
pub mod Readings
pub mod Numbers
pub mod Names
pub mod Fields
pub mod Commands
pub mod Views
pub mod Prints
