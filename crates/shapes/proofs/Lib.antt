-- The lemmas of this crate.
pub mod Views
pub mod Prefixes
pub mod Products
