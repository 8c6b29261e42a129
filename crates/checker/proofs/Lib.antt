-- The lemmas of this crate.
pub mod Pasting
pub mod Viewing
pub mod Sounding
pub mod Judging
pub mod Drafting
