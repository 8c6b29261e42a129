-- The lemmas of this crate.
mod Comments
mod Cuts
mod Goings
