-- The lemmas of this crate.
mod Cuts
mod Numerals
mod Exits
mod Places
mod Runs
mod Values
mod Collected
