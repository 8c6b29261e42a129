-- The proofs: frames, typing, evaluation, the store and the machine, then histories.
pub mod Prefixes
mod Checking
mod Lifting
mod Sizes
mod Simulation
mod Regions
mod Bridging
mod Running
mod Agreeing
mod Following
pub mod Holding
mod Bounding
pub mod Deciding
