-- The definitions that the contracts of this crate cite.
pub mod Views
pub mod Changes
pub mod Sound
pub mod Forecasting
pub mod Checking
