pub mod Words
pub mod Turns
pub mod Ranges
pub mod Outcomes
pub mod Shuffles
pub mod Samples
pub mod Reservoirs
