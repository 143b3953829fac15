-- Samples without replacement.
pub mod Samples
pub mod Reservoir
