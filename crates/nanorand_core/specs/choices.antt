-- Choices that take one drawn number.
pub mod Uniform
pub mod Weighted
