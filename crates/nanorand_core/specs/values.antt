-- Values made from bytes, ranges of numbers, draws of numbers and their fairness.
pub mod Values
pub mod Runs
pub mod Range
pub mod Draws
pub mod RangeLimits
pub mod Fairness
pub mod Fills
