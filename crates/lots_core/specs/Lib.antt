pub mod Draws
pub mod Lists
pub mod Arguments
pub mod Text
pub mod Selection
pub mod Fairness
