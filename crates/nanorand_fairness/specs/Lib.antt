-- The definitions that give the fairness laws their meaning. To rely on the laws, a reader has to
-- check them.
pub mod Lists
pub mod InTurn
pub mod Deals
pub mod FullShuffles
pub mod Samples
pub mod Reservoirs
