-- Generators in general: their blocks and requests, the state after many draws, and tests of
-- equality.
pub mod Blocks
pub mod Cycles
pub mod Equality
