-- The definitions that give the contracts their meaning, by topic. To rely on the contracts, a
-- reader has to check these definitions, but not those in `support`.
pub mod generators
pub mod support
pub mod replay
