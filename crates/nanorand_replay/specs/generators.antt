-- A buffered generator over any generator.
pub mod Buffered
