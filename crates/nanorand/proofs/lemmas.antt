pub mod cycles
pub mod generators
pub mod chacha
