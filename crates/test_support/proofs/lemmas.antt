pub mod Asking
pub mod WasteLemmas
