-- Lemmas that the laws of impls use.
pub mod WordLemmas
