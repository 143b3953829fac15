-- The definitions that a reader of the contracts must trust, except `support`, which needs no
-- trust.
pub mod Calls
pub mod Words
pub mod support
