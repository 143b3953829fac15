-- Not needed to understand the contracts: lemmas that laws of impls cite, and definitions that only
-- the clauses of private functions use.
pub mod BlockLemmas
pub mod BoundLemmas
pub mod NumberOrderLemmas
pub mod IterateLemmas
pub mod Chains
