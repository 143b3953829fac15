-- Not needed to understand the contracts: lemmas that laws of impls cite, and definitions that only
-- the clauses of private functions use.
pub mod WyRandDrawLemmas
pub mod ChaChaLines
pub mod ChaChaRows
pub mod ChaChaInverse
pub mod ChaChaDrawLemmas
pub mod ChaChaGroupLemmas
pub mod Pcg64DrawLemmas
pub mod OnwardLemmas
