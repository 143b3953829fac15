pub mod MatrixLemmas
pub mod QuarterLemmas
pub mod InverseLemmas
pub mod ChaChaStateLemmas
pub mod GroupLemmas
pub mod RowLemmas
pub mod SavedLemmas
